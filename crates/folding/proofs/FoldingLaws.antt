-- A sound sheet is folded by its starts, or a loop shows that no retiming does. Assumes nothing.
use mathlib.Core.Path.{◌≡◌}
use mathlib.Core.Bool.{true, false}
use mathlib.Core.List.{List, ◌∷◌}
use Prim.Native.Nat.{ℕ, ◌<◌}
use lib.ListN.{length}
use lib.IntN.{ℤ, pos}
use lib.Signed.{pos-nat_abs, yes_non_neg}
use Rattle.sheets.specs.Sheet.{Sheet, wire_of}
use Rattle.sheets.specs.Sound.{Sound}
use Rattle.folding.specs.Walks.{Loop, foldable, chain, start}
use Rattle.folding.specs.Latest.{Latest, IsChain}
use Rattle.folding.specs.Folding.{net, wait, Retiming, tap}
use Rattle.folding.proofs.RoundLaws.{Closed, loop_refutes}
use Rattle.folding.proofs.LoopFound.{loop_found}
use Rattle.folding.proofs.WaitLaws.{wait_meets, meets_wait}
use Rattle.folding.proofs.StartLaws.{chain_right, latest_right, start_meets}

pub net_closed : (s : Sheet) → Sound s → Closed (net s)
net_closed s sound e h = (sound.leaves e h, sound.meets e h)

-- the starts of a foldable sheet, its taps and its chain
pub record Foldable (s : Sheet) : Type 0 where
  pub retiming : Retiming s (λ u. pos (start (net s) u))
  pub latest_one : Latest (net s) (start (net s))
  pub tap_is : (e : ℕ) → e < length s.wires → pos (tap s (start (net s)) e) ≡ wait s (λ u. pos (start (net s) u)) e
  pub chain_is : IsChain (net s) (chain (net s))

pub folds_well : (s : Sheet) → Sound s → foldable (net s) ≡ true → Foldable s
unfolding foldable
folds_well s sound ok =
    let r : ℕ → ℤ = λ u. pos (start (net s) u) in
    let retime : Retiming s r = λ e he. meets_wait s sound.turns r e (start_meets (net s) (net_closed s sound) ok e he) in
    record {
      retiming = retime;
      latest_one = latest_right (net s) (net_closed s sound) ok sound.some_node;
      tap_is = λ e he. unfold tap in pos-nat_abs (wait s r e) (yes_non_neg {z = wait s r e} (retime e he));
      chain_is = chain_right (net s) (net_closed s sound) ok;
    }

pub loop_of : (s : Sheet) → Sound s → foldable (net s) ≡ false → (a : ℕ) × (l : List ℕ) × Loop (net s) a l
unfolding foldable
loop_of s sound bad = loop_found (net s) (net_closed s sound) bad

-- a loop leaves no retiming
pub loop_leaves_none : (s : Sheet) → Sound s → (a : ℕ) (l : List ℕ) → Loop (net s) a l → (r : ℕ → ℤ) → Retiming s r → ⊥
loop_leaves_none s sound a l loop r rt =
    loop_refutes (net s) r (a ∷ l) (wire_of s a).from loop.closed loop.short (λ e he. wait_meets s sound.turns r e (rt e he))
