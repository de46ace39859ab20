-- One wire more, and one round more, of choices: a node whose total falls keeps the wire by which it fell. Assumes nothing.
use mathlib.Core.Path.{◌≡◌, refl, sym, ap, ◌∙◌, subst}
use mathlib.Core.Logic.{inl, inr}
use mathlib.Core.Bool.{false, true≢false}
use mathlib.Core.List.{List}
use Prim.Native.Nat.{ℕ, suc, ◌+◌, ◌*◌, ◌<◌, ◌≤◌}
use native.Mathlib.Nat.{eq-or-lt_of_le}
use native.Mathlib.Decide.{ℕ_discrete}
use native.Mathlib.Omega.{arith}
use Rattle.std.specs.Prelude.{Some}
use lib.ListN.{length, get_or, set, length-set}
use lib.Seq.{get_or-set_same, get_or-set_other}
use lib.IntN.{ℤ, ◌+ℤ◌}
use lib.Signed.{◌<ℤ◌}
use Rattle.times.specs.declared.Iterations.{Iterations}
use Rattle.words.proofs.Ints.{ints}
use Rattle.times.specs.Times.{iterations_at}
use Rattle.records.specs.Records.{most_nodes}
use Rattle.folding.specs.Walks.{Net, settled}
use Rattle.folding.specs.Round.{round}
use Rattle.rounds.specs.Rounds.{bytes_net, Wired, Relaxed, Reached}
use Rattle.rounds.proofs.StepLaws.{number_set_same, number_set_other}
use Rattle.rounds.proofs.RowLaws.{Rounded, rounded_more, stays_settled}
use Rattle.falls.specs.Choices.{Reaches, Falls, Picking}

pub picking_none : (g : Net) (k : ℕ) (l : List Iterations) (choices : List ℕ) (r : ℕ) → Picking g (iterations_at l) k l choices r
picking_none g k l choices r = record { lower = λ u. omega ints; picked = λ u f. absurd (omega ints); last = inl (λ u. refl) }

-- wire e of round k + 1 put down the total of node w
module _ (g : Net) (d : ℕ → ℤ) (k e w : ℕ) (l l' : List Iterations) (choices : List ℕ) (r : ℕ) (node : g.from e < g.nodes) (h : e < g.wires)
    (more : Relaxed g d e l l' (Some w)) (long : g.from e < length l') (room : most_nodes * k + w < length choices) (before : Picking g d k l choices r) where
  abbrev y : Iterations
  y = more.2

  leaves : w ≡ g.from e
  leaves = more.0

  sum : y.0 ≡ g.bound e +ℤ d (g.to e)
  sum = more.3

  is : l' ≡ set l w y
  is = more.4

  put : iterations_at l' w ≡ y.0
  put = ap (λ (x : List Iterations). iterations_at x w) is ∙ number_set_same l w y (omega (arith, leaves, ap length is, length-set {A = Iterations}))

  other : (u : ℕ) → ¬ (u ≡ w) → iterations_at l' u ≡ iterations_at l u
  other u s = ap (λ (x : List Iterations). iterations_at x u) is ∙ number_set_other l w u y s

  below : iterations_at l' w <ℤ d w
  below = let a = more.1 in let b = before.lower w in omega (ints, put, sum)

  pub picking_more : Picking g d k l' (set choices (most_nodes * k + w) e) w
  picking_more = record {
    lower = λ u. elim (ℕ_discrete u w) [
      | yes s ↦ rw s (let a = below in omega ints)
      | no s ↦ rw (other u s) (before.lower u)
    ];
    picked = λ u f. elim (ℕ_discrete u w) [
      | yes s ↦
          rw (s, put, get_or-set_same choices (most_nodes * k + w) e 0 room)
          (record { wire = h; leaves = sym leaves; comes = omega (ints, sum) })
      | no s ↦
          rw (other u s, get_or-set_other choices (most_nodes * k + w) (most_nodes * k + u) e 0 (λ z. s (omega arith)))
          (before.picked u (rw (other u s) at f))
    ];
    last = inr (rw leaves node, below);
  }

-- the choices of the first k rounds
abbrev pub Chosen : Net → ℕ → List ℕ → Type 0
Chosen g k choices = (j u : ℕ) → j < k → u < g.nodes → Falls g j u → Reaches g (round g j) (round g (suc j) u) u (get_or choices (most_nodes * j + u) 0)

-- they are kept where the places before those of round k + 1 are
pub chosen_kept : (g : Net) (k : ℕ) (choices choices' : List ℕ) → g.nodes ≤ most_nodes → ((i : ℕ) → i < most_nodes * k → get_or choices' i 0 ≡ get_or choices i 0) →
    Chosen g k choices → Chosen g k choices'
chosen_kept g k choices choices' few same chosen j u h hu f = rw (same (most_nodes * j + u) (omega arith)) (chosen j u h hu f)

-- ---- round k + 1 is over

module _ {b : List ℕ} {at nodes wires : ℕ} (bounds : List Iterations) (wired : Wired b at nodes wires) (k : ℕ) (l l' : List Iterations) (choices : List ℕ) (r : ℕ)
    (is : Rounded bounds wired k l) (reached : Reached (bytes_net b at nodes wires bounds) (iterations_at l) l' wires)
    (picking : Picking (bytes_net b at nodes wires bounds) (iterations_at l) k l' choices r) where
  abbrev g : Net
  g = bytes_net b at nodes wires bounds

  next : Rounded bounds wired (suc k) l'
  next = rounded_more bounds wired k l is l' reached

  pub chosen_more : Chosen g k choices → Chosen g (suc k) choices
  chosen_more chosen j u h hu f = elim (eq-or-lt_of_le h) [
    | inl q ↦
        let same : j ≡ k = omega arith in
        subst (λ (z : ℕ). Falls g z u → Reaches g (round g z) (round g (suc z) u) u (get_or choices (most_nodes * z + u) 0)) (sym same)
        (λ f. let p = picking.picked u (rw (is u hu, next u hu) f) in
        record { wire = p.wire; leaves = p.leaves; comes = rw (is (g.to (get_or choices (most_nodes * k + u) 0)) (wired.meets _ p.wire), next u hu) at p.comes }) f
    | inr q ↦ chosen j u (omega arith) hu f
  ]

  pub last_fell : settled g k ≡ false → (r < nodes) × Falls g k r
  last_fell f = elim picking.last [
    | inl same ↦ absurd (true≢false (sym (stays_settled bounds wired k l is l' reached same) ∙ f))
    | inr w ↦ (w.0, rw (is r w.0, next r w.0) at w.1)
  ]
