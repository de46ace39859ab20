-- Starts, taps and the register figure fit their two bytes; a loop fits where the plan would. Assumes nothing.
use mathlib.Core.Path.{◌≡◌, ap, subst}
use mathlib.Core.Logic.{inl, inr}
use mathlib.Core.Bool.{cond}
use mathlib.Core.List.{List, [], ◌∷◌}
use Prim.Native.Nat.{ℕ, zero, suc, ◌+◌, ◌*◌, ◌-◌, ◌/◌, ◌<◌, ◌≤◌}
use native.Mathlib.Nat.{mul-le-mul_left, div-lt_iff_lt-mul}
use native.Mathlib.Omega.{arith}
use lib.Dec.{eqb}
use lib.ListN.{length}
use lib.IntN.{ℤ, pos, negsuc, ◌-ℤ◌, ◌*ℤ◌}
use lib.Signed.{le_z, ◌≤ℤ◌}
use Rattle.words.proofs.Ints.{up, down, sumℤ, difℤ, timesℤ, le_up, up_le, lt_up, eq_up, leZ_true, leZ_false}
use Rattle.words.specs.Loops.{total}
use Rattle.words.proofs.LoopLaws.{passed?, largest_le, total_le}
use Rattle.words.specs.Words.{floor}
use Rattle.words.proofs.FloorLaws.{floor_up, floor_down}
use Rattle.sheets.specs.Sheet.{Sheet, sheet_of, node_of, wire_of}
use Rattle.sheets.specs.Sound.{Sound}
use Rattle.sheets.proofs.SheetLaws.{Passed, counts_of, nodes_is, unit_parts, node_parts, wire_parts}
use Rattle.folding.specs.Walks.{Walk, along, Loop, latest, deepest, start}
use Rattle.folding.specs.Round.{round}
use Rattle.folding.specs.Folding.{net, depth_of, raw, bound, wait, tap}
use Rattle.folding.specs.Lifetime.{longest_wait, first_live, last_live, falls, live, registers}
use Rattle.folding.proofs.RoundLaws.{round_met, round_nonpos}
use Rattle.folding.proofs.OnceLaws.{few}
use Rattle.folding.proofs.LoopFound.{walk_below}
use Rattle.folding.proofs.LiveLaws.{falls_le}
use Rattle.folding.proofs.StartLaws.{start_is, deepest_met}
use Rattle.folding.proofs.FoldingLaws.{Foldable, net_closed}

-- the paper's ranges, as far as sizes ask them
pub record Small (s : Sheet) : Type 0 where
  pub fold : s.fold ≤ 32
  pub nodes : length s.nodes ≤ 48
  pub depth : (x : ℕ) → x < length s.nodes → depth_of s x ≤ 16
  pub delays : (e : ℕ) → e < length s.wires → (wire_of s e).delays ≤ 63

module _ (s : Sheet) (sound : Sound s) (small : Small s) where
  -- no bound is below −16
  bound_ge : (e : ℕ) → e < length s.wires → negsuc 15 ≤ℤ bound s e
  unfolding bound raw up down
  bound_ge e h =
      let n = s.fold in
      let y = (wire_of s e).from in
      let hy = sound.leaves e h in
      let D = pos (n * (wire_of s e).delays + (node_of s (wire_of s e).to).slot) -ℤ pos (depth_of s y + (node_of s y).slot) in
      floor_up n sound.turns (negsuc 15) D
      (up_le (omega (
        arith,
        (timesℤ n (negsuc 15)).0,
        (timesℤ n (negsuc 15)).1,
        difℤ (pos (n * (wire_of s e).delays + (node_of s (wire_of s e).to).slot)) (pos (depth_of s y + (node_of s y).slot)),
        small.depth y hy,
        sound.in_turn y hy,
        sound.turns,
      )))

  along_ge : (es : List ℕ) (u v : ℕ) → Walk (net s) es u v → down (along (net s) es) ≤ 16 * length es + up (along (net s) es)
  unfolding up down
  along_ge [] u v h = omega arith
  along_ge (e ∷ es) u v h =
      let ih = along_ge es (wire_of s e).to v h.2 in
      omega (arith, le_up (bound_ge e h.0), sumℤ (bound s e) (along (net s) es))

  round_ge : (k u : ℕ) → u < length s.nodes → down (round (net s) k u) ≤ 16 * k + up (round (net s) k u)
  round_ge k u hu =
      let w = round_met (net s) (net_closed s sound) k u hu in
      subst (λ (z : ℤ). down z ≤ 16 * k + up z) w.4 (let a = along_ge w.0 u w.1 w.2 in omega (arith, w.3))

  pub start_le : (u : ℕ) → u < length s.nodes → start (net s) u ≤ 752
  unfolding up down
  start_le u h =
      let n = length s.nodes in
      let hs = latest (net s) in
      let low = deepest hs n in
      let r = deepest_met hs n (λ u l. round_nonpos (net s) (n - 1) u l) sound.some_node in
      let is : pos (start (net s) u) ≡ round (net s) (n - 1) u -ℤ low = start_is (net s) u h in
      omega (arith, eq_up is, difℤ (round (net s) (n - 1) u) low, le_up (round_nonpos (net s) (n - 1) u h), eq_up r.2, round_ge (n - 1) r.0 r.1, small.nodes)

  -- a tap is below 816 turns
  pub tap_lt : Foldable s → (e : ℕ) → e < length s.wires → tap s (start (net s)) e < 816 * s.fold
  unfolding wait raw up down
  tap_lt ok e h =
      let n = s.fold in
      let y = (wire_of s e).from in
      let x = (wire_of s e).to in
      let a = pos (start (net s) x) in
      let b = pos (start (net s) y) in
      let D = pos (n * (wire_of s e).delays + (node_of s x).slot) -ℤ pos (depth_of s y + (node_of s y).slot) in
      let sx : n * start (net s) x ≤ n * 752 = mul-le-mul_left n (start_le x (sound.meets e h)) in
      let wx : n * (wire_of s e).delays ≤ n * 63 = mul-le-mul_left n (small.delays e h) in
      let l : up (a -ℤ b) + start (net s) y ≡ down (a -ℤ b) + start (net s) x = omega (arith, difℤ a b) in
      let nl : n * (up (a -ℤ b) + start (net s) y) ≡ n * (down (a -ℤ b) + start (net s) x) = ap (λ (z : ℕ). n * z) l in
      omega (
        arith,
        eq_up (ok.tap_is e h),
        sumℤ D (pos n *ℤ (a -ℤ b)),
        difℤ (pos (n * (wire_of s e).delays + (node_of s x).slot)) (pos (depth_of s y + (node_of s y).slot)),
        (timesℤ n (a -ℤ b)).0,
        (timesℤ n (a -ℤ b)).1,
        sound.in_turn x (sound.meets e h),
      )

  pub tap_fits : Foldable s → (e : ℕ) → e < length s.wires → tap s (start (net s)) e < 65536
  tap_fits ok e h = omega (arith, tap_lt ok e h, small.fold)

  pub last_lt : Foldable s → (u : ℕ) → longest_wait s (start (net s)) u < 816 * s.fold
  unfolding longest_wait
  last_lt ok u =
      let b = largest_le (length s.wires) (λ e. cond (eqb (wire_of s e).from u) (tap s (start (net s)) e) 0) (816 * s.fold - 1)
      (λ e h. elim (passed? (eqb (wire_of s e).from u)) [ inl t ↦ rw t (omega (arith, tap_lt ok e h)) | inr f ↦ rw f (omega arith) ]) in
      omega (arith, sound.turns)

  total_const : (n c : ℕ) → total n (λ i. c) ≡ n * c
  unfolding total
  total_const zero c = omega arith
  total_const (suc n) c = omega (arith, total_const n c)

  live_le : Foldable s → (t : ℕ) → t < s.fold → live s (start (net s)) t ≤ 816 * length s.nodes
  unfolding live
  live_le ok t ht =
      let n = s.fold in
      let a = total_le (length s.nodes) (λ u. falls n (first_live s u) (last_live s (start (net s)) u) t) (λ u. 816)
      (λ u hu. let d : longest_wait s (start (net s)) u / n < 816 = (div-lt_iff_lt-mul sound.turns).1 (last_lt ok u) in omega (arith, falls_le n sound.turns ((node_of s u).slot + depth_of s u) (longest_wait s (start (net s)) u) t ht)) in
      omega (arith, total_const (length s.nodes) 816)

  pub registers_fit : Foldable s → registers s (start (net s)) < 65536
  unfolding registers
  registers_fit ok = let a = largest_le s.fold (live s (start (net s))) (816 * length s.nodes) (λ t ht. live_le ok t ht) in omega (arith, small.nodes)

  -- a loop meets each node once, so it has no more wires than there are nodes
  pub loop_short : (a : ℕ) (l : List ℕ) → Loop (net s) a l → suc (length l) ≤ length s.nodes
  loop_short a l lp =
      few (λ e. (wire_of s e).from) (length s.nodes) (a ∷ l) lp.once
      (walk_below (net s) (a ∷ l) (wire_of s a).from (wire_of s a).from (net_closed s sound) lp.closed)

pub small_of : (b : List ℕ) → Passed b → Small (sheet_of b)
small_of b p = record {
  fold = unfold sheet_of in (counts_of b p).fold_most;
  nodes = omega (arith, (counts_of b p).nodes_most, nodes_is b);
  depth = λ x h. (unit_parts b p (node_of (sheet_of b) x).unit (node_parts b p x h).on_unit).depth_most;
  delays = λ e h. (wire_parts b p e h).delays_most;
}

-- a bound is from −16 to 63
module _ (s : Sheet) (sound : Sound s) (small : Small s) where
  pub bound_low : (e : ℕ) → e < length s.wires → negsuc 15 ≤ℤ bound s e
  bound_low e h = bound_ge s sound small e h

  pub bound_high : (e : ℕ) → e < length s.wires → bound s e ≤ℤ pos 63
  unfolding bound raw up down
  bound_high e h =
      let n = s.fold in
      let y = (wire_of s e).from in
      let x = (wire_of s e).to in
      let D = pos (n * (wire_of s e).delays + (node_of s x).slot) -ℤ pos (depth_of s y + (node_of s y).slot) in
      let w : n * (wire_of s e).delays ≤ n * 63 = mul-le-mul_left n (small.delays e h) in
      elim (passed? (le_z (pos 64) (floor D n))) [
        | inl t ↦
            let k = le_up (floor_down n sound.turns (pos 64) D (leZ_true (pos 64) (floor D n) t)) in
            absurd (omega (
              arith,
              k,
              (timesℤ n (pos 64)).0,
              (timesℤ n (pos 64)).1,
              difℤ (pos (n * (wire_of s e).delays + (node_of s x).slot)) (pos (depth_of s y + (node_of s y).slot)),
              sound.in_turn x (sound.meets e h),
            ))
        | inr f ↦ up_le (omega (arith, lt_up (leZ_false (pos 64) (floor D n) f)))
      ]
