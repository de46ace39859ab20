-- The totals that the code keeps are the rounds' rows: one round more, whether it is settled, and that sums fit. Assumes nothing.
use mathlib.Core.Path.{◌≡◌, refl, sym, ap, ◌∙◌}
use mathlib.Core.Logic.{inl, inr}
use mathlib.Core.Bool.{true, false}
use mathlib.Core.List.{List}
use Prim.Native.Nat.{ℕ, suc, ◌-◌, ◌<◌, ◌≤◌}
use native.Mathlib.Omega.{arith}
use Rattle.std.specs.Prelude.{Some, None}
use lib.Seq.{ext_get_or}
use lib.IntN.{ℤ, pos, negsuc, ◌+ℤ◌}
use lib.Signed.{◌≤ℤ◌}
use Rattle.times.specs.declared.Iterations.{Iterations}
use Rattle.words.proofs.Ints.{up, down, ints, le_up}
use Rattle.words.proofs.FitLaws.{fits, sum_size}
use Rattle.words.proofs.LoopLaws.{passed?, length_tab, getD_tab}
use Rattle.times.specs.Times.{iterations_at}
use Rattle.records.specs.Records.{most_nodes}
use Rattle.sheets.specs.Sheet.{most_delays}
use Rattle.folding.specs.Walks.{Net, row, settled, foldable}
use Rattle.folding.specs.Round.{round}
use Rattle.folding.proofs.RoundLaws.{Closed, length_row, round_next, round_nonpos, settled_at, falls_at}
use Rattle.folding.proofs.AlikeLaws.{better_same}
use Rattle.folding.proofs.SettleLaws.{settled_later, settled_row, chain_first, round_low}
use Rattle.rounds.specs.Rounds.{row_of, bytes_net, Wired, Moderate, Fitting, Reached, Fell}
use Rattle.rounds.specs.Settling.{Settling}

-- of up and down one is 0
pub high_up : (z : ℤ) (n : ℕ) → z ≤ℤ pos n → up z ≤ n
unfolding up down
high_up (pos m) n h = omega (arith, le_up h)
high_up (negsuc m) n h = omega arith

low_down : (z : ℤ) (n : ℕ) → negsuc n ≤ℤ z → down z ≤ suc n
unfolding up down
low_down (pos m) n h = omega arith
low_down (negsuc m) n h = omega (arith, le_up h)

-- ---- the bytes' net

module _ {b : List ℕ} {at nodes wires : ℕ} (bounds : List Iterations) (wired : Wired b at nodes wires) where
  abbrev g : Net
  g = bytes_net b at nodes wires bounds

  -- l has the totals of round k
  abbrev pub Rounded : ℕ → List Iterations → Type 0
  Rounded k l = (u : ℕ) → u < nodes → iterations_at l u ≡ round g k u

  pub closed : Closed g
  closed e h = (wired.leaves e h, wired.meets e h)

  -- the same wires over all places of the array
  pub wired_whole : Wired b at most_nodes wires
  wired_whole = record {
    some_node = omega arith;
    few_nodes = omega arith;
    few_wires = wired.few_wires;
    inside = wired.inside;
    leaves = λ e h. omega (arith, wired.leaves e h, wired.few_nodes);
    meets = λ e h. omega (arith, wired.meets e h, wired.few_nodes);
  }

  pub row_is : (k : ℕ) (l : List Iterations) → Rounded k l → row_of nodes l ≡ row g k
  row_is k l is =
      ext_get_or (pos 0) (row_of nodes l) (row g k) (length_tab nodes (iterations_at l) ∙ sym (length_row g k))
      (λ u h. let h' : u < nodes = omega (arith, length_tab nodes (iterations_at l)) in getD_tab nodes (iterations_at l) u (pos 0) h' ∙ is u h')

  module _ (k : ℕ) (l : List Iterations) (is : Rounded k l) where
    pub sum_fits : k ≤ nodes → Moderate g → Fitting g (iterations_at l)
    sum_fits few moderate e h =
        let v = g.to e in
        let d = round g k v in
        let hv = wired.meets e h in
        let s = sum_size (g.bound e) d in
        rw (is v hv)
        (fits (g.bound e +ℤ d)
        (omega (arith, s.0, high_up (g.bound e) most_delays (moderate.high e h), high_up d 0 (round_nonpos g k v hv)))
        (omega (arith, s.1, low_down (g.bound e) 15 (moderate.low e h), high_up d 0 (round_nonpos g k v hv), round_low g closed moderate.low k v hv, wired.few_nodes)))

    -- l' has what one round makes of l
    module _ (l' : List Iterations) (reached : Reached g (iterations_at l) l' wires) where
      pub rounded_more : Rounded (suc k) l'
      rounded_more u h =
          reached u
          ∙ better_same g g (iterations_at l) (round g k) u wires (is u h) (λ e he. (refl, ap (λ (z : ℤ). g.bound e +ℤ z) (is (g.to e) (wired.meets e he))))
          ∙ sym (round_next g k u h)

      pub stays_settled : Fell nodes (iterations_at l) l' false → settled g k ≡ true
      stays_settled same = elim (passed? (settled g k)) [
        | inl t ↦ t
        | inr f ↦
            let w = falls_at g k f in
            let u = w.0 in
            let fall = w.2 in
            let a = rounded_more u w.1 in
            let b = same u in
            let c = is u w.1 in
            absurd (omega ints)
      ]

      pub falls_unsettled : Fell nodes (iterations_at l) l' true → settled g k ≡ false
      falls_unsettled (u, h, fall) = elim (passed? (settled g k)) [
        | inl t ↦ absurd (let a = rounded_more u h in let b = is u h in let c = settled_at g k u t h in omega ints)
        | inr f ↦ f
      ]

    -- nothing was settled before, and now it is
    pub settled_answer : k < nodes → ((j : ℕ) → j < k → settled g j ≡ false) → settled g k ≡ true → Settling g (Some (record { totals = l; rounds = k }))
    unfolding foldable
    settled_answer h before here = record {
      settled = sym (settled_later g k (nodes - 1) here (omega arith));
      rounds = sym (chain_first g k h before here);
      totals = row_is k l is ∙ settled_row g k (nodes - 1) here (omega arith);
    }

  pub unsettled_answer : settled g (nodes - 1) ≡ false → Settling g None
  unfolding foldable
  unsettled_answer h = record { settled = sym h; rounds = tt; totals = tt }
