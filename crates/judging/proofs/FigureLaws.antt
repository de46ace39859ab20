-- Lines and idle counts: the largest taps, switch by switch, and a unit's figures. Assumes nothing.
use mathlib.Core.Path.{◌≡◌, refl, sym, ap, ap₂, ◌∙◌}
use mathlib.Core.Logic.{inl, inr}
use mathlib.Core.Bool.{Bool, true, false, cond, ◌&&◌}
use mathlib.Core.List.{List}
use Prim.Native.Nat.{ℕ, ◌+◌, ◌-◌, max, ◌<◌, ◌≤◌}
use native.Mathlib.Numerals.{add-one}
use native.Mathlib.Decide.{ℕ_discrete}
use native.Mathlib.Omega.{arith}
use lib.Dec.{leb, eqb}
use lib.IntN.{ℤ, pos}
use lib.Signed.{le_z}
use lib.Count.{ones}
use lib.ListN.{length, get_or, set, replicate, get_or-replicate}
use lib.Seq.{get_or-set_same, get_or-set_other}
use borrow.Author.Tests.{leb-true, leb-false, eq-eqb, ne_eqb}
use Rattle.times.specs.declared.Cycles.{Cycles}
use Rattle.words.specs.Loops.{largest}
use Rattle.std.proofs.Common.{int_eq}
use Rattle.times.proofs.OrderLaws.{equal_pos}
use Rattle.words.proofs.LoopLaws.{passed?}
use Rattle.records.specs.declared.Node.{Node}
use Rattle.slots.specs.declared.Slots.{Slots}
use Rattle.records.specs.Records.{clashes}
use Rattle.slots.proofs.SlotLaws.{occupied_ones, occupied_most}
use Rattle.plans.specs.declared.Plan.{Plan as Header}
use Rattle.plans.specs.Plan.{Plan, unit_in, node_in, switch_in, plan_read}
use Rattle.plans.specs.Heads.{Whole}
use Rattle.plans.specs.Judging.{longest_tap, idle_slots}
use Rattle.plans.proofs.ReadLaws.{fold_read, units_read}
use Rattle.plans.proofs.WholeLaws.{folds_so, units_so, wires_so}
use Rattle.judging.specs.Answers.{no_cycles, TapsOf, UnitFigures, unit_right, Held, Occupied}
use Rattle.judging.proofs.SwitchLaws.{counts_of, node_fit}

-- ---- the largest taps

larger_pos : (a b : ℕ) → cond (le_z (pos a) (pos b)) (pos b) (pos a) ≡ pos (max a b)
larger_pos a b = elim (passed? (leb a b)) [
  | inl t ↦ rw t (ap pos (let l = leb-true a b t in let e : b ≡ max a b = omega arith in e))
  | inr f ↦ rw f (ap pos (let l = leb-false a b f in let e : a ≡ max a b = omega arith in e))
]

module _ (p : Plan) where
  pub taps_none : (nothing : Cycles) → nothing.0 ≡ pos 0 → TapsOf p 0 (replicate 8 nothing)
  unfolding longest_tap largest
  taps_none nothing e q h = ap (λ (c : Cycles). c.0) (get_or-replicate 8 q nothing no_cycles h) ∙ e

  -- one switch more
  pub taps_more : (n : ℕ) (l : List Cycles) → TapsOf p n l → length l ≡ 8 → (q : ℕ) → q ≡ (switch_in p n).source → q < 8 →
      (tap new : Cycles) → tap.0 ≡ pos (switch_in p n).tap → new.0 ≡ cond (le_z (get_or l q no_cycles).0 tap.0) tap.0 (get_or l q no_cycles).0 →
      TapsOf p (n + 1) (set l q new)
  unfolding longest_tap largest
  taps_more n l before long q source few tap new is taken k hk =
      let w = switch_in p n in
      let so_far : ℕ → ℕ = λ k. longest_tap n (switch_in p) k in
      rw (add-one n) (elim (ℕ_discrete q k) [
        | yes same ↦
            let here : eqb w.source k ≡ true = eq-eqb w.source k (sym source ∙ same) in
            ap (λ (c : Cycles). c.0) (ap (λ (z : ℕ). get_or (set l z new) k no_cycles) same ∙ get_or-set_same l k new no_cycles (omega arith))
            ∙ taken ∙ ap₂ (λ (a b : ℤ). cond (le_z a b) b a) (ap (λ (z : ℕ). (get_or l z no_cycles).0) same ∙ before k hk) is
            ∙ larger_pos (so_far k) w.tap ∙ rw here refl
        | no other ↦
            let there : eqb w.source k ≡ false = ne_eqb w.source k (λ same. other (source ∙ same)) in
            ap (λ (c : Cycles). c.0) (get_or-set_other l q k new no_cycles (λ same. other (sym same)))
            ∙ before k hk ∙ rw there (ap pos (let e : so_far k ≡ max (so_far k) 0 = omega arith in e))
      ])

-- ---- idle counts

pub ones_most : (p : Plan) (q : ℕ) (tap : ℤ) (mask : ℕ) → UnitFigures p q tap mask → ones mask ≤ p.fold
ones_most p q tap mask f = omega (arith, f.ones_are, occupied_most p.fold (length p.nodes) (λ x. (node_in p x).node) q)

-- ---- a unit's figures

module _ (b : List ℕ) (p : Header) where
  -- as the code compares them
  pub figures_so : Whole b p → (q : ℕ) (tap line : ℤ) (mask idle : ℕ) → UnitFigures (plan_read b) q tap mask → line ≡ pos (unit_in (plan_read b) q).line →
      idle ≡ (unit_in (plan_read b) q).idle → (int_eq line tap && eqb idle (p.fold - ones mask)) ≡ unit_right (plan_read b) q
  figures_so w q tap line mask idle f line_is idle_is =
      let pl = plan_read b in
      let less : p.fold - ones mask ≡ idle_slots pl q = ap₂ (λ (n k : ℕ). n - k) (folds_so b p w) f.ones_are in
      ap₂ (λ (x y : Bool). x && y) (ap₂ int_eq line_is f.tap_is ∙ equal_pos (unit_in pl q).line (longest_tap (length pl.switches) (switch_in pl) q)) (ap₂ eqb idle_is less)

  -- by the largest taps and the masks
  pub figures_of : Held b p → (taps : List Cycles) (masks : List ℕ) → TapsOf (plan_read b) p.wires taps → Occupied (plan_read b) masks →
      (q : ℕ) → q < p.units → UnitFigures (plan_read b) q (get_or taps q no_cycles).0 (get_or masks q 0)
  figures_of h taps masks longest occ q l =
      let pl = plan_read b in
      let w = h.front.whole in
      let c = counts_of b p h.front in
      let node : ℕ → Node = λ x. (node_in pl x).node in
      let slots : Slots = record { clash = clashes (length pl.nodes) node; occupied = masks } in
      record {
        tap_is = longest q (omega (arith, units_so b p w, units_read b, c.units_most)) ∙ ap (λ (n : ℕ). pos (longest_tap n (switch_in pl) q)) (wires_so b p w);
        ones_are = occupied_ones pl.fold (length pl.nodes) node slots q (record { clash_is = refl; taken = occ.taken; small = occ.small })
            (omega (arith, fold_read b, c.fold_most)) (λ x k. (node_fit b p h.front x k).in_turn);
      }
