-- What the records of a slot bring to the inputs, one turn more of the loop, and the place that a switch reads. Assumes nothing.
use mathlib.Core.Path.{◌≡◌, sym, ap, ◌∙◌}
use mathlib.Core.Bool.{Bool, true, false}
use mathlib.Core.List.{List}
use Prim.Native.Nat.{ℕ, suc, ◌+◌, ◌*◌, ◌-◌, ◌<◌}
use native.Mathlib.Numerals.{add-one}
use native.Mathlib.Decide.{ℕ_discrete}
use native.Mathlib.Omega.{arith}
use lib.IntN.{ℤ, pos, nat_abs}
use borrow.Author.Tests.{eq-eqb, ne_eqb}
use lib.ListN.{length, get_or, set}
use lib.Seq.{get_or-set_same, get_or-set_other}
use Rattle.records.specs.Units.{kind_of}
use Rattle.records.specs.Records.{at, wire_place}
use Rattle.records.proofs.NodeLaws.{inputs_few}
use Rattle.plans.specs.declared.Plan as Head
use Rattle.plans.specs.declared.Joint.{Joint}
use Rattle.plans.specs.Heads.{joint_at}
use Rattle.plans.specs.Plan.{Switch, unit_in, node_in, switch_in, plan_format, plan_read}
use Rattle.plans.proofs.JudgingLaws.{longest_tap_ge}
use Rattle.memory.specs.Memory.{base, size}
use Rattle.memory.specs.Taken.{Taken, LinesAt}
use Rattle.inputs.specs.Inputs.{Begins, last_of, Gathered, input_place, tapped_place}
use Rattle.plans.proofs.WholeLaws.{units_so, wires_so, switch_so, switch_said}
use Rattle.memory.proofs.LineLaws.{depth_so}
use Rattle.memory.proofs.TakenLaws.{whole_taken, few_units, switch_fine, line_so}
use Rattle.memory.proofs.BlockLaws.{base_next}

-- ---- what records bring

module _ (chosen : ℕ → Bool) (place brings : ℕ → ℕ) (many n : ℕ) (l : List ℕ) (before : Gathered n chosen place brings many l) where
  -- record n is chosen: what it brings goes to its place
  pub gathered_in : length l ≡ many → chosen n ≡ true → place n < many → (w : ℕ) → w ≡ brings n → Gathered (n + 1) chosen place brings many (set l (place n) w)
  unfolding last_of
  gathered_in long picked fits w is k hk =
      rw (add-one n, picked) (elim (ℕ_discrete (place n) k) [
        | yes same ↦ rw (eq-eqb (place n) k same) (ap (λ (z : ℕ). get_or (set l z w) k 0) same ∙ get_or-set_same l k w 0 (omega arith) ∙ is)
        | no other ↦ rw (ne_eqb (place n) k other) (get_or-set_other l (place n) k w 0 (λ same. other (sym same)) ∙ before k hk)
      ])

  -- it is not chosen: nothing changes
  pub gathered_past : chosen n ≡ false → Gathered (n + 1) chosen place brings many l
  unfolding last_of
  gathered_past passed k hk = rw (add-one n, passed) (before k hk)

-- ---- the place that a switch reads

module _ (b : List ℕ) (p : Head.Plan) (t : Taken b p) where
  pub source_so : (e : ℕ) → e < p.wires → ((switch_in (plan_read b) e).source ≡ at b (9 + 7 * p.units + 9 * p.nodes + 8 * e + 5)) × ((switch_in (plan_read b) e).source < p.units)
  source_so e h = (ap (λ (w : Switch). w.source) (switch_so b p (whole_taken t) e h), omega (arith, (switch_fine b p t e h).from_unit, units_so b p (whole_taken t)))

  -- the place lies in the memory
  pub place_inside : (e : ℕ) → e < p.wires →
      base (plan_read b) (switch_in (plan_read b) e).source + ((unit_in (plan_read b) (switch_in (plan_read b) e).source).unit.depth - 1 + (switch_in (plan_read b) e).tap) < base (plan_read b) (length (plan_read b).units)
  place_inside e h =
      let pl = plan_read b in
      let q = (switch_in pl e).source in
      let few = (source_so e h).1 in
      let long = longest_tap_ge (length pl.switches) (switch_in pl) e (omega (arith, wires_so b p (whole_taken t))) in
      omega (arith, line_so b p t q few, (depth_so b p t q few).1, base_next pl q (length pl.units) (omega (arith, units_so b p (whole_taken t))))

  -- the index that the code works out, from what it read of the plan, is that place
  pub place_read : (from e : ℕ) → Begins (plan_read b) e from → e < p.wires → (source depth : ℕ) (tap : ℤ) (place : ℕ) →
      source ≡ (switch_in (plan_read b) e).source → depth ≡ (unit_in (plan_read b) source).unit.depth → tap ≡ pos (switch_in (plan_read b) e).tap → place ≡ depth - 1 + nat_abs tap →
      (from + place ≡ tapped_place (plan_read b) e) × (from + place < size (plan_read b))
  unfolding size
  place_read from e so h source depth tap place es ed et ep =
      let pl = plan_read b in
      let q = (switch_in pl e).source in
      let deep : depth ≡ (unit_in pl q).unit.depth = ed ∙ ap (λ (z : ℕ). (unit_in pl z).unit.depth) es in
      let far : nat_abs tap ≡ (switch_in pl e).tap = ap nat_abs et in
      let is : from + place ≡ suc (base pl q + ((unit_in pl q).unit.depth - 1 + (switch_in pl e).tap)) = omega arith in
      (is, omega (arith, is, place_inside e h))

  -- where the lines say that the source's places begin
  pub source_begins : (lines : List ℕ) → LinesAt (plan_read b) lines → (e source : ℕ) → e < p.wires → source ≡ (switch_in (plan_read b) e).source → Begins (plan_read b) e (get_or lines source 0)
  source_begins lines so e source h is =
      ap (λ (q : ℕ). get_or lines q 0) is ∙ so (switch_in (plan_read b) e).source (omega (arith, (source_so e h).1, units_so b p (whole_taken t)))

  -- what a switch's joint says, and that its input is one of sixteen
  pub joint_so : (e : ℕ) → e < p.wires → (j : Joint) → j ≡ joint_at b (wire_place plan_format b e) →
      (j.slot ≡ (switch_in (plan_read b) e).slot) × (2 * j.unit + j.input ≡ input_place (plan_read b) e) × (input_place (plan_read b) e < 16)
  joint_so e h j is =
      let w = switch_in (plan_read b) e in
      let f = switch_fine b p t e h in
      let few = inputs_few (kind_of (node_in (plan_read b) f.node).node.op) in
      let so = switch_said b p (whole_taken t) e h in (
        ap (λ (j : Joint). j.slot) is ∙ sym (ap (λ (w : Switch). w.slot) so),
        ap (λ (j : Joint). 2 * j.unit + j.input) is ∙ sym (ap (λ (w : Switch). 2 * w.unit + w.input) so),
        omega (arith, f.on_unit, f.input_fits, few, units_so b p (whole_taken t), few_units b p t),
      )
