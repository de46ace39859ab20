-- A switch's ranges by the masks, and the reader's answer for it. Assumes nothing.
use mathlib.Core.Path.{◌≡◌, refl, sym, ap, ◌∙◌}
use mathlib.Core.Logic.{inl, inr}
use mathlib.Core.Bool.{Bool, false, not, ◌&&◌, and-true, and-false, and_assoc}
use mathlib.Core.List.{List}
use Prim.Native.Nat.{ℕ, ◌+◌, ◌<◌, ◌≤◌}
use native.Mathlib.Decide.{dec_le, ℕ_discrete}
use native.Mathlib.Omega.{arith}
use lib.Dec.{ltb, leb, eqb}
use lib.ListN.{length, get_or, set}
use lib.Seq.{get_or-set_same, get_or-set_other}
use borrow.Author.Tests.{lt-ltb, le-ltb, eqb-true}
use Rattle.std.specs.Prelude.{Ok}
use Rattle.words.specs.Loops.{some_of, unless}
use Rattle.words.specs.Masks.{in_mask}
use Rattle.words.proofs.LoopLaws.{passed?, and_split, some_of_cong, some_and}
use Rattle.records.specs.Units.{last_op, kind_of, inputs, inputs_of, k_fits}
use Rattle.records.specs.Records.{wire_place, clashes, runs_in}
use Rattle.slots.specs.declared.Slots.{Slots}
use Rattle.slots.specs.declared.feeding.Input.{Input}
use Rattle.slots.specs.Slots.{Masked, SlotsOf}
use Rattle.slots.specs.Feeding.{InputMasked}
use Rattle.records.proofs.ReadingLaws.{Counts, counts_split, record_split}
use Rattle.records.proofs.NodeLaws.{NodeFits, node_split, inputs_few}
use Rattle.records.proofs.AnswerLaws.{got_none}
use Rattle.plans.specs.declared.Plan.{Plan as Header}
use Rattle.plans.specs.declared.Joint.{Joint}
use Rattle.plans.specs.Plan.{Plan, Switch, unit_in, node_in, switch_in, plan_format, plan_read}
use Rattle.plans.specs.Heads.{joint_at, Whole}
use Rattle.plans.specs.Judging.{switch_fits}
use Rattle.plans.proofs.ReadLaws.{fold_read, units_read, nodes_read, switches_read}
use Rattle.plans.proofs.JudgingLaws.{SwitchFits, switch_split}
use Rattle.plans.proofs.WholeLaws.{folds_so, units_so, nodes_so, switch_said}
use Rattle.judging.specs.Answers.{as_switch, fits_by, switch_fault, switch_answer, clash_fault, input_of, Fronted, Held, Occupied, InputsOf}

-- ---- nodes in their ranges

module _ (b : List ℕ) (p : Header) (f : Fronted b p) where
  pub counts_of : Counts b
  counts_of = counts_split b f.counts

  pub node_fit : (x : ℕ) → x < length (plan_read b).nodes →
      NodeFits (plan_read b).fold (length (plan_read b).units) (λ q. (unit_in (plan_read b) q).unit) (node_in (plan_read b) x).node
  node_fit x l = node_split _ _ _ (node_in (plan_read b) x).node (f.node_ok x (omega (arith, nodes_read b)))

  -- the masks have room for them
  pub node_masked : (x : ℕ) → x < length (plan_read b).nodes → Masked (node_in (plan_read b) x).node
  node_masked x l =
      let pl = plan_read b in
      let n = (node_in pl x).node in
      let g = node_fit x l in
      let t = and_split (ltb n.unit (length pl.units) && ltb n.slot pl.fold && leb n.op last_op && eqb (unit_in pl n.unit).unit.kind (kind_of n.op)) (k_fits n.op n.k) (f.node_ok x (omega (arith, nodes_read b))) in
      record {
        on_unit = omega (arith, g.on_unit, units_read b, counts_of.units_most);
        in_turn = omega (arith, g.in_turn, fold_read b, counts_of.fold_most);
        of_op = t.1;
      }

  -- a switch's node has the inputs of its unit's kind
  fed_node : (q v i : ℕ) →
      some_of (length (plan_read b).nodes) (λ x. runs_in q v (node_in (plan_read b) x).node && ltb i (inputs_of (node_in (plan_read b) x).node.op))
      ≡ (ltb i (inputs (unit_in (plan_read b) q).unit.kind) && some_of (length (plan_read b).nodes) (λ x. runs_in q v (node_in (plan_read b) x).node))
  fed_node q v i =
      let pl = plan_read b in
      let has = ltb i (inputs (unit_in pl q).unit.kind) in
      some_of_cong (length pl.nodes) _ (λ x. has && runs_in q v (node_in pl x).node) each ∙ some_and (length pl.nodes) has (λ x. runs_in q v (node_in pl x).node)
    where
      each : (x : ℕ) → x < length (plan_read b).nodes →
          (runs_in q v (node_in (plan_read b) x).node && ltb i (inputs_of (node_in (plan_read b) x).node.op))
          ≡ (ltb i (inputs (unit_in (plan_read b) q).unit.kind) && runs_in q v (node_in (plan_read b) x).node)
      each x l =
          let pl = plan_read b in
          let n = (node_in pl x).node in
          elim (passed? (runs_in q v n)) [
            | inl t ↦
                let on : n.unit ≡ q = eqb-true n.unit q (and_split (eqb n.unit q) (eqb n.slot v) t).0 in
                let kind : kind_of n.op ≡ (unit_in pl q).unit.kind = sym (node_fit x l).of_kind ∙ ap (λ (q : ℕ). (unit_in pl q).unit.kind) on in
                rw (t, kind) (sym (and-true (ltb i (inputs (unit_in pl q).unit.kind))))
            | inr g ↦ rw g (sym (and-false (ltb i (inputs (unit_in pl q).unit.kind))))
          ]

  -- ---- a switch's ranges

  pub off_unit : (w : Switch) → length (plan_read b).units ≤ w.unit → switch_fits (plan_read b) w ≡ false
  off_unit w h = rw (le-ltb w.unit (length (plan_read b).units) h) refl

  pub off_turn : (w : Switch) → (plan_read b).fold ≤ w.slot → switch_fits (plan_read b) w ≡ false
  off_turn w h = rw (le-ltb w.slot (plan_read b).fold h, and-false (ltb w.unit (length (plan_read b).units))) refl

  pub on_both : (w : Switch) (masks : List ℕ) → Occupied (plan_read b) masks → w.unit < length (plan_read b).units → w.slot < (plan_read b).fold →
      switch_fits (plan_read b) w
      ≡ (ltb w.source (length (plan_read b).units) && ltb w.input (inputs (unit_in (plan_read b) w.unit).unit.kind) && in_mask (get_or masks w.unit 0) w.slot)
  on_both w masks occ hu hs =
      let pl = plan_read b in
      let source = ltb w.source (length pl.units) in
      let has = ltb w.input (inputs (unit_in pl w.unit).unit.kind) in
      rw (lt-ltb w.unit (length pl.units) hu, lt-ltb w.slot pl.fold hs, fed_node w.unit w.slot w.input, sym (occ.taken w.unit w.slot))
      (sym (and_assoc source has (in_mask (get_or masks w.unit 0) w.slot)))

  -- the code's test is that of the ranges
  pub fits_so : (masks few : List ℕ) → Occupied (plan_read b) masks → InputsOf (plan_read b) p.units few → (j : Joint) → fits_by p masks few j ≡ switch_fits (plan_read b) (as_switch j)
  fits_so masks few occ ins j =
      let pl = plan_read b in
      let us = units_so b p f.whole in
      let vs = folds_so b p f.whole in
      elim (dec_le p.units j.unit) [
        | yes far ↦ rw (le-ltb j.unit p.units far) (sym (off_unit (as_switch j) (omega (arith, us))))
        | no near ↦ elim (dec_le p.fold j.slot) [
          | yes far ↦ rw (le-ltb j.slot p.fold far, and-false (ltb j.unit p.units)) (sym (off_turn (as_switch j) (omega (arith, vs))))
          | no turn ↦
              let on : j.unit < p.units = omega arith in
              let at : j.slot < p.fold = omega arith in
              rw (lt-ltb j.unit p.units on, lt-ltb j.slot p.fold at, ins j.unit on, us) (sym (on_both (as_switch j) masks occ (omega (arith, us)) (omega (arith, vs))))
        ]
      ]

  -- what the reader got of switch e
  pub joint_fits : (e : ℕ) → e < p.wires → (j : Joint) → j ≡ joint_at b (wire_place plan_format b e) →
      switch_fits (plan_read b) (as_switch j) ≡ switch_fits (plan_read b) (switch_in (plan_read b) e)
  joint_fits e l j is = ap (λ (j : Joint). switch_fits (plan_read b) (as_switch j)) is ∙ sym (ap (switch_fits (plan_read b)) (switch_said b p f.whole e l))

  -- the input of a switch in its ranges has room in the masks
  fit_masked : (e : ℕ) → SwitchFits (plan_read b) (switch_in (plan_read b) e) → InputMasked (input_of (plan_read b) e)
  fit_masked e g =
      let n = (node_in (plan_read b) g.node).node in
      record {
        on_unit = omega (arith, g.on_unit, units_read b, counts_of.units_most);
        in_turn = omega (arith, g.in_turn, fold_read b, counts_of.fold_most);
        one_of = omega (arith, g.input_fits, inputs_few (kind_of n.op));
      }

-- the inputs of one unit more
pub inputs_more : (p : Plan) (q x : ℕ) (l : List ℕ) → InputsOf p q l → q < length l → x ≡ inputs (unit_in p q).unit.kind → InputsOf p (q + 1) (set l q x)
inputs_more p q x l before fits is k h = elim (ℕ_discrete k q) [
  | yes same ↦ rw same (get_or-set_same l q x 0 fits ∙ is)
  | no other ↦ get_or-set_other l q k x 0 other ∙ before k (omega arith)
]

-- ---- the masks of the plan's nodes

module _ (b : List ℕ) (p : Header) (w : Whole b p) (s : Slots) (is : SlotsOf p.nodes (λ x. (node_in (plan_read b) x).node) s) where
  pub slots_occupied : length s.occupied ≡ 8 → Occupied (plan_read b) s.occupied
  slots_occupied eight =
      let pl = plan_read b in
      record {
        taken = λ q v. is.taken q v ∙ ap (λ (n : ℕ). some_of n (λ x. runs_in q v (node_in pl x).node)) (nodes_so b p w);
        small = is.small;
        eight = eight;
      }

  pub clash_by_masks : clash_fault (plan_read b) ≡ unless (not s.clash) 4
  unfolding clash_fault
  clash_by_masks = sym (ap (λ (t : Bool). unless (not t) 4) (is.clash_is ∙ ap (λ (n : ℕ). clashes n (λ x. (node_in (plan_read b) x).node)) (nodes_so b p w)))

-- ---- switches in their ranges

module _ (b : List ℕ) (p : Header) (h : Held b p) where
  pub switch_fit : (e : ℕ) → e < length (plan_read b).switches → SwitchFits (plan_read b) (switch_in (plan_read b) e)
  switch_fit e l = switch_split (plan_read b) (switch_in (plan_read b) e) (h.switch_ok e (omega (arith, switches_read b)))

  pub input_masked : (e : ℕ) → e < length (plan_read b).switches → InputMasked (input_of (plan_read b) e)
  input_masked e l = fit_masked b p h.front e (switch_fit e l)

-- ---- the reader's answer

joint_input : Joint → Input
joint_input j = record { unit = j.unit; slot = j.slot; input = j.input }

-- a switch that the reader got: it lies in its ranges
pub record GotSwitch (b : List ℕ) (e : ℕ) (j : Joint) : Type 0 where
  pub input_is : record { unit = j.unit; slot = j.slot; input = j.input } ≡ input_of (plan_read b) e
  pub source_is : j.source ≡ (switch_in (plan_read b) e).source
  pub few : j.source < 8
  pub masked : InputMasked (input_of (plan_read b) e)
  pub faultless : switch_fault b e ≡ 0

pub switch_got : (b : List ℕ) (p : Header) → Fronted b p → (e : ℕ) → e < p.wires → (j : Joint) → switch_answer b e ≡ Ok j → GotSwitch b e j
unfolding joint_input switch_fault
switch_got b p f e l j is =
    let pl = plan_read b in
    let g = got_none (joint_at b (wire_place plan_format b e)) j (switch_fault b e) is in
    let fit = switch_split pl (switch_in pl e) (record_split b (wire_place plan_format b e) plan_format.wire_mark (switch_fits pl (switch_in pl e)) g.0).1 in
    let at = g.1 in
    let so = switch_said b p f.whole e l in
    let from : j.source ≡ (switch_in pl e).source = ap (λ (j : Joint). j.source) at ∙ sym (ap (λ (w : Switch). w.source) so) in
    record {
      input_is = ap joint_input at ∙ sym (ap (λ (w : Switch). record { unit = w.unit; slot = w.slot; input = w.input }) so);
      source_is = from;
      few = omega (arith, from, fit.from_unit, units_read b, (counts_of b p f).units_most);
      masked = fit_masked b p f e fit;
      faultless = g.0;
    }
