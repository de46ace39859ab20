-- The runs of a plan's records: they lie in the bytes, and what is read there is the plan's. Assumes nothing.
use mathlib.Core.Path.{◌≡◌, refl, sym, ap}
use mathlib.Core.List.{List}
use Prim.Native.Nat.{ℕ, ◌<◌}
use native.Mathlib.Omega.{arith}
use lib.ListN.{length}
use Rattle.records.specs.declared.reading.Run.{Run}
use Rattle.records.specs.Records.{wire_place, marked}
use Rattle.records.specs.Answers.{unit_part, node_part, place, mark_of, unit_run, node_run, wire_run, Inside, units_in_run, nodes_in_run, parts_fault, front_fault}
use Rattle.records.proofs.AnswerLaws.{units_inside, nodes_inside}
use Rattle.records.proofs.FrontLaws.{front_said}
use Rattle.plans.specs.declared.Plan.{Plan as Header}
use Rattle.plans.specs.Plan.{PlanUnit, PlanNode, unit_in, node_in, plan_format, plan_read}
use Rattle.plans.specs.Heads.{Whole}
use Rattle.plans.proofs.WholeLaws.{whole_so, unit_so, node_so}
use Rattle.judging.specs.Answers.{HeaderSaid}

-- ---- what the header says, put into the records' judging

module _ (b : List ℕ) (p : Header) (h : HeaderSaid b p) where
  pub plan_front : (whole : ℕ) (us ns ws : Run) → whole ≡ place ws ws.count → us ≡ unit_run plan_format p.units →
      ns ≡ node_run plan_format p.units p.nodes → ws ≡ wire_run plan_format p.units p.nodes p.wires → parts_fault b whole p.fold us ns ≡ front_fault plan_format b
  plan_front whole us ns ws whole_is us_is ns_is ws_is =
      front_said plan_format b p.fold p.units p.nodes p.wires whole us ns ws (ap (λ (p : Header). p.fold) h.said) (ap (λ (p : Header). p.units) h.said) (ap (λ (p : Header). p.nodes) h.said)
      (ap (λ (p : Header). p.wires) h.said) ws_is whole_is us_is ns_is

-- ---- bytes that are as long as the header says

module _ (b : List ℕ) (p : Header) (w : Whole b p) where
  long : length b ≡ place (wire_run plan_format p.units p.nodes p.wires) p.wires
  long = whole_so b p w

  pub unit_room : (r : Run) → r ≡ unit_run plan_format p.units → Inside unit_part r (length b)
  unit_room r e = rw (e, long) (units_inside plan_format p.units p.nodes p.wires unit_part (omega arith))

  pub node_room : (r : Run) → r ≡ node_run plan_format p.units p.nodes → Inside node_part r (length b)
  node_room r e = rw (e, long) (nodes_inside plan_format p.units p.nodes p.wires node_part (omega arith))

  pub unit_got : (r : Run) → r ≡ unit_run plan_format p.units → (q : ℕ) → q < p.units → units_in_run b r q ≡ (unit_in (plan_read b) q).unit
  unit_got r e q l = rw e (sym (ap (λ (u : PlanUnit). u.unit) (unit_so b p w q l)))

  pub node_got : (r : Run) → r ≡ node_run plan_format p.units p.nodes → (x : ℕ) → x < p.nodes → nodes_in_run b r x ≡ (node_in (plan_read b) x).node
  node_got r e x l = rw e (sym (ap (λ (n : PlanNode). n.node) (node_so b p w x l)))

  -- the mark of switch e
  pub switch_marked : (r : Run) → r ≡ wire_run plan_format p.units p.nodes p.wires → (e : ℕ) →
      marked b (place r e) (mark_of r) ≡ marked b (wire_place plan_format b e) plan_format.wire_mark
  switch_marked r h e = rw (h, w.said) refl
