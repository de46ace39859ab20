-- A plan's inputs are fed once exactly where the masks say so. Assumes nothing.
use mathlib.Core.Path.{◌≡◌, refl, sym, ap, subst, ◌∙◌}
use mathlib.Core.Bool.{Bool, not, ◌&&◌}
use mathlib.Core.List.{List}
use Prim.Native.Nat.{ℕ, ◌<◌}
use native.Mathlib.Omega.{arith}
use lib.Dec.{eqb}
use lib.ListN.{length}
use borrow.Author.Tests.{eqb-true}
use Rattle.words.specs.Loops.{unless}
use Rattle.words.proofs.LoopLaws.{and_split}
use Rattle.records.specs.declared.Unit.{Unit}
use Rattle.records.specs.declared.Node.{Node}
use Rattle.slots.specs.declared.Slots.{Slots}
use Rattle.slots.specs.declared.feeding.Fed.{Fed}
use Rattle.records.specs.declared.reading.Run.{Run}
use Rattle.records.specs.Records.{clashes, fed_once}
use Rattle.records.specs.Answers.{unit_run, units_in_run}
use Rattle.slots.specs.Feeding.{FedOf, units_fed}
use Rattle.slots.proofs.FedLaws.{fed_right}
use Rattle.plans.specs.declared.Plan.{Plan as Header}
use Rattle.plans.specs.Plan.{node_in, switch_in, plan_format, plan_read}
use Rattle.plans.specs.Judging.{plan_feeds}
use Rattle.plans.proofs.WholeLaws.{units_so, wires_so}
use Rattle.judging.specs.Answers.{fed_fault, input_of, Held, Occupied}
use Rattle.judging.proofs.RunLaws.{unit_got}
use Rattle.judging.proofs.SwitchLaws.{node_fit, switch_fit}

fed_by_masks : (b : List ℕ) (p : Header) → Held b p → (masks : List ℕ) → Occupied (plan_read b) masks → (f : Fed) → FedOf p.wires (input_of (plan_read b)) f →
    (r : Run) → r ≡ unit_run plan_format p.units →
    (units_fed r.count (units_in_run b r) masks f.masks && not f.twice)
    ≡ fed_once (length (plan_read b).nodes) (λ x. (node_in (plan_read b) x).node) (length (plan_read b).switches) (plan_feeds (plan_read b))
fed_by_masks b p h masks occ f fed r e =
    let pl = plan_read b in
    let w = h.front.whole in
    let node : ℕ → Node = λ x. (node_in pl x).node in
    let slots : Slots = record { clash = clashes (length pl.nodes) node; occupied = masks } in
    let n = ap (λ (r : Run). r.count) e in
    let below : (x : ℕ) → x < length pl.nodes → (node x).unit < p.units = λ x l. omega (arith, (node_fit b p h.front x l).on_unit, units_so b p w) in
    fed_right (length pl.nodes) node (length pl.switches) (input_of pl) (plan_feeds pl) r.count (units_in_run b r) slots f
    (record { clash_is = refl; taken = occ.taken; small = occ.small })
    (subst (λ (k : ℕ). FedOf k (input_of pl) f) (wires_so b p w) fed)
    (λ x l. omega (arith, below x l))
    (λ x l. ap (λ (u : Unit). u.kind) (unit_got b p w r e (node x).unit (below x l)) ∙ (node_fit b p h.front x l).of_kind)
    (λ e l.
    let s = switch_fit b p h e l in
    let v = switch_in pl e in
    let m = node s.node in
    let t = and_split (eqb m.unit v.unit) (eqb m.slot v.slot) s.runs in
    (s.node, s.is_node, sym (eqb-true m.unit v.unit t.0), sym (eqb-true m.slot v.slot t.1), s.input_fits))
    (λ x i e hx he. refl)

-- the fault of the inputs, by the masks
pub fed_is : (b : List ℕ) (p : Header) → Held b p → (masks : List ℕ) → Occupied (plan_read b) masks → (f : Fed) → FedOf p.wires (input_of (plan_read b)) f →
    (r : Run) → r ≡ unit_run plan_format p.units → fed_fault (plan_read b) ≡ unless (units_fed r.count (units_in_run b r) masks f.masks && not f.twice) 5
unfolding fed_fault
fed_is b p h masks occ f fed r e = ap (λ (t : Bool). unless t 5) (sym (fed_by_masks b p h masks occ f fed r e))
