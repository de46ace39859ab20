-- `judging::judge_rest` meets its contract: the first part with a fault decides. Assumes nothing.
use Rattle.std.proofs.Common.{◌≡◌, Err, not, sym, ◌∙◌, rules}
use Rattle.words.specs.Loops.{unless}
use Rattle.records.specs.Answers.{reason_of}
use Rattle.records.proofs.AnswerLaws.{refused_first}
use Rattle.plans.specs.Plan.{plan_read}
use Rattle.judging.specs.Answers.{switches_fault, clash_fault, nodes_fault, Occupied, Joins}
use Rattle.judging.proofs.PartLaws.{held}
use Rattle.judging.proofs.SwitchLaws.{slots_occupied, clash_by_masks}
use Rattle.judging.proofs.judge_rest.Goals as goal
use Rattle.judging.proofs.judge_rest.Goals.{After-slots_of-slots, In_ok-joined}

occupied_by : (c : After-slots_of-slots) → Occupied (plan_read c.args.plan.now.b.now) c.slots_of-slots.result.occupied
occupied_by c = slots_occupied _ _ c.requires.whole c.slots_of-slots.result c.slots_of-slots.ensures (search rules)

pub join_switches-requires-clause-occupied : goal.join_switches-requires-clause-occupied
join_switches-requires-clause-occupied c = occupied_by (goal.at.join_switches-requires-clause-occupied c).After-slots_of-slots

pub returns-in_err-joined : goal.returns-in_err-joined
returns-in_err-joined c =
    let b = c.args.plan.now.b.now in
    let why : c.from_residual.result ≡ Err c.in_err-joined.field-0.0 = search rules in
    why ∙ sym (refused_first tt tt (switches_fault b) (nodes_fault (plan_read b)) _ (c.join_switches.ensures.refused _ c.in_err-joined.was))

-- the switches have no fault
clear : (c : In_ok-joined) → (switches_fault c.args.plan.now.b.now ≡ 0) × Joins (plan_read c.args.plan.now.b.now) c.args.plan.now.head.wires c.in_ok-joined.joined
clear c = c.join_switches.ensures.joins _ c.in_ok-joined.was

clash_is : (c : In_ok-joined) → clash_fault (plan_read c.args.plan.now.b.now) ≡ unless (not c.slots_of-slots.result.clash) 4
clash_is c = clash_by_masks _ _ c.requires.whole c.slots_of-slots.result c.slots_of-slots.ensures

pub returns-then-slots : goal.returns-then-slots
unfolding reason_of
returns-then-slots c =
    let at = goal.at.returns-then-slots c in
    simp ((clear at.In_ok-joined).0, clash_is at.In_ok-joined, c.if-slots.true)

pub judge_inputs-requires : goal.judge_inputs-requires
judge_inputs-requires c =
    let at = goal.at.judge_inputs-requires c in
    let joins = clear at.In_ok-joined in
    record { held = held _ _ c.requires joins.0; occupied = occupied_by at.After-slots_of-slots; joins = joins.1 }

pub returns : goal.returns
returns c =
    let at = goal.at.returns c in
    rw ((clear at.In_ok-joined).0, clash_is at.In_ok-joined, c.if-slots.false) c.judge_inputs.ensures
