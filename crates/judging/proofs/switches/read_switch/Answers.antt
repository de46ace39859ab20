-- `judging::switches::read_switch` meets its contract: the mark's fault stands before the range's. Assumes nothing.
use Rattle.std.proofs.Common.{◌≡◌, Ok, refl, sym, ap, ◌∙◌}
use Rattle.records.specs.Records.{marked, wire_place}
use Rattle.records.specs.Answers.{reason_of}
use Rattle.plans.specs.Plan.{switch_in, plan_format, plan_read}
use Rattle.plans.specs.Judging.{switch_fits}
use Rattle.judging.specs.Answers.{switch_fault}
use Rattle.judging.proofs.RunLaws.{switch_marked}
use Rattle.judging.proofs.SwitchLaws.{fits_so, joint_fits}
use Rattle.judging.proofs.switches.read_switch.Goals as goal
use Rattle.judging.proofs.switches.read_switch.Goals.{After-marked, After-switch_fits}

-- whether it bears its mark, and whether it fits, as they are read
right : (c : After-marked) → let b = c.args.plan.now.b.now in marked b (wire_place plan_format b c.args.e) plan_format.wire_mark ≡ c.marked.result
right c = sym (c.marked.ensures ∙ switch_marked _ _ c.requires.fronted.whole c.switch_run.result c.switch_run.ensures c.args.e)

fits : (c : After-switch_fits) → let p = plan_read c.args.plan.now.b.now in switch_fits p (switch_in p c.args.e) ≡ c.switch_fits.result
fits c =
    let a = c.args in
    let f = c.requires.fronted in
    sym (c.switch_fits.ensures ∙ fits_so _ _ f a.occupied.now a.inputs.now c.requires.occupied c.requires.inputs_of c.joint-joint.result ∙ joint_fits _ _ f a.e c.requires.e_lt_wires c.joint-joint.result c.joint-joint.ensures)

pub returns-then-not-marked : goal.returns-then-not-marked
unfolding switch_fault reason_of
returns-then-not-marked c = rw (right (goal.at.returns-then-not-marked c).After-marked ∙ c.if-not-marked.true) refl

pub returns-then-not-switch_fits : goal.returns-then-not-switch_fits
unfolding switch_fault reason_of
returns-then-not-switch_fits c =
    rw (right (goal.at.returns-then-not-switch_fits c).After-marked ∙ c.if-not-marked.false, fits (goal.at.returns-then-not-switch_fits c).After-switch_fits ∙ c.if-not-switch_fits.true) refl

pub returns : goal.returns
unfolding switch_fault
returns c =
    rw (right (goal.at.returns c).After-marked ∙ c.if-not-marked.false, fits (goal.at.returns c).After-switch_fits ∙ c.if-not-switch_fits.false) (ap Ok c.joint-joint.ensures)
