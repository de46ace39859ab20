-- `judging::switches::inputs_of` meets its contract: the units passed have their kind's inputs. Assumes nothing.
use Rattle.std.proofs.Common.{ap, ◌∙◌, arith, length-set}
use Rattle.records.specs.declared.Unit.{Unit}
use Rattle.records.specs.Units.{inputs}
use Rattle.plans.specs.Plan.{plan_read}
use Rattle.plans.proofs.ReadLaws.{units_read}
use Rattle.plans.proofs.WholeLaws.{units_so}
use Rattle.judging.proofs.RunLaws.{unit_got}
use Rattle.judging.proofs.SwitchLaws.{counts_of, inputs_more}
use Rattle.judging.proofs.switches.inputs_of.Goals as goal

pub loop-q-preserved : goal.loop-q-preserved
loop-q-preserved c =
    let l = c.loop-q in
    let kind = c.inputs.ensures ∙ ap (λ (u : Unit). inputs u.kind) (c.unit_in-unit.ensures ∙ unit_got _ _ c.requires.whole c.unit_run.result c.unit_run.ensures l.q (omega arith)) in
    (simp length-set l.invariant.0, inputs_more (plan_read c.args.plan.now.b.now) l.q c.inputs.result l.inputs l.invariant.1 (omega (arith, l.invariant.0, (counts_of c.args.plan.now.b.now c.args.plan.now.head c.requires).units_most, units_so c.args.plan.now.b.now c.args.plan.now.head c.requires.whole, units_read c.args.plan.now.b.now)) kind)
