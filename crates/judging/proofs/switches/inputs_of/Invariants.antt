-- `judging::switches::inputs_of` meets its contract: what its loop keeps.
use Rattle.std.proofs.Common.{◌≡◌, length}
use Rattle.plans.specs.Plan.{plan_read}
use Rattle.judging.specs.Answers.{InputsOf}
use Rattle.judging.proofs.switches.inputs_of.Given as goal

abbrev pub invariant-loop-q : goal.invariant-loop-q
invariant-loop-q l = (length l.inputs ≡ 8) × InputsOf (plan_read l.plan.b.now) l.q l.inputs
