-- `judging::figures::figures_right` meets its contract: what its loop keeps.
use Rattle.std.proofs.Common.{◌≡◌, true}
use Rattle.words.specs.Loops.{every}
use Rattle.plans.specs.Plan.{plan_read}
use Rattle.judging.specs.Answers.{unit_right}
use Rattle.judging.proofs.figures.figures_right.Given as goal

abbrev pub invariant-loop-q : goal.invariant-loop-q
invariant-loop-q l = every l.q (unit_right (plan_read l.plan.b.now)) ≡ true
