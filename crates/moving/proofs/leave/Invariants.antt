-- `moving::leave` meets its contract: what its loop keeps.
use mathlib.Core.Path.{◌≡◌}
use mathlib.Core.List.{◌++◌}
use lib.ListN.{length, drop}
use Rattle.words.specs.Loops.{tab}
use Rattle.plans.specs.Plan.{plan_read}
use Rattle.memory.specs.Memory.{reading}
use Rattle.moving.proofs.leave.Given as goal

abbrev pub invariant-loop-q : goal.invariant-loop-q
invariant-loop-q l = (l.out ≡ tab l.q (λ q. reading (plan_read l.lines.plan.b.now) l.memory q 0) ++ drop l.q l.initial.out) × (length l.out ≡ length l.initial.out)
