-- `moving::advance` meets its contract: what its loop keeps.
use mathlib.Core.Path.{◌≡◌}
use lib.ListN.{length}
use Rattle.plans.specs.Plan.{plan_read}
use Rattle.moving.proofs.MovingLaws.{moved_to}
use Rattle.moving.proofs.advance.Given as goal

abbrev pub invariant-loop-q : goal.invariant-loop-q
invariant-loop-q l = (l.memory ≡ moved_to (plan_read l.lines.plan.b.now) l.initial.memory l.results l.q) × (length l.memory ≡ length l.initial.memory)
