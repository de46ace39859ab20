-- `cycle::results_in` meets its contract: what its loop keeps.
use Prim.Native.Nat.{◌%◌}
use mathlib.Core.Path.{◌≡◌}
use lib.ListN.{length}
use Rattle.plans.specs.Plan.{plan_read}
use Rattle.inputs.specs.Inputs.{Gathered}
use Rattle.cycle.specs.Given.{node_in_slot, node_unit, given}
use Rattle.cycle.proofs.results_in.Given as goal

abbrev pub invariant-loop-x : goal.invariant-loop-x
invariant-loop-x l =
    (length l.results ≡ 8)
    × Gathered l.x (node_in_slot (plan_read l.plan.b.now) (l.t % (plan_read l.plan.b.now).fold)) (node_unit (plan_read l.plan.b.now)) (given (plan_read l.plan.b.now) l.t l.samples l.words) 8 l.results
