-- `inputs::inputs_in` meets its contract: what its loop keeps.
use mathlib.Core.Path.{◌≡◌}
use lib.ListN.{length}
use Rattle.plans.specs.Plan.{plan_read}
use Rattle.inputs.specs.Inputs.{Gathered, in_slot, input_place, tapped}
use Rattle.inputs.proofs.inputs_in.Given as goal

abbrev pub invariant-loop-e : goal.invariant-loop-e
invariant-loop-e l = (length l.words ≡ 16) × Gathered l.e (in_slot (plan_read l.lines.plan.b.now) l.slot) (input_place (plan_read l.lines.plan.b.now)) (tapped (plan_read l.lines.plan.b.now) l.memory) 16 l.words
