-- `judging::switches::join_switches` meets its contract: what its loop keeps.
use Rattle.std.proofs.Common.{◌≡◌, length}
use Rattle.words.specs.Loops.{first}
use Rattle.slots.proofs.FeedingLaws.{Feeding}
use Rattle.plans.specs.Plan.{plan_read}
use Rattle.judging.specs.Answers.{switch_fault, input_of, TapsOf}
use Rattle.judging.proofs.switches.join_switches.Given as goal

abbrev pub invariant-loop-e : goal.invariant-loop-e
invariant-loop-e l = (first l.e (switch_fault l.plan.b.now) ≡ 0) × Feeding (input_of (plan_read l.plan.b.now)) l.e l.joined.fed × (length l.joined.taps ≡ 8) × TapsOf (plan_read l.plan.b.now) l.e l.joined.taps
