-- `planner::write_loop` meets its contract: what its loop keeps.
use mathlib.Core.Path.{◌≡◌}
use lib.ListN.{get_or}
use Rattle.words.specs.Loops.{tab}
use Rattle.plans.specs.Plan.{concat, loop_wire_bytes}
use Rattle.writing.specs.Laid.{laid}
use Rattle.planner.proofs.write_loop.Given as goal

abbrev pub invariant-loop-i : goal.invariant-loop-i
invariant-loop-i l = l.out ≡ laid l.initial.out 0 (concat loop_wire_bytes (tab l.i (λ j. get_or l.wires j 0)))
