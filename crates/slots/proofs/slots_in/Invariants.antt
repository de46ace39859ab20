-- `slots::slots_in` meets its contract: what its loop keeps.
use Rattle.records.specs.Answers.{nodes_in_run}
use Rattle.slots.proofs.SlotLaws.{Taken}
use Rattle.slots.proofs.slots_in.Given as goal

abbrev pub invariant-loop-x : goal.invariant-loop-x
invariant-loop-x l = Taken (nodes_in_run l.b l.nodes) l.x l.clash l.occupied l.channels
