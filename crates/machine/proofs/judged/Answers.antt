-- `machine::judged` meets its contract: a plan that is judged has no fault. Assumes nothing.
use Rattle.std.proofs.Common.{sym, ◌∙◌}
use Rattle.machine.proofs.CallLaws.{got_taken}
use Rattle.machine.proofs.judged.Goals as goal

pub invariant_of-result : goal.invariant_of-result
invariant_of-result c = record { taken = got_taken _ _ (sym c.judge.ensures ∙ c.in_ok-head.was) }
