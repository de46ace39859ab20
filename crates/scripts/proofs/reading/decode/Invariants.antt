-- `scripts::reading::decode` meets its contract: what its loop keeps.
use Rattle.std.proofs.Common.{◌≤◌}
use Rattle.scripts.proofs.reading.decode.Given as goal

abbrev pub invariant-loop-c : goal.invariant-loop-c
invariant-loop-c l = l.digits ≤ l.c-index
