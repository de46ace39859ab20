-- `records::reading::first_refused` meets its contract: what its loop keeps.
use Rattle.std.proofs.Common.{ℕ, ◌<◌, Ok}
use Rattle.records.proofs.reading.first_refused.Given as goal

abbrev pub invariant-loop-i : goal.invariant-loop-i
invariant-loop-i g l = (j : ℕ) → j < l.i → (got : _) × goal.F-post g l.read j (Ok got)
