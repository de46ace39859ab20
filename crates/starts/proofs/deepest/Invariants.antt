-- `starts::deepest` meets its contract: what its loop keeps.
use mathlib.Core.Path.{◌≡◌}
use Rattle.folding.specs.Walks.{deepest}
use Rattle.rounds.specs.Rounds.{row_of}
use Rattle.starts.proofs.deepest.Given as goal

abbrev pub invariant-loop-u : goal.invariant-loop-u
invariant-loop-u l = l.least.0 ≡ deepest (row_of l.nodes l.totals) l.u
