-- `starts::starts` meets its contract: what its loop keeps.
use mathlib.Core.Path.{◌≡◌}
use Prim.Native.Nat.{ℕ, ◌<◌}
use lib.ListN.{length}
use Rattle.times.specs.Times.{iterations_at}
use Rattle.records.specs.Records.{most_nodes}
use Rattle.rounds.specs.Rounds.{row_of}
use Rattle.starts.specs.Starts.{shifted}
use Rattle.starts.proofs.starts.Given as goal

abbrev pub invariant-loop-u : goal.invariant-loop-u
invariant-loop-u l = (length l.starts ≡ most_nodes) × ((v : ℕ) → v < l.u → iterations_at l.starts v ≡ shifted (row_of l.nodes l.totals) l.nodes v)
