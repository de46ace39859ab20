-- `falls::choose` meets its contract: what its loop keeps.
use mathlib.Core.Path.{◌≡◌}
use Prim.Native.Nat.{ℕ, ◌*◌, ◌<◌}
use lib.ListN.{get_or}
use Rattle.times.specs.Times.{iterations_at}
use Rattle.records.specs.Records.{most_nodes}
use Rattle.rounds.specs.Rounds.{Reached}
use Rattle.rounds.specs.NetOf.{net_of}
use Rattle.falls.specs.Choices.{Picking}
use Rattle.falls.proofs.choose.Given as goal

abbrev pub invariant-loop-e : goal.invariant-loop-e
invariant-loop-e l =
    Reached (net_of l.net) (iterations_at l.former) l.totals l.e × Picking (net_of l.net) (iterations_at l.former) l.k l.totals l.choices l.fell
    × ((i : ℕ) → i < most_nodes * l.k → get_or l.choices i 0 ≡ get_or l.initial.choices i 0)
