-- `rounds::round` meets its contract: what its loop keeps.
use Rattle.times.specs.Times.{iterations_at}
use Rattle.rounds.specs.Rounds.{Reached, Fell}
use Rattle.rounds.specs.NetOf.{net_of}
use Rattle.rounds.proofs.round.Given as goal

abbrev pub invariant-loop-e : goal.invariant-loop-e
invariant-loop-e l =
    Reached (net_of l.net) (iterations_at l.former) l.totals l.e × Fell l.net.nodes (iterations_at l.former) l.totals l.fell
