-- `rounds::settle` meets its contract: what its loop keeps.
use mathlib.Core.Path.{◌≡◌}
use mathlib.Core.Bool.{false}
use Prim.Native.Nat.{ℕ, ◌<◌}
use Rattle.folding.specs.Walks.{settled}
use Rattle.rounds.specs.NetOf.{net_of}
use Rattle.rounds.proofs.RowLaws.{Rounded}
use Rattle.rounds.proofs.settle.Given as goal

abbrev pub invariant-loop-k : goal.invariant-loop-k
invariant-loop-k l =
    Rounded l.net.bounds l.net.wired l.k l.totals × ((j : ℕ) → j < l.k → settled (net_of l.net) j ≡ false)
