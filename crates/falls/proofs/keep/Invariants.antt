-- `falls::keep` meets its contract: what its loop keeps.
use mathlib.Core.Path.{◌≡◌}
use mathlib.Core.Bool.{false}
use Prim.Native.Nat.{ℕ, suc, ◌<◌}
use Rattle.folding.specs.Walks.{settled}
use Rattle.rounds.specs.NetOf.{net_of}
use Rattle.rounds.proofs.RowLaws.{Rounded}
use Rattle.falls.specs.Choices.{Falls}
use Rattle.falls.proofs.KeepLaws.{Chosen}
use Rattle.falls.proofs.keep.Given as goal

abbrev pub invariant-loop-k : goal.invariant-loop-k
invariant-loop-k l =
    let g = net_of l.net in
    Rounded l.net.bounds l.net.wired l.k l.totals × Chosen g l.k l.choices × ((j : ℕ) → suc j ≡ l.k → settled g j ≡ false → (l.fell < g.nodes) × Falls g j l.fell)
