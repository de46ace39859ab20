-- `lifetimes::count` meets its contract: what its loop keeps.
use mathlib.Core.Path.{◌≡◌}
use Prim.Native.Nat.{◌+◌, ◌%◌}
use lib.ListN.{length}
use Rattle.lifetimes.specs.Counts.{Counted}
use Rattle.lifetimes.proofs.count.Given as goal

abbrev pub invariant-loop : goal.invariant-loop
invariant-loop l = (l.t ≡ (l.first + l.counter) % l.fold) × (length l.counts ≡ 32) × Counted l.fold l.first l.counter l.initial.counts l.counts
