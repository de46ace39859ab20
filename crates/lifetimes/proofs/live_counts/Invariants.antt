-- `lifetimes::live_counts` meets its contract: what its loop keeps.
use mathlib.Core.Path.{◌≡◌}
use Prim.Native.Nat.{ℕ, ◌<◌}
use lib.ListN.{get_or}
use Rattle.lifetimes.specs.Counts.{rounds_of, rest_of}
use Rattle.lifetimes.proofs.live_counts.Given as goal

abbrev pub invariant-loop-x : goal.invariant-loop-x
invariant-loop-x l =
    let b = l.sheet.b.now in
    (l.turns ≡ rounds_of b l.x) × ((t : ℕ) → t < l.sheet.head.fold → get_or l.counts t 0 ≡ rest_of b l.x t)
