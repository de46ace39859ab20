-- `lifetimes::most` meets its contract: what its loop keeps.
use mathlib.Core.Path.{◌≡◌}
use lib.ListN.{get_or}
use Rattle.words.specs.Loops.{largest}
use Rattle.lifetimes.proofs.most.Given as goal

abbrev pub invariant-loop-t : goal.invariant-loop-t
invariant-loop-t l = l.top ≡ largest l.t (λ k. get_or l.counts k 0)
