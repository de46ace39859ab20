-- `loops::turn` meets its contract: what its loop keeps.
use mathlib.Core.Path.{◌≡◌}
use mathlib.Core.List.{◌++◌}
use lib.ListN.{take, drop}
use Rattle.loops.proofs.turn.Given as goal

abbrev pub invariant-loop-q : goal.invariant-loop-q
invariant-loop-q l = take l.q l.out ≡ take l.q (drop l.low l.ring ++ take l.low l.ring)
