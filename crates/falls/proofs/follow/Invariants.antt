-- `falls::follow` meets its contract: what its loop keeps.
use mathlib.Core.Path.{◌≡◌}
use mathlib.Core.List.{◌++◌}
use Prim.Native.Nat.{◌-◌}
use lib.ListN.{take}
use Rattle.rounds.specs.NetOf.{net_of}
use Rattle.falls.specs.Choices.{back, Backed}
use Rattle.falls.proofs.follow.Given as goal

abbrev pub invariant-loop-i : goal.invariant-loop-i
invariant-loop-i l =
    let g = net_of l.net in
    let n = l.net.nodes in
    Backed g l.choices (n - l.i) l.u × (take l.i l.walk ++ back g l.choices (n - l.i) l.u ≡ back g l.choices n l.first)
