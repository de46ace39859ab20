-- `loops::opens` meets its contract: what its loop keeps.
use mathlib.Core.Path.{◌≡◌}
use Prim.Native.Nat.{ℕ, ◌<◌}
use lib.ListN.{get_or}
use Rattle.rounds.specs.NetOf.{net_of}
use Rattle.loops.proofs.opens.Given as goal

abbrev pub invariant-loop-p : goal.invariant-loop-p
invariant-loop-p l =
    let g = net_of l.net in
    (i : ℕ) → i < l.p → ¬ (g.from (get_or l.walk i 0) ≡ g.to (get_or l.walk l.q 0))
