-- `loops::closes` meets its contract: what its loop keeps.
use Prim.Native.Nat.{ℕ, ◌<◌}
use Rattle.rounds.specs.NetOf.{net_of}
use Rattle.loops.specs.Shown.{New}
use Rattle.loops.proofs.closes.Given as goal

abbrev pub invariant-loop-q : goal.invariant-loop-q
invariant-loop-q l = (i : ℕ) → i < l.q → New (net_of l.net) l.walk i
