-- `loops::turn` meets its contract: the first q wires are those of the turned ring. Assumes nothing.
use native.Mathlib.Omega.{arith}
use Rattle.loops.proofs.TurnLaws.{turned_more}
use Rattle.loops.proofs.turn.Goals as goal

pub loop-q-preserved : goal.loop-q-preserved
loop-q-preserved c =
    turned_more c.args.ring.now c.args.low c.requires.low_in_bounds c.loop-q.q c.loop-q.out c.loop-q-test.true (omega arith) c.loop-q.invariant
