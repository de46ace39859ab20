-- `falls::follow` meets its contract: what is walked and what is left to follow back are the whole. Assumes nothing.
use native.Mathlib.Omega.{arith}
use Rattle.rounds.specs.NetOf.{net_of}
use Rattle.falls.proofs.BackLaws.{back_on, back_done}
use Rattle.falls.proofs.follow.Goals as goal

pub loop-i-preserved : goal.loop-i-preserved
loop-i-preserved c =
    let l = c.loop-i in
    let n = c.args.net.now in
    back_on (net_of n) c.args.choices.now n.nodes l.i l.u _ l.walk _ c.loop-i-test.true (omega arith) (cc) l.invariant

pub returns : goal.returns
returns c =
    let l = c.loop-i in
    let n = c.args.net.now in
    back_done (net_of n) c.args.choices.now n.nodes l.i l.u l.walk _ (omega arith) l.invariant.1
