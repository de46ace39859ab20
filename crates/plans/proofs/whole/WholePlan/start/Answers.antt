-- `plans::whole::WholePlan::start` meets its contract: the two bytes behind K. Assumes nothing.
use native.Mathlib.Omega.{arith}
use Rattle.plans.proofs.WholeLaws.{node_so}
use Rattle.plans.proofs.whole.WholePlan.start.Goals as goal

pub returns : goal.returns
returns c =
    let s = c.args.self.now in
    grind (arith, node_so s.b.now s.head s.whole c.args.x c.requires)
