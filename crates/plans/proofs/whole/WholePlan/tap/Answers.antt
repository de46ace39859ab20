-- `plans::whole::WholePlan::tap` meets its contract: the two bytes behind the joint. Assumes nothing.
use native.Mathlib.Omega.{arith}
use Rattle.plans.proofs.WholeLaws.{switch_so}
use Rattle.plans.proofs.whole.WholePlan.tap.Goals as goal

pub returns : goal.returns
returns c =
    let s = c.args.self.now in
    grind (arith, switch_so s.b.now s.head s.whole c.args.e c.requires)
