-- `plans::whole::WholePlan::line` meets its contract: the two bytes behind the depth. Assumes nothing.
use native.Mathlib.Omega.{arith}
use Rattle.plans.proofs.WholeLaws.{unit_so}
use Rattle.plans.proofs.whole.WholePlan.line.Goals as goal

pub returns-clause-is : goal.returns-clause-is
returns-clause-is c =
    let s = c.args.self.now in
    grind (arith, unit_so s.b.now s.head s.whole c.args.q c.requires)
