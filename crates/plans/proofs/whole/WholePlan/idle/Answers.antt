-- `plans::whole::WholePlan::idle` meets its contract: the byte behind the line. Assumes nothing.
use Rattle.std.proofs.Common.{sym, ap}
use Rattle.plans.specs.Plan.{PlanUnit}
use Rattle.plans.proofs.WholeLaws.{unit_so}
use Rattle.plans.proofs.whole.WholePlan.idle.Goals as goal

pub returns : goal.returns
returns c =
    let s = c.args.self.now in
    rw c.unit_place.ensures (sym (ap (λ (u : PlanUnit). u.idle) (unit_so s.b.now s.head s.whole c.args.q c.requires)))
