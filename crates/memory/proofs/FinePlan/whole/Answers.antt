-- `memory::FinePlan::whole` meets its contract: a plan without fault is as long as its header says. Assumes nothing.
use Rattle.plans.proofs.WholeLaws.{counted_so}
use Rattle.memory.proofs.TakenLaws.{whole_taken, counts_taken}
use Rattle.memory.proofs.FinePlan.whole.Goals as goal

pub invariant_of-result : goal.invariant_of-result
invariant_of-result c =
    let p = c.args.self.now in
    let w = whole_taken p.taken in record { whole = w; counted = counted_so p.b.now p.head w (counts_taken p.b.now p.head p.taken) }
