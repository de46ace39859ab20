-- `cycle::node_of` meets its contract: record x of the run is node x. Assumes nothing.
use mathlib.Core.Path.{sym, ap, ◌∙◌}
use native.Mathlib.Omega.{arith}
use Rattle.plans.specs.Plan.{PlanNode}
use Rattle.plans.proofs.WholeLaws.{node_inside, node_so}
use Rattle.memory.proofs.TakenLaws.{whole_taken}
use Rattle.cycle.proofs.node_of.Goals as goal

pub node_in-requires : goal.node_in-requires
node_in-requires c = rw c.node_run.ensures (omega (arith, node_inside c.args.plan.now.b.now c.args.plan.now.head (whole_taken c.args.plan.now.taken) c.args.x c.requires))

pub returns : goal.returns
returns c = c.node_in.ensures ∙ rw c.node_run.ensures (sym (ap (λ (n : PlanNode). n.node) (node_so c.args.plan.now.b.now c.args.plan.now.head (whole_taken c.args.plan.now.taken) c.args.x c.requires)))
