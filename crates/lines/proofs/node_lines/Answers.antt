-- `lines::node_lines` meets its contract: each turn writes the line of one node more. Assumes nothing.
use mathlib.Core.Path.{sym, ap, ◌∙◌}
use Prim.Native.Nat.{ℕ}
use Rattle.plans.specs.Plan.{plan_node_at}
use Rattle.plans.proofs.WholeLaws.{node_so}
use Rattle.lines.specs.Text.{node_line, line_most}
use Rattle.lines.proofs.LineLaws.{lines_none, lines_more}
use Rattle.lines.proofs.node_lines.Goals as goal

pub loop-i-init : goal.loop-i-init
loop-i-init c = lines_none line_most _ _

pub loop-i-preserved : goal.loop-i-preserved
loop-i-preserved c =
    let l = c.loop-i in
    let test = c.loop-i-test.true in
    let read = ap (λ (o : ℕ). node_line l.i (plan_node_at c.args.plan.now.b.now o)) c.node_place.ensures ∙ sym (ap (node_line l.i) (node_so _ _ c.args.plan.now.whole l.i test)) in
    lines_more _ _ read l.invariant c.node_line.ensures
