-- `lines::unit_lines` meets its contract: each turn writes the line of one unit more. Assumes nothing.
use mathlib.Core.Path.{sym, ap, ◌∙◌}
use Prim.Native.Nat.{ℕ}
use Rattle.plans.specs.Plan.{plan_unit_at}
use Rattle.plans.proofs.WholeLaws.{unit_so}
use Rattle.lines.specs.Text.{unit_line, line_most}
use Rattle.lines.proofs.LineLaws.{lines_none, lines_more}
use Rattle.lines.proofs.unit_lines.Goals as goal

pub loop-i-init : goal.loop-i-init
loop-i-init c = lines_none line_most _ _

pub loop-i-preserved : goal.loop-i-preserved
loop-i-preserved c =
    let l = c.loop-i in
    let test = c.loop-i-test.true in
    let read = ap (λ (o : ℕ). unit_line l.i (plan_unit_at c.args.plan.now.b.now o)) c.unit_place.ensures ∙ sym (ap (unit_line l.i) (unit_so _ _ c.args.plan.now.whole l.i test)) in
    lines_more _ _ read l.invariant c.unit_line.ensures
