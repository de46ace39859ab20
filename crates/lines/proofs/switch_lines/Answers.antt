-- `lines::switch_lines` meets its contract: each turn writes the line of one switch more. Assumes nothing.
use mathlib.Core.Path.{sym, ap, ◌∙◌}
use Prim.Native.Nat.{ℕ}
use Rattle.plans.specs.Plan.{switch_at}
use Rattle.plans.proofs.WholeLaws.{switch_so}
use Rattle.lines.specs.Text.{switch_line, line_most}
use Rattle.lines.proofs.LineLaws.{lines_none, lines_more}
use Rattle.lines.proofs.switch_lines.Goals as goal

pub loop-i-init : goal.loop-i-init
loop-i-init c = lines_none line_most _ _

pub loop-i-preserved : goal.loop-i-preserved
loop-i-preserved c =
    let l = c.loop-i in
    let test = c.loop-i-test.true in
    let read = ap (λ (o : ℕ). switch_line l.i (switch_at c.args.plan.now.b.now o)) c.switch_place.ensures ∙ sym (ap (switch_line l.i) (switch_so _ _ c.args.plan.now.whole l.i test)) in
    lines_more _ _ read l.invariant c.switch_line.ensures
