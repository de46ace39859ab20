-- `planner::figures::live_in` meets its contract: a sheet with a fault has no live cycles. Assumes nothing.
use mathlib.Core.Path.{sym, ◌∙◌}
use Rattle.waits.proofs.FineLaws.{within_so}
use Rattle.planner.proofs.AnswerLaws.{got_fine}
use Rattle.planner.proofs.FigureLaws.{refused_none}
use Rattle.planner.proofs.figures.live_in.Goals as goal

pub invariant_of-live_judged : goal.invariant_of-live_judged
invariant_of-live_judged c =
    let s = c.args.sheet.now in
    let fine = got_fine s c.in-Ok.head (sym c.judge.ensures ∙ c.in-Ok.is) in
    record { fine = fine; within = within_so s c.in-Ok.head fine }

pub returns-in_default : goal.returns-in_default
returns-in_default c = refused_none _ _ c.in_default.field-0 (sym c.judge.ensures ∙ c.in_default.is)
