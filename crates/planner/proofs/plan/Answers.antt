-- `planner::plan` meets its contract: a sheet with a fault is refused, and nothing changes. Assumes nothing.
use mathlib.Core.Path.{sym, ◌∙◌}
use Rattle.std.proofs.lemmas.Result.{err_from_is_err_and}
use Rattle.records.proofs.AnswerLaws.{reason_positive}
use Rattle.waits.proofs.FineLaws.{within_so}
use Rattle.planner.proofs.AnswerLaws.{got_fine, why_fault, planning_refused}
use Rattle.planner.proofs.plan.Goals as goal

pub invariant_of-plan_judged : goal.invariant_of-plan_judged
invariant_of-plan_judged c =
    let s = c.args.sheet.now in
    let fine = got_fine s c.in_ok-head.head (sym c.judge.ensures ∙ c.in_ok-head.was) in
    record { fine = fine; within = within_so s c.in_ok-head.head fine }

pub returns-in_err-head : goal.returns-in_err-head
returns-in_err-head c =
    let why = c.in_err-head.field-0.0 in
    let is = why_fault c.args.sheet.now why (sym c.judge.ensures ∙ c.in_err-head.was) in
    let p = err_from_is_err_and c.from_residual.result c.from_residual.ensures.1 in
    rw (p.1, p.2) (planning_refused c.args.sheet.now c.args.out.now _ is.0 (reason_positive why) is.1)
