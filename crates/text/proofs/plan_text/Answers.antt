-- `text::plan_text` meets its contract: refused by the plan, 7 where the text that was measured has no room, else written. Assumes nothing.
use Rattle.std.proofs.Common.{refl, sym, ◌∙◌, arith}
use Rattle.std.proofs.lemmas.Result.{err_from_is_err_and}
use Rattle.text.proofs.TextingLaws.{Got, got_of, plan_refused, texting_short, texting_done}
use Rattle.text.proofs.plan_text.Goals as goal
use Rattle.text.proofs.plan_text.Goals.{In_ok-head}

pub returns-in_err-head : goal.returns-in_err-head
returns-in_err-head c =
    let p = err_from_is_err_and c.from_residual.result c.from_residual.ensures.1 in
    rw (p.1, p.2) (let refused = plan_refused _ _ c.in_err-head.field-0.0 (sym c.judge.ensures ∙ c.in_err-head.was) refl refl in record { texting = refused; result_bound = refused.short })

got : (c : In_ok-head) → Got c.args.plan.now c.in_ok-head.head
got c = got_of _ _ (sym c.judge.ensures ∙ c.in_ok-head.was)

pub invariant_of-whole : goal.invariant_of-whole
invariant_of-whole c = let g = got (goal.at.invariant_of-whole c).In_ok-head in record { whole = g.whole; counted = g.counted }

pub returns-then-out-size : goal.returns-then-out-size
returns-then-out-size c =
    let g = got (goal.at.returns-then-out-size c).In_ok-head in
    let short = texting_short c.args.out.now g.fine (omega (arith, g.few)) c.plan_lines-size.ensures c.if-out-size.true in record { texting = short; result_bound = short.short }

pub returns : goal.returns
returns c =
    let g = got (goal.at.returns c).In_ok-head in
    let done = texting_done c.args.out.now g.fine (omega (arith, g.few)) c.plan_lines-size.ensures c.if-out-size.false c.plan_lines.ensures in record { texting = done; result_bound = done.short }
