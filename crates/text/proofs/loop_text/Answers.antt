-- `text::loop_text` meets its contract: refused by the bytes, 7 where the text that was measured has no room, else written. Assumes nothing.
use Rattle.std.proofs.Common.{◌≡◌, refl, sym, ◌∙◌, arith}
use Rattle.std.proofs.lemmas.Result.{err_from_is_err_and}
use Rattle.records.proofs.AnswerLaws.{got_none}
use Rattle.text.specs.Texting.{loop_fault}
use Rattle.text.proofs.LoopLaws.{whole_of, why_loop}
use Rattle.text.proofs.TextingLaws.{texting_refused, texting_short, texting_done}
use Rattle.text.proofs.loop_text.Goals as goal
use Rattle.text.proofs.loop_text.Goals.{In_ok-judge_loop}

pub returns-in_err-judge_loop : goal.returns-in_err-judge_loop
returns-in_err-judge_loop c =
    let p = err_from_is_err_and c.from_residual.result c.from_residual.ensures.1 in
    let why = c.in_err-judge_loop.field-0.0 in
    rw (p.1, p.2) (texting_refused _ _ why (why_loop c.args.wires.now _ (sym c.judge_loop.ensures ∙ c.in_err-judge_loop.was)) refl refl)

fine : (c : In_ok-judge_loop) → loop_fault c.args.wires.now ≡ 0
fine c = (got_none tt _ (loop_fault c.args.wires.now) (sym c.judge_loop.ensures ∙ c.in_ok-judge_loop.was)).0

pub loop_line-size-requires : goal.loop_line-size-requires
loop_line-size-requires c = whole_of _ (fine (goal.at.loop_line-size-requires c).In_ok-judge_loop)

pub returns-then-out-size : goal.returns-then-out-size
returns-then-out-size c =
    texting_short _ (fine (goal.at.returns-then-out-size c).In_ok-judge_loop) (omega arith) c.loop_line-size.ensures c.if-out-size.true

pub loop_line-requires : goal.loop_line-requires
loop_line-requires c = whole_of _ (fine (goal.at.loop_line-requires c).In_ok-judge_loop)

pub returns : goal.returns
returns c =
    texting_done _ (fine (goal.at.returns c).In_ok-judge_loop) (omega arith) c.loop_line-size.ensures c.if-out-size.false c.loop_line.ensures
