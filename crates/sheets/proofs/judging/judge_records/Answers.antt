-- `sheets::judging::judge_records` meets its contract: the first part with a fault decides. Assumes nothing.
use Rattle.std.proofs.Common.{◌≡◌, Err, sym, ap, ◌∙◌, rules}
use Rattle.records.specs.Answers.{judged, front_fault}
use Rattle.records.proofs.AnswerLaws.{got_none, refused_first}
use Rattle.sheets.specs.Sheet.{sheet_format}
use Rattle.sheets.specs.Answers.{wires_fault}
use Rattle.sheets.proofs.PartLaws.{sheet_front}
use Rattle.sheets.proofs.judging.judge_records.Goals as goal
use Rattle.sheets.proofs.judging.judge_records.Goals.{After-judge_parts}

told : (c : After-judge_parts) → c.judge_parts.result ≡ judged (front_fault sheet_format c.args.b.now)
told c =
    c.judge_parts.ensures
    ∙ ap judged (sheet_front _ _ c.requires _ _ _ _ c.end-whole.ensures c.unit_run.ensures c.node_run.ensures c.wire_run.ensures)

pub returns-in_err-judge_parts : goal.returns-in_err-judge_parts
returns-in_err-judge_parts c =
    let b = c.args.b.now in
    let t = told (goal.at.returns-in_err-judge_parts c).After-judge_parts in
    let why : c.from_residual.result ≡ Err c.in_err-judge_parts.field-0.0 = search rules in
    why ∙ sym (refused_first tt tt (front_fault sheet_format b) (wires_fault b) _ (sym t ∙ c.in_err-judge_parts.was))

pub returns : goal.returns
returns c =
    let b = c.args.b.now in
    let t = told (goal.at.returns c).After-judge_parts in
    rw (got_none tt _ (front_fault sheet_format b) (sym t ∙ c.in_ok-judge_parts.was)).0 c.judge_wires.ensures
