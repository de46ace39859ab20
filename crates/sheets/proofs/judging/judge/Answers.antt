-- `sheets::judging::judge` meets its contract: the first part with a fault decides, in 01's order. Assumes nothing.
use Rattle.std.proofs.Common.{◌≡◌, Ok, Err, sym, ap, ◌∙◌, rules}
use Rattle.records.proofs.AnswerLaws.{got_none}
use Rattle.sheets.specs.Sheet.{sheet_of}
use Rattle.sheets.specs.Answers.{head_fault, records_fault, nodes_fault, HeaderSaid}
use Rattle.sheets.proofs.PartLaws.{head_refused, head_got, records_refused, nodes_refused, all_passed, held}
use Rattle.sheets.proofs.judging.judge.Goals as goal
use Rattle.sheets.proofs.judging.judge.Goals.{In_ok-head, In_ok-judge_records}

pub returns-in_err-head : goal.returns-in_err-head
returns-in_err-head c =
    let why : c.from_residual.result ≡ Err c.in_err-head.field-0.0 = search rules in
    why ∙ sym (head_refused c.args.b.now _ (sym c.read_header.ensures ∙ c.in_err-head.was))

said : (c : In_ok-head) → (head_fault c.args.b.now ≡ 0) × HeaderSaid c.args.b.now c.in_ok-head.head
said c = head_got _ c.in_ok-head.head (sym c.read_header.ensures ∙ c.in_ok-head.was)

pub judge_records-requires : goal.judge_records-requires
judge_records-requires c = (said c).1

pub returns-in_err-judge_records : goal.returns-in_err-judge_records
returns-in_err-judge_records c =
    let h = said (goal.at.returns-in_err-judge_records c).In_ok-head in
    let why : c.from_residual-in_err-judge_records.result ≡ Err c.in_err-judge_records.field-0.0 = search rules in
    why ∙ sym (records_refused c.args.b.now h.0 _ (sym c.judge_records.ensures ∙ c.in_err-judge_records.was))

clear : (c : In_ok-judge_records) → records_fault c.args.b.now ≡ 0
clear c = (got_none tt _ (records_fault c.args.b.now) (sym c.judge_records.ensures ∙ c.in_ok-judge_records.was)).0

pub invariant_of-sheet : goal.invariant_of-sheet
invariant_of-sheet c = record { whole = (held _ _ (said (goal.at.invariant_of-sheet c).In_ok-head).1 (clear c)).whole }

pub invariant_of-judge_nodes : goal.invariant_of-judge_nodes
invariant_of-judge_nodes c =
    let at = goal.at.invariant_of-judge_nodes c in
    record { held = held _ _ (said at.In_ok-head).1 (clear at.In_ok-judge_records) }

pub returns-in_err-judge_nodes : goal.returns-in_err-judge_nodes
returns-in_err-judge_nodes c =
    let at = goal.at.returns-in_err-judge_nodes c in
    let h = said at.In_ok-head in
    let why : c.from_residual-in_err-judge_nodes.result ≡ Err c.in_err-judge_nodes.field-0.0 = search rules in
    why ∙ sym (nodes_refused c.args.b.now h.0 (clear at.In_ok-judge_records) _ (sym c.judge_nodes.ensures ∙ c.in_err-judge_nodes.was))

pub returns : goal.returns
returns c =
    let b = c.args.b.now in
    let h = said (goal.at.returns c).In_ok-head in
    let none = got_none tt _ (nodes_fault (sheet_of b)) (sym c.judge_nodes.ensures ∙ c.in_ok-judge_nodes.was) in
    ap Ok h.1.said ∙ sym (all_passed b h.0 (clear (goal.at.returns c).In_ok-judge_records) none.0)
