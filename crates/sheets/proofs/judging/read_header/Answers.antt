-- `sheets::judging::read_header` meets its contract: what the records' reader answers, taken over. Assumes nothing.
use Rattle.std.proofs.Common.{◌≡◌, Ok, Err, refl, sym, ap, ◌∙◌, rules}
use Rattle.records.specs.Answers.{header_in}
use Rattle.records.specs.Answers as R
use Rattle.records.proofs.AnswerLaws.{got_none, refused_last}
use Rattle.sheets.specs.Answers.{header_of, head_fault, header_answer}
use Rattle.sheets.proofs.judging.read_header.Goals as goal

pub returns-in_err-header : goal.returns-in_err-header
unfolding header_answer R.header_answer
returns-in_err-header c =
    let b = c.args.b.now in
    let why : c.from_residual.result ≡ Err c.in_err-header.field-0.0 = search rules in
    why ∙ sym (refused_last (header_in b) (header_of b) (head_fault b) _ (sym c.read_header.ensures ∙ c.in_err-header.was))

pub returns : goal.returns
unfolding header_answer R.header_answer
returns c =
    let b = c.args.b.now in
    let got = got_none (header_in b) c.in_ok-header.header (head_fault b) (sym c.read_header.ensures ∙ c.in_ok-header.was) in
    rw got.0 (ap Ok (c.from.ensures ∙ rw got.1 refl))
