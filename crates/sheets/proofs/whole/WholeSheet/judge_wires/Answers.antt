-- `sheets::whole::WholeSheet::judge_wires` meets its contract: its first refusal is that of its first fault. Assumes nothing.
use Rattle.std.proofs.Common.{ℕ, rules, ap, ◌∙◌}
use Rattle.words.specs.Loops.{first}
use Rattle.records.specs.Answers.{judged}
use Rattle.records.proofs.AnswerLaws.{first_refused_is}
use Rattle.sheets.specs.Sheet.{sheet_of, wire_of}
use Rattle.sheets.specs.Answers.{wire_fault}
use Rattle.sheets.proofs.HeldLaws.{wires_said}
use Rattle.sheets.proofs.whole.WholeSheet.judge_wires.Goals as goal

pub returns : goal.returns
returns c =
    let b = c.args.self.b.now in
    first_refused_is _ _ (wire_of (sheet_of b)) (wire_fault b) c.first_refused.ensures (λ e a l p. search rules) ∙ ap (λ (n : ℕ). judged (first n (wire_fault b))) (wires_said _ _ c.args.self.whole)
