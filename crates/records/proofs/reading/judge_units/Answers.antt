-- `records::reading::judge_units` meets its contract: its first refusal is that of its first fault. Assumes nothing.
use Rattle.std.proofs.Common.{rules}
use Rattle.records.specs.Answers.{units_in_run, unit_fault}
use Rattle.records.proofs.AnswerLaws.{first_refused_is}
use Rattle.records.proofs.reading.judge_units.Goals as goal

pub returns : goal.returns
returns c = first_refused_is _ _ (units_in_run c.args.b.now c.args.units) (unit_fault c.args.b.now c.args.units) c.first_refused.ensures (λ i a l p. search rules)
