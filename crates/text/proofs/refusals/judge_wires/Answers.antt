-- `text::refusals::judge_wires` meets its contract: its first refusal is that of its first fault. Assumes nothing.
use Rattle.std.proofs.Common.{rules}
use Rattle.records.proofs.AnswerLaws.{first_refused_is}
use Rattle.text.specs.Texting.{wire_fault}
use Rattle.text.proofs.refusals.judge_wires.Goals as goal

pub returns : goal.returns
returns c = first_refused_is _ _ (λ i. tt) (wire_fault c.args.b.now) c.first_refused.ensures (λ i a l p. search rules)
