-- `records::reading::judge_nodes` meets its contract: its first refusal is that of its first fault. Assumes nothing.
use Rattle.std.proofs.Common.{rules}
use Rattle.records.specs.Answers.{nodes_in_run, node_fault}
use Rattle.records.proofs.AnswerLaws.{first_refused_is}
use Rattle.records.proofs.reading.judge_nodes.Goals as goal

pub returns : goal.returns
returns c = let a = c.args in first_refused_is _ _ (nodes_in_run a.b.now a.nodes) (node_fault a.b.now a.fold a.units a.nodes) c.first_refused.ensures (λ i a l p. search rules)
