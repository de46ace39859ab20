-- `judging::judge_front` meets its contract: the runs are those that the header says. Assumes nothing.
use Rattle.std.proofs.Common.{ap, ◌∙◌}
use Rattle.records.specs.Answers.{judged}
use Rattle.judging.proofs.RunLaws.{plan_front}
use Rattle.judging.proofs.judge_front.Goals as goal

pub returns : goal.returns
returns c =
    c.judge_parts.ensures
    ∙ ap judged (plan_front _ _ c.requires _ _ _ _ c.end-whole.ensures c.unit_run.ensures c.node_run.ensures c.switch_run.ensures)
