-- `judging::judge_inputs` meets its contract: inputs by their masks, then the figures. Assumes nothing.
use Rattle.std.proofs.Common.{◌≡◌, sym, ap, ◌∙◌}
use mathlib.Core.Bool.{Bool}
use Rattle.words.specs.Loops.{unless}
use Rattle.records.specs.Answers.{reason_of}
use Rattle.plans.specs.Plan.{plan_read}
use Rattle.judging.specs.Answers.{fed_fault, figures_fault}
use Rattle.judging.proofs.FeedLaws.{fed_is}
use Rattle.judging.proofs.judge_inputs.Goals as goal
use Rattle.judging.proofs.judge_inputs.Goals.{After-once, After-figures_right}

fed : (c : After-once) → fed_fault (plan_read c.args.plan.now.b.now) ≡ unless c.once.result 5
fed c =
    let a = c.args in
    fed_is _ _ c.requires.held a.occupied.now c.requires.occupied a.joined.now.fed c.requires.joins.fed_so c.unit_run.result c.unit_run.ensures
    ∙ ap (λ (t : Bool). unless t 5) (sym c.once.ensures)

figures : (c : After-figures_right) → figures_fault (plan_read c.args.plan.now.b.now) ≡ unless c.figures_right.result 9
unfolding figures_fault
figures c = ap (λ (t : Bool). unless t 9) (sym c.figures_right.ensures)

pub returns-then-not-once : goal.returns-then-not-once
unfolding reason_of
returns-then-not-once c = simp (fed (goal.at.returns-then-not-once c).After-once, c.if-not-once.true)

pub returns-then-not-figures_right : goal.returns-then-not-figures_right
unfolding reason_of
returns-then-not-figures_right c =
    let at = goal.at.returns-then-not-figures_right c in
    simp (fed at.After-once, c.if-not-once.false, figures at.After-figures_right, c.if-not-figures_right.true)

pub returns : goal.returns
returns c =
    let at = goal.at.returns c in
    simp (fed at.After-once, c.if-not-once.false, figures at.After-figures_right, c.if-not-figures_right.false)
