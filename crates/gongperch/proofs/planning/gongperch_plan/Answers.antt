-- `gongperch::planning::gongperch_plan` meets its contract: the planner's answer by its number and its length. Assumes nothing.
use Rattle.gongperch.proofs.planning.gongperch_plan.Goals as goal

pub returns : goal.returns
returns c = rw (c.number.ensures, c.length.ensures) c.plan-answer.ensures
