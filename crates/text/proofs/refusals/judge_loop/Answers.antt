-- `text::refusals::judge_loop` meets its contract: the length's fault stands before the records'. Assumes nothing.
use mathlib.Core.Path.{sym, ◌∙◌}
use borrow.Author.Tests.{not-true, not-false}
use Rattle.records.specs.Answers.{reason_of}
use Rattle.text.specs.Texting.{loop_fault}
use Rattle.text.proofs.refusals.judge_loop.Goals as goal

pub returns-then-not-loop_whole : goal.returns-then-not-loop_whole
unfolding reason_of loop_fault
returns-then-not-loop_whole c = simp (sym c.loop_whole.ensures ∙ not-true _ c.if-not-loop_whole.true-raw)

pub returns : goal.returns
unfolding loop_fault
returns c = simp (sym c.loop_whole.ensures ∙ not-false _ c.if-not-loop_whole.false-raw) c.judge_wires.ensures
