-- Only passes between functions: the fault and the text of an answer by its cases, before it is known that the planner left a plan or a
-- loop. Assumes nothing.
use Rattle.std.specs.Prelude.{List, ℕ, take, Result, Ok, Err}
use Rattle.plans.specs.Plan.{plan_read}
use Rattle.plans.specs.Judging.{plan_fault}
use Rattle.records.specs.Numbers.{reason_number}
use Rattle.planner.specs.declared.NoPlan.{NoPlan}
use Rattle.planner.specs.declared.NoPlan.TheVariants as P
use Rattle.lines.specs.Text.{plan_text, refused_text, loop_text}
use Rattle.text.specs.Texting.{loop_wires, loop_fault}

abbrev pub said_fault : Result ℕ NoPlan → List ℕ → ℕ
said_fault (Ok n) left = plan_fault (take n left)
said_fault (Err (P.Refused why)) left = 0
said_fault (Err (P.Unfoldable n)) left = loop_fault (take n left)
said_fault (Err (P.Short n)) left = 0

abbrev pub said_text : Result ℕ NoPlan → List ℕ → List ℕ
said_text (Ok n) left = plan_text (plan_read (take n left))
said_text (Err (P.Refused why)) left = refused_text (reason_number why)
said_text (Err (P.Unfoldable n)) left = loop_text (loop_wires (take n left))
said_text (Err (P.Short n)) left = refused_text 7
