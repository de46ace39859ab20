-- The listing of any bytes as a sheet: 01, "The listing program reads a sheet on standard input." Assumes nothing.
use Rattle.std.specs.Prelude.{cond, List, ℕ, eqb, take}
use Rattle.plans.specs.Plan.{plan_read}
use Rattle.planner.specs.Planning.{Planning}
use Rattle.lines.specs.Text.{plan_text, refused_text, loop_text}
use Rattle.text.specs.Texting.{loop_wires, Texting}

-- the text of an answer with that number, whose bytes are `written`: the plan's, "Case 10 prints `refused 6 wires 0 1`; other refusals
-- print `refused` and the number"
abbrev pub answer_text : ℕ → List ℕ → List ℕ
answer_text number written = cond (eqb number 0) (plan_text (plan_read written)) (cond (eqb number 6) (loop_text (loop_wires written)) (refused_text number))

-- a listing may answer `number` and `len`, and leave `left` and `after` where `plan` and `out` were lent: the planner answers and leaves
-- what it may, and the text of that is put out
pub record Listing (b plan out : List ℕ) (number len : ℕ) (left after : List ℕ) : Type 0 where
  pub answered : ℕ
  pub written : ℕ
  pub planned : Planning b plan answered written left
  pub texted : Texting 0 (answer_text answered (take written left)) out number len after
