-- 01's number for each of the calls' answers, and what memory_words answers. Assumes nothing.
use Rattle.std.specs.Prelude.{◌≡◌, cond, List, ℕ, eqb, Result, Ok, Err, ⊤}
use Rattle.records.specs.declared.reading.Reason.{Reason}
use Rattle.records.specs.Numbers.{number_of, reason_number}
use Rattle.plans.specs.Plan.{plan_read}
use Rattle.plans.specs.Judging.{plan_fault}
use Rattle.memory.specs.Memory.{size}
use Rattle.machine.specs.declared.NotCleared.{NotCleared}
use Rattle.machine.specs.declared.NotCleared.TheVariants as C
use Rattle.machine.specs.declared.NotStepped.{NotStepped}
use Rattle.machine.specs.declared.NotStepped.TheVariants as S

-- column no. of 01's table of refusals
abbrev pub not_cleared_number : NotCleared → ℕ
not_cleared_number (C.Refused why) = reason_number why
not_cleared_number C.Short = 7

abbrev pub cleared_number : Result ⊤ NotCleared → ℕ
cleared_number = number_of not_cleared_number

abbrev pub not_stepped_number : NotStepped → ℕ
not_stepped_number (S.Refused why) = reason_number why
not_stepped_number S.Short = 7
not_stepped_number S.Late = 8

abbrev pub stepped_number : Result ⊤ NotStepped → ℕ
stepped_number = number_of not_stepped_number

abbrev pub needed_number : Result ℕ Reason → ℕ
needed_number = number_of reason_number

-- the words that it says, and 0 with a refusal
abbrev pub needed_words : Result ℕ Reason → ℕ
needed_words (Ok n) = n
needed_words (Err why) = 0

-- "Memory: word 0 is the cycle number t; then for each unit depth + line length words": memory_words may answer `number` and `words`
-- on the plan b
pub record Needing (b : List ℕ) (number words : ℕ) : Type 0 where
  pub number_is : number ≡ plan_fault b
  pub words_is : words ≡ cond (eqb (plan_fault b) 0) (size (plan_read b)) 0
