-- The paper's number of any call's answer. Assumes nothing.
use Rattle.std.specs.Prelude.{ℕ, Result, Ok, Err}
use Rattle.records.specs.declared.reading.Reason.{Reason}
use Rattle.records.specs.declared.reading.Reason.TheVariants.{Length, Mark, Range, Clash, Unfed, Figures}

-- "Each call ends in its result or one numbered refusal": 0 for the result, and else the number of the refusal
abbrev pub number_of : {A E : Type 0} → (E → ℕ) → Result A E → ℕ
number_of refusal (Ok got) = 0
number_of refusal (Err why) = refusal why

-- column no. of 01's table of refusals
abbrev pub reason_number : Reason → ℕ
reason_number Length = 1
reason_number Mark = 2
reason_number Range = 3
reason_number Clash = 4
reason_number Unfed = 5
reason_number Figures = 9
