-- 01's number and length of the planner's answer. Assumes nothing.
use Rattle.std.specs.Prelude.{ℕ, Result, Ok, Err}
use Rattle.records.specs.Numbers.{number_of, reason_number}
use Rattle.planner.specs.declared.NoPlan.{NoPlan}
use Rattle.planner.specs.declared.NoPlan.TheVariants as N

-- column no. of 01's table of refusals
abbrev pub no_plan_number : NoPlan → ℕ
no_plan_number (N.Refused why) = reason_number why
no_plan_number (N.Unfoldable n) = 6
no_plan_number (N.Short n) = 7

abbrev pub planned_number : Result ℕ NoPlan → ℕ
planned_number = number_of no_plan_number

-- "bytes written at 0 and 6, the plan's length at 7, otherwise 0"
abbrev pub planned_length : Result ℕ NoPlan → ℕ
planned_length (Ok n) = n
planned_length (Err (N.Refused why)) = 0
planned_length (Err (N.Unfoldable n)) = n
planned_length (Err (N.Short n)) = n
