-- The contract of plan admits one result: a number and a length say the case, and but for the loop at 6 what is left is fixed.
-- Assumes nothing.
use mathlib.Core.Path.{◌≡◌, refl, sym, ap₂, ◌∙◌}
use mathlib.Core.Bool.{cond}
use mathlib.Core.List.{List}
use Prim.Native.Nat.{ℕ}
use lib.Dec.{eqb}
use Rattle.std.specs.Prelude.{Result, Ok, Err}
use Rattle.records.specs.Answers.{reason_of}
use Rattle.records.proofs.NumberLaws.{by_number}
use Rattle.planner.specs.declared.NoPlan.{NoPlan}
use Rattle.planner.specs.declared.NoPlan.TheVariants as N
use Rattle.planner.specs.Planning.{Planning}
use Rattle.planner.specs.Calls.{planned_number, planned_length}
use Rattle.planner.proofs.PlanningLaws.{planned_once}

-- the answer with a number and a length
planned_of : ℕ → ℕ → Result ℕ NoPlan
planned_of n len = cond (eqb n 0) (Ok len) (Err (cond (eqb n 6) (N.Unfoldable len) (cond (eqb n 7) (N.Short len) (N.Refused (reason_of n)))))

planned_back : (r : Result ℕ NoPlan) → planned_of (planned_number r) (planned_length r) ≡ r
unfolding planned_of reason_of
planned_back (Ok n) = refl
planned_back (Err (N.Unfoldable n)) = refl
planned_back (Err (N.Short n)) = refl
planned_back (Err (N.Refused why)) = by_number (λ n. planned_of n 0) (λ why. Err (N.Refused why)) refl refl refl refl refl refl why

-- two answers that are admitted have one number; and but for 6 they are one answer, which leaves one buffer
pub one_plan : (b before : List ℕ) (r s : Result ℕ NoPlan) (after other : List ℕ) → Planning b before (planned_number r) (planned_length r) after →
    Planning b before (planned_number s) (planned_length s) other → (planned_number r ≡ planned_number s) × (¬ (planned_number r ≡ 6) → (r ≡ s) × (after ≡ other))
one_plan b before r s after other x y =
    let once = planned_once b before (planned_number r) (planned_number s) (planned_length r) (planned_length s) after other x y in
    (once.0, λ h. let fixed = once.1 h in (sym (planned_back r) ∙ ap₂ planned_of once.0 fixed.0 ∙ planned_back s, fixed.1))
