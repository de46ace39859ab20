-- What the planner answers and what it leaves in the lent buffer, for all bytes as a sheet: 01, "Refusal numbers". Assumes nothing.
use Rattle.std.specs.Prelude.{◌≡◌, cond, List, ◌∷◌, ℕ, suc, ◌*◌, leb, eqb, length}
use Rattle.words.specs.Loops.{unless, ◌then◌}
use Rattle.records.specs.Records.{over}
use Rattle.sheets.specs.Sheet.{sheet_of, sheet_fault}
use Rattle.folding.specs.Walks.{Loop, foldable}
use Rattle.folding.specs.Folding.{net}
use Rattle.plans.specs.Plan.{plan_bytes, loop_length, loop_bytes}
use Rattle.drawing.specs.PlanOf.{plan_length, plan_of}

-- the number for sheet bytes b and a plan buffer of `room` bytes: the sheet's faults, "then 4, 5, 7, 6"
unfoldable pub plan_number : List ℕ → ℕ → ℕ
plan_number b room = sheet_fault b then unless (leb (plan_length b) room) 7 then unless (foldable (net (sheet_of b))) 6

-- "a length: bytes written at 0 and 6, the plan's length at 7, otherwise 0"; at 6 it is the loop's
abbrev pub answered_length : List ℕ → ℕ → ℕ
answered_length b number = cond (eqb number 0) (plan_length b) (cond (eqb number 7) (plan_length b) 0)

-- what stands in the buffer then: the plan's bytes are written at 0 alone
abbrev pub left_in : List ℕ → List ℕ → ℕ → List ℕ
left_in b before number = cond (eqb number 0) (over (plan_bytes (plan_of (sheet_of b))) before) before

-- At 6 "Which loop is free."
pub record LoopShown (b before : List ℕ) (len : ℕ) (after : List ℕ) : Type 0 where
  pub wire : ℕ
  pub wires : List ℕ
  pub loop : Loop (net (sheet_of b)) wire wires
  pub length_is : len ≡ loop_length * suc (length wires)
  pub left : after ≡ over (loop_bytes (wire ∷ wires)) before

-- the planner may answer `number` and `len` on the sheet b, and leave `after` where the buffer `before` was lent
pub record Planning (b before : List ℕ) (number len : ℕ) (after : List ℕ) : Type 0 where
  pub number_is : number ≡ plan_number b (length before)
  pub fixed : ¬ (number ≡ 6) → (len ≡ answered_length b number) × (after ≡ left_in b before number)
  pub shown : number ≡ 6 → LoopShown b before len after
