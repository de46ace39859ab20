-- What the planner may answer where the sheet has a fault, the buffer is short, the sheet does not fold, or it folds. Assumes nothing.
use mathlib.Core.Path.{◌≡◌, refl, sym, ap, ◌∙◌}
use mathlib.Core.Bool.{Bool, true, false}
use mathlib.Core.List.{List}
use Prim.Native.Nat.{ℕ, zero, suc, ◌<◌, ◌≤◌}
use native.Mathlib.Omega.{arith}
use lib.ListN.{length}
use borrow.Author.Tests.{le-leb, lt-leb, ne_eqb}
use Rattle.words.specs.Loops.{unless}
use Rattle.records.specs.Records.{over}
use Rattle.records.specs.declared.reading.Reason.{Reason}
use Rattle.records.specs.Answers.{answer_number}
use Rattle.records.specs.Numbers.{reason_number}
use Rattle.sheets.specs.declared.Sheet as Head
use Rattle.std.specs.Prelude.{Ok, Err}
use Rattle.sheets.specs.Sheet.{sheet_of, sheet_fault}
use Rattle.sheets.specs.Answers.{sheet_answer}
use Rattle.sheets.proofs.SheetLaws.{sheet_fault_le}
use Rattle.sheets.proofs.AnswerLaws.{number_is, sheet_got, held_of}
use Rattle.waits.specs.Fine.{Fine}
use Rattle.folding.specs.Walks.{foldable}
use Rattle.folding.specs.Folding.{net}
use Rattle.plans.specs.Plan.{plan_bytes}
use Rattle.drawing.specs.PlanOf.{plan_of, plan_length}
use Rattle.planner.specs.Planning.{plan_number, LoopShown, Planning}

-- ---- the judge's answer

-- a sheet that the judge got has no fault
pub got_fine : (b : List ℕ) (s : Head.Sheet) → sheet_answer b ≡ Ok s → Fine b s
got_fine b s e = let g = sheet_got b s e in record { whole = rw g.1 (held_of b g.0).whole; fine = g.0 }

-- a reason has the fault's number
pub why_fault : (b : List ℕ) (why : Reason) → sheet_answer b ≡ Err why → (reason_number why ≡ sheet_fault b) × (reason_number why ≤ 5)
why_fault b why e =
    let n : reason_number why ≡ sheet_fault b = ap answer_number (sym e) ∙ number_is b in
    (n, omega (arith, n, sheet_fault_le b))

-- ---- what is left

module _ (b l : List ℕ) where
  -- a fault of the sheet
  pub planning_refused : (n : ℕ) → n ≡ sheet_fault b → 0 < n → n ≤ 5 → Planning b l n 0 l
  unfolding plan_number
  planning_refused zero e h few = absurd (omega arith)
  planning_refused (suc n) e h few = record {
    number_is = rw (sym e) refl;
    fixed = λ _. (rw (ne_eqb (suc n) 0 (λ none. omega arith), ne_eqb (suc n) 7 (λ seven. omega arith)) refl, rw (ne_eqb (suc n) 0 (λ none. omega arith)) refl);
    shown = λ six. absurd (omega arith);
  }

  module _ (fine : sheet_fault b ≡ 0) where
    -- a buffer that is too short
    pub planning_short : (n : ℕ) → n ≡ plan_length b → length l < n → Planning b l 7 n l
    unfolding plan_number
    planning_short n is h = record {
      number_is = rw (fine, lt-leb (plan_length b) (length l) (omega (arith, is))) refl;
      fixed = λ _. (is, refl);
      shown = λ six. absurd (omega arith);
    }

    module _ (room : plan_length b ≤ length l) where
      -- the number goes by whether it folds
      pub folds_or : (t : Bool) → foldable (net (sheet_of b)) ≡ t → plan_number b (length l) ≡ unless t 6
      unfolding plan_number
      folds_or t e = rw (fine, le-leb (plan_length b) (length l) room, e) refl

      -- a sheet that does not fold
      pub planning_loop : foldable (net (sheet_of b)) ≡ false → (n : ℕ) (after : List ℕ) → LoopShown b l n after → Planning b l 6 n after
      planning_loop e n after shown = record { number_is = sym (folds_or false e); fixed = λ other. absurd (other refl); shown = λ _. shown }

      -- a sheet that folds
      pub planning_done : foldable (net (sheet_of b)) ≡ true → (n : ℕ) → n ≡ plan_length b → (after : List ℕ) → after ≡ over (plan_bytes (plan_of (sheet_of b))) l → Planning b l 0 n after
      planning_done e n is after lays = record { number_is = sym (folds_or true e); fixed = λ _. (is, lays); shown = λ six. absurd (omega arith) }
