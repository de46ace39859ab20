-- 01's prints are what listings of cases 9 and 10 put out: case 9's is the text of the plan that its sheet has, and case 10's that of
-- its only loop. Assumes nothing.
use mathlib.Core.Path.{◌≡◌, refl, sym, ap, ◌∙◌}
use mathlib.Core.Bool.{true, false}
use mathlib.Core.List.{List}
use Prim.Native.Nat.{ℕ, ◌≤◌}
use lib.ListN.{length, take}
use borrow.Author.Tests.{le-leb}
use Rattle.words.specs.Loops
use Rattle.words.specs.Words
use Rattle.records.specs.Records
use Rattle.sheets.specs.Sheet
use Rattle.folding.specs.Walks
use Rattle.folding.specs.Folding
use Rattle.folding.specs.Lifetime
use Rattle.plans.specs.Plan
use Rattle.plans.specs.Judging
use Rattle.drawing.specs.PlanOf
use Rattle.sheets.specs.Sheet.{sheet_of, sheet_fault}
use Rattle.folding.specs.Walks.{foldable}
use Rattle.folding.specs.Folding.{net}
use Rattle.plans.specs.Plan.{plan_read}
use Rattle.drawing.specs.PlanOf.{plan_of, plan_length}
use Rattle.planner.proofs.AnswerLaws.{folds_or}
use Rattle.lines.specs.Text.{plan_text, loop_text}
use Rattle.lines.specs.Prints.{print_9, print_10}
use Rattle.lines.proofs.Printed.{case_9, printed_9, printed_10}
use Rattle.text.specs.Texting.{Texting}
use Rattle.listings.specs.Listing.{answer_text, Listing}
use Rattle.listings.proofs.SheetPrint.{listed_plan, listed_loop}
use Rattle.demands.specs.Demands.{Prints}
use Rattle.demands.specs.Cases
use Rattle.demands.specs.Cases.{loop_of_two, Printed}
use Rattle.demands.proofs.Worked.{only_loop_10}

-- a text that fits is put out
put_out : (text out : List ℕ) (number len : ℕ) (after : List ℕ) → length text ≤ length out → Texting 0 text out number len after →
    (number ≡ 0) × (len ≡ length text) × (after ≡ Records.over text out)
put_out text out number len after fits t =
    let enough = le-leb (length text) (length out) fits in
    (t.number_is ∙ rw enough refl, t.length_is, t.out_is ∙ rw enough refl)

-- the text of whatever the planner may answer on the sheet is this one
prints : (b text : List ℕ) →
    ((plan out : List ℕ) (number len : ℕ) (left after : List ℕ) → plan_length b ≤ length plan → (x : Listing b plan out number len left after) →
    answer_text x.answered (take x.written left) ≡ text) → Prints b text
prints b text is plan out number len left after room fits x = put_out text out number len after fits (rw (is plan out number len left after room x) at x.texted)

-- both sheets are without fault; case 9's folds, and the plan that 01 prints is the one that it has; case 10's does not fold
pub record Computed : Type 0 where
  pub fine_9 : sheet_fault (loop_of_two 1) ≡ 0
  pub folds_9 : foldable (net (sheet_of (loop_of_two 1))) ≡ true
  pub plan_9 : plan_of (sheet_of (loop_of_two 1)) ≡ plan_read case_9
  pub fine_10 : sheet_fault (loop_of_two 0) ≡ 0
  pub folds_10 : foldable (net (sheet_of (loop_of_two 0))) ≡ false

pub computed : Computed
unfolding Cases.loop_of_two Loops.tab Loops.every Loops.some_of Loops.total Loops.largest Loops.count Loops.lowest Loops.first Words.floor Words.residue Words.signed Records.reading_fault Records.clashes Records.occupied Records.fed_once Sheet.sheet_of Sheet.sheet_faults Walks.minℤ Walks.better Walks.next Walks.row Walks.settled Walks.settles Walks.chain Walks.foldable Walks.deepest Walks.starts Folding.raw Folding.bound Folding.wait Folding.tap Lifetime.longest_wait Lifetime.falls Lifetime.live Lifetime.registers Plan.concat Plan.plan_bytes Plan.plan_read Judging.longest_tap Judging.figures_right Judging.plan_faults PlanOf.plan_of
computed = record { fine_9 = refl; folds_9 = refl; plan_9 = refl; fine_10 = refl; folds_10 = refl }

pub printed : Printed
printed = record {
  case_9 = prints (loop_of_two 1) print_9 (λ plan out number len left after room x.
      let done = x.planned.number_is ∙ folds_or (loop_of_two 1) plan computed.fine_9 room true computed.folds_9 in
      listed_plan (loop_of_two 1) plan out number len left after x done ∙ ap plan_text computed.plan_9 ∙ printed_9);
  case_10 = prints (loop_of_two 0) print_10 (λ plan out number len left after room x.
      let six = x.planned.number_is ∙ folds_or (loop_of_two 0) plan computed.fine_10 room false computed.folds_10 in
      listed_loop (loop_of_two 0) plan out number len left after x six ∙ ap loop_text (sym (only_loop_10 _ (x.planned.shown six).loop)) ∙ printed_10);
}
