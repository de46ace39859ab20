-- What is listed is the sheet's own: at 0 the text of its plan, at 6 that of the loop shown. Assumes nothing.
use mathlib.Core.Path.{◌≡◌, refl, sym, ap, ◌∙◌}
use mathlib.Core.List.{List, [], ◌∷◌, append-nil}
use Prim.Native.Nat.{ℕ}
use native.Mathlib.Omega.{arith}
use lib.ListN.{length, take, drop}
use lib.Seq.{take_at}
use Rattle.plans.proofs.PlanBytes.{loop_back}
use Rattle.sheets.specs.Sheet.{sheet_of}
use Rattle.sheets.proofs.SheetLaws.{passed, sound_of}
use Rattle.folding.proofs.FoldingLaws.{folds_well}
use Rattle.plans.specs.Plan.{plan_bytes, loop_bytes, loop_wire_bytes, loop_read}
use Rattle.plans.proofs.ConcatLaws.{length_concat}
use Rattle.drawing.specs.PlanOf.{plan_of}
use Rattle.planner.specs.Planning.{answered_length, left_in}
use Rattle.drawing.proofs.PassedPlan.{reads_back, length_written}
use Rattle.planner.proofs.PlanningLaws.{at_zero, length_loop}
use Rattle.lines.specs.Text.{plan_text, loop_text}
use Rattle.text.specs.Texting.{loop_wires}
use Rattle.listings.specs.Listing.{answer_text, Listing}

-- a loop's wires are read back from its bytes
wires_back : (l : List ℕ) → loop_wires (loop_bytes l) ≡ l
unfolding loop_bytes
wires_back l =
    let w = loop_bytes l in
    ap (loop_read (length w)) (sym (append-nil w)) ∙ loop_back l [] (length w) (length_concat loop_wire_bytes 3 (λ e. refl) l)

module _ (b plan out : List ℕ) (number len : ℕ) (left after : List ℕ) (x : Listing b plan out number len left after) where
  -- "Fields are the plan's": those of the plan that the sheet has
  pub listed_plan : x.answered ≡ 0 → answer_text x.answered (take x.written left) ≡ plan_text (plan_of (sheet_of b))
  listed_plan done =
      let j = at_zero b (length plan) (sym x.planned.number_is ∙ done) in
      let pass = passed b j.fine in
      let ok = folds_well (sheet_of b) (sound_of b j.fine) j.folds_is in
      let f = x.planned.fixed (λ six. omega arith) in
      let w = plan_bytes (plan_of (sheet_of b)) in
      let long : length w ≡ x.written = length_written b pass ok ∙ sym (f.0 ∙ ap (answered_length b) done) in
      let head : take x.written left ≡ w = ap (take x.written) (f.1 ∙ ap (left_in b plan) done) ∙ take_at w (drop (length w) plan) x.written long in
      rw (done, head) (ap plan_text (reads_back b pass ok))

  -- "refused 6 wires 0 1": the wires of a loop whose bounds total below 0
  pub listed_loop : (six : x.answered ≡ 6) → answer_text x.answered (take x.written left) ≡ loop_text ((x.planned.shown six).wire ∷ (x.planned.shown six).wires)
  listed_loop six =
      let s = x.planned.shown six in
      let w = loop_bytes (s.wire ∷ s.wires) in
      let head : take x.written left ≡ w = ap (take x.written) s.left ∙ take_at w (drop (length w) plan) x.written (length_loop s.wire s.wires ∙ sym s.length_is) in
      rw (six, head) (ap loop_text (wires_back (s.wire ∷ s.wires)))
