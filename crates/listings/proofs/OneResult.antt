-- The contract of listing admits one result, but for the loop at 6, which fixes the rest. Assumes nothing.
use mathlib.Core.Path.{◌≡◌, refl, sym, ap, ◌∙◌}
use mathlib.Core.List.{List, ◌∷◌}
use Prim.Native.Nat.{ℕ}
use lib.ListN.{take}
use Rattle.records.specs.Records.{over}
use Rattle.plans.specs.Plan.{loop_bytes}
use Rattle.planner.proofs.PlanningLaws.{planned_once}
use Rattle.lines.specs.Text.{loop_text}
use Rattle.std.specs.Prelude.{Result}
use Rattle.text.specs.declared.NoText.{NoText}
use Rattle.text.specs.Texting.{texted_number, texted_length}
use Rattle.text.proofs.OneResult.{one_text}
use Rattle.listings.specs.Listing.{answer_text, Listing}
use Rattle.listings.proofs.SheetPrint.{listed_loop}

-- the loop that is shown
abbrev pub loop_in : {b plan out : List ℕ} {number len : ℕ} {left after : List ℕ} (x : Listing b plan out number len left after) → x.answered ≡ 6 → List ℕ
loop_in x six = (x.planned.shown six).wire ∷ (x.planned.shown six).wires

-- of two results x and y: the planner's answer is the same; but for 6 all is the same; at 6 all that is not the loop is fixed by it: the
-- plan buffer has the loop's bytes and then what it had, and where both show one loop all is the same
pub record OneListing (b plan out : List ℕ) (r s : Result ℕ NoText) (left left' after after' : List ℕ)
    (x : Listing b plan out (texted_number r) (texted_length r) left after) (y : Listing b plan out (texted_number s) (texted_length s) left' after') : Type 0 where
  pub answered_same : x.answered ≡ y.answered
  pub not_6 : ¬ (x.answered ≡ 6) → (r ≡ s) × (left ≡ left') × (after ≡ after')
  pub at_6 : (six : x.answered ≡ 6) → left ≡ over (loop_bytes (loop_in x six)) plan
  pub one_loop : (six : x.answered ≡ 6) (six' : y.answered ≡ 6) → loop_in x six ≡ loop_in y six' → (r ≡ s) × (left ≡ left') × (after ≡ after')

pub one_listing : (b plan out : List ℕ) (r s : Result ℕ NoText) (left left' after after' : List ℕ)
    (x : Listing b plan out (texted_number r) (texted_length r) left after) (y : Listing b plan out (texted_number s) (texted_length s) left' after') →
    OneListing b plan out r s left left' after after' x y
one_listing b plan out r s left left' after after' x y =
    let once = planned_once b plan x.answered y.answered x.written y.written left left' x.planned y.planned in
    let same_text : answer_text x.answered (take x.written left) ≡ answer_text y.answered (take y.written left') → (r ≡ s) × (after ≡ after') =
    λ e. one_text 0 (answer_text x.answered (take x.written left)) out r s after after' x.texted (rw (sym e) at y.texted) in
    record {
      answered_same = once.0;
      not_6 = λ other.
          let fixed = once.1 other in
          let t = same_text (rw (once.0, fixed.0, fixed.1) refl) in
          (t.0, fixed.1, t.1);
      at_6 = λ six. (x.planned.shown six).left;
      one_loop = λ six six' same.
          let t = same_text (listed_loop b plan out _ _ left after x six ∙ ap loop_text same ∙ sym (listed_loop b plan out _ _ left' after' y six')) in
          (t.0, (x.planned.shown six).left ∙ ap (λ (l : List ℕ). over (loop_bytes l) plan) same ∙ sym (y.planned.shown six').left, t.1);
    }
