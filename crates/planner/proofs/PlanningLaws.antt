-- What the planner's number says of sheet and buffer; some result is admitted on every input, and one alone but for the loop at 6.
-- Assumes nothing.
use mathlib.Core.Path.{◌≡◌, refl, sym, ap, ◌∙◌}
use mathlib.Core.Bool.{Bool, true, false}
use mathlib.Core.List.{List, [], ◌∷◌}
use Prim.Native.Nat.{ℕ, zero, suc, ◌*◌, ◌≤◌}
use native.Mathlib.Omega.{arith}
use native.Mathlib.Decide.{ℕ_discrete}
use lib.Dec.{leb}
use lib.ListN.{length, drop, length-append, length-drop}
use lib.Seq.{drop_at}
use borrow.Author.Tests.{leb-true}
use Rattle.words.specs.Loops.{unless, ◌then◌}
use Rattle.words.proofs.FaultLaws.{then_le, unless_le, then_split, unless_true}
use Rattle.records.specs.Records.{over}
use Rattle.sheets.specs.Sheet.{sheet_of, sheet_fault}
use Rattle.sheets.proofs.SheetLaws.{passed, sound_of, sheet_fault_le, nodes_is}
use Rattle.folding.specs.Walks.{Loop, foldable}
use Rattle.folding.specs.Folding.{net}
use Rattle.folding.proofs.FoldingLaws.{loop_of}
use Rattle.folding.proofs.SizeLaws.{small_of, loop_short}
use Rattle.plans.specs.Plan.{loop_bytes}
use Rattle.plans.proofs.ConcatLaws.{length_concat}
use Rattle.drawing.specs.PlanOf.{plan_length}
use Rattle.planner.specs.Planning.{plan_number, answered_length, left_in, Planning}

pub plan_number_le : (b : List ℕ) (room : ℕ) → plan_number b room ≤ 7
unfolding plan_number
plan_number_le b room =
    let a = sheet_fault_le b in
    then_le (sheet_fault b then unless (leb (plan_length b) room) 7) _ 7
    (then_le (sheet_fault b) _ 7 (omega arith) (unless_le (leb (plan_length b) room) 7 7 (omega arith)))
    (unless_le (foldable (net (sheet_of b))) 6 7 (omega arith))

-- what a number of 0 or 6 says: no fault, room for the plan, and whether it folds
pub record Judged (b : List ℕ) (room : ℕ) (folds : Bool) : Type 0 where
  pub fine : sheet_fault b ≡ 0
  pub room_enough : plan_length b ≤ room
  pub folds_is : foldable (net (sheet_of b)) ≡ folds

pub at_zero : (b : List ℕ) (room : ℕ) → plan_number b room ≡ 0 → Judged b room true
unfolding plan_number
at_zero b room h =
    let a = then_split (sheet_fault b then unless (leb (plan_length b) room) 7) (unless (foldable (net (sheet_of b))) 6) h in
    let f = then_split (sheet_fault b) (unless (leb (plan_length b) room) 7) a.0 in
    record {
      fine = f.0;
      room_enough = leb-true (plan_length b) room (unless_true (leb (plan_length b) room) 6 f.1);
      folds_is = unless_true (foldable (net (sheet_of b))) 5 a.1;
    }

pub at_six : (b : List ℕ) (room : ℕ) → plan_number b room ≡ 6 → Judged b room false
unfolding plan_number
at_six b room h = by_fault (sheet_fault b) refl (sheet_fault_le b) h
  where
    by_fold : (fits folds : Bool) → (unless fits 7 then unless folds 6) ≡ 6 → (fits ≡ true) × (folds ≡ false)
    by_fold true true h = absurd (omega arith)
    by_fold true false h = (refl, refl)
    by_fold false folds h = absurd (omega arith)

    by_fault : (n : ℕ) → sheet_fault b ≡ n → n ≤ 5 → (n then unless (leb (plan_length b) room) 7 then unless (foldable (net (sheet_of b))) 6) ≡ 6 → Judged b room false
    by_fault zero e l h =
        let t = by_fold (leb (plan_length b) room) (foldable (net (sheet_of b))) h in
        record { fine = e; room_enough = leb-true (plan_length b) room t.0; folds_is = t.1 }
    by_fault (suc n) e l h = absurd (omega arith)

-- ---- lengths

pub length_loop : (e : ℕ) (es : List ℕ) → length (loop_bytes (e ∷ es)) ≡ 3 * suc (length es)
unfolding loop_bytes
length_loop e es = length_concat (λ (e : ℕ). 80 ∷ 87 ∷ e ∷ []) 3 (λ a. refl) (e ∷ es)

-- the loop fits where the plan would
pub loop_room : (b : List ℕ) → sheet_fault b ≡ 0 → (e : ℕ) (es : List ℕ) → Loop (net (sheet_of b)) e es → 3 * suc (length es) ≤ plan_length b
loop_room b fine e es loop =
    let p = passed b fine in
    omega (arith, loop_short (sheet_of b) (sound_of b fine) (small_of b p) e es loop, nodes_is b)

pub length_over : (w l : List ℕ) → length w ≤ length l → length (over w l) ≡ length l
length_over w l h = simp (length-append, length-drop) (omega arith)

pub drop_over : (w l : List ℕ) → drop (length w) (over w l) ≡ drop (length w) l
drop_over w l = drop_at w (drop (length w) l) (length w) refl

-- ---- a result, and one alone

pub planning_met : (b before : List ℕ) → (number : ℕ) × (len : ℕ) × (after : List ℕ) × Planning b before number len after
planning_met b before = elim (ℕ_discrete (plan_number b (length before)) 6) [
  | yes six ↦
      let j = at_six b (length before) six in
      let l = loop_of (sheet_of b) (sound_of b j.fine) j.folds_is in (
        6,
        3 * suc (length l.1),
        over (loop_bytes (l.0 ∷ l.1)) before,
        record {
          number_is = sym six;
          fixed = λ h. absurd (h refl);
          shown = λ h. record { wire = l.0; wires = l.1; loop = l.2; length_is = refl; left = refl };
        },
      )
  | no other ↦
      let n = plan_number b (length before) in
      (n, answered_length b n, left_in b before n, record { number_is = refl; fixed = λ h. (refl, refl); shown = λ h. absurd (other h) })
]

-- any two results that the planner's definition admits are equal, but for the choice of loop at 6
pub planned_once : (b before : List ℕ) (n n' len len' : ℕ) (after after' : List ℕ) → Planning b before n len after → Planning b before n' len' after' →
    (n ≡ n') × (¬ (n ≡ 6) → (len ≡ len') × (after ≡ after'))
planned_once b before n n' len len' after after' p p' =
    let e : n ≡ n' = p.number_is ∙ sym p'.number_is in (
      e,
      λ h.
          let a = p.fixed h in
          let a' = p'.fixed (λ q. h (e ∙ q)) in
          (a.0 ∙ ap (answered_length b) e ∙ sym a'.0, a.1 ∙ ap (left_in b before) e ∙ sym a'.1),
    )
