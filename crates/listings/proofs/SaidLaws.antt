-- What the planner leaves at 0 is a plan without fault, and at 6 a loop without fault: no text of either is refused. Assumes nothing.
use mathlib.Core.Path.{◌≡◌, refl, sym, ap, ◌∙◌}
use mathlib.Core.Bool.{true}
use mathlib.Core.List.{List, [], ◌∷◌, append-nil}
use Prim.Native.Nat.{ℕ, ◌+◌, ◌*◌, ◌%◌, ◌<◌, ◌≤◌}
use native.Mathlib.Omega.{arith}
use lib.Dec.{leb, eqb}
use lib.ListN.{length, get_or, take}
use lib.Seq.{take_at}
use borrow.Author.Tests.{lt-ltb, le-leb, eq-eqb}
use Rattle.std.specs.Prelude.{Result, Ok, Err}
use Rattle.words.proofs.LoopLaws.{and_join}
use Rattle.words.proofs.FaultLaws.{first_none}
use Rattle.records.specs.Records.{at, over, most_nodes, most_wires, between}
use Rattle.records.specs.Numbers.{reason_number}
use Rattle.records.proofs.NumberLaws.{by_number}
use Rattle.lines.specs.Text.{refused_text}
use Rattle.records.proofs.ByteLaws.{marked_ok}
use Rattle.sheets.specs.Sheet.{sheet_of}
use Rattle.sheets.proofs.SheetLaws.{passed, sound_of, counts_of, nodes_is, wires_is}
use Rattle.folding.specs.Folding.{net}
use Rattle.folding.proofs.FoldingLaws.{folds_well}
use Rattle.folding.proofs.SizeLaws.{small_of, loop_short}
use Rattle.loops.proofs.RingLaws.{walk_wire}
use Rattle.plans.specs.Plan.{plan_bytes, loop_bytes, loop_wire_bytes, loop_mark, concat}
use Rattle.plans.specs.Judging.{plan_fault}
use Rattle.plans.proofs.ConcatLaws.{at_concat}
use Rattle.planner.specs.declared.NoPlan.{NoPlan}
use Rattle.planner.specs.declared.NoPlan.TheVariants as P
use Rattle.drawing.specs.PlanOf.{plan_of}
use Rattle.planner.specs.Planning.{Planning}
use Rattle.planner.specs.Calls.{planned_number, planned_length}
use Rattle.drawing.proofs.PassedPlan.{length_written, passes}
use Rattle.planner.proofs.PlanningLaws.{at_zero, at_six, length_loop}
use Rattle.text.specs.Texting.{wires_shown, loop_whole, wire_fault, loop_fault}
use Rattle.listings.specs.Listing.{answer_text}
use Rattle.listings.specs.Said.{said_fault, said_text}

-- the head of what lies over
front : (w l : List ℕ) (n : ℕ) → n ≡ length w → (left : List ℕ) → left ≡ over w l → take n left ≡ w
front w l n e left is = rw (is, e) (take_at w _ (length w) refl)

-- ---- a loop's bytes

module _ (es : List ℕ) where
  byte : (i j : ℕ) → i < length es → j < 3 → at (loop_bytes es) (3 * i + j) ≡ get_or (loop_wire_bytes (get_or es i 0)) j 0
  unfolding loop_bytes
  byte i j h k = ap (λ (l : List ℕ). get_or l (3 * i + j) 0) (sym (append-nil (concat loop_wire_bytes es))) ∙ at_concat loop_wire_bytes 3 (λ e. refl) es [] i j 0 h k

  module _ (n : ℕ) (long : length (loop_bytes es) ≡ 3 * length es) (some : 0 < length es) (few : length es ≤ most_nodes) (below : (i : ℕ) → i < length es → get_or es i 0 < most_wires) where
    shown : wires_shown (loop_bytes es) ≡ length es
    shown = omega (arith, long)

    whole : loop_whole (loop_bytes es) ≡ true
    whole =
        and_join (eqb (length (loop_bytes es) % 3) 0) (between 1 (wires_shown (loop_bytes es)) most_nodes)
        (eq-eqb (length (loop_bytes es) % 3) 0 (omega (arith, long)))
        (and_join (leb 1 (wires_shown (loop_bytes es))) (leb (wires_shown (loop_bytes es)) most_nodes) (le-leb 1 (wires_shown (loop_bytes es)) (omega (arith, shown))) (le-leb (wires_shown (loop_bytes es)) most_nodes (omega (arith, shown))))

    pub loop_fine : loop_fault (loop_bytes es) ≡ 0
    unfolding loop_fault wire_fault
    loop_fine =
        rw whole
        (first_none (wires_shown (loop_bytes es)) (wire_fault (loop_bytes es)) (λ i h.
        let hi : i < length es = omega (arith, shown) in
        rw (marked_ok (loop_bytes es) (3 * i) loop_mark (byte i 0 hi (omega arith)) (byte i 1 hi (omega arith)), byte i 2 hi (omega arith), lt-ltb (get_or es i 0) most_wires (below i hi)) refl))

-- ---- the planner's answer

module _ (b before : List ℕ) where
  plan_fine : (n : ℕ) (left : List ℕ) → Planning b before 0 n left → plan_fault (take n left) ≡ 0
  plan_fine n left p =
      let j = at_zero b (length before) (sym p.number_is) in
      let ok = folds_well (sheet_of b) (sound_of b j.fine) j.folds_is in
      let pd = passed b j.fine in
      let fixed = p.fixed (λ six. omega arith) in
      rw (front (plan_bytes (plan_of (sheet_of b))) before n (fixed.0 ∙ sym (length_written b pd ok)) left fixed.1) (passes b pd ok)

  loop_left : (n : ℕ) (left : List ℕ) → Planning b before 6 n left → loop_fault (take n left) ≡ 0
  loop_left n left p =
      let fine = (at_six b (length before) (sym p.number_is)).fine in
      let pd = passed b fine in
      let s = p.shown refl in
      let es = s.wire ∷ s.wires in
      let long = length_loop s.wire s.wires in
      let few = loop_short (sheet_of b) (sound_of b fine) (small_of b pd) s.wire s.wires s.loop in
      rw (front (loop_bytes es) before n (s.length_is ∙ sym long) left s.left)
      (loop_fine es n long (omega arith) (omega (arith, few, nodes_is b, (counts_of b pd).nodes_most))
      (λ i h. let w = walk_wire (net (sheet_of b)) es _ _ s.loop.closed i h in omega (arith, w, wires_is b, (counts_of b pd).wires_most)))

  -- no text of an answer is refused by what the planner left
  pub said_fine : (a : Result ℕ NoPlan) (left : List ℕ) → Planning b before (planned_number a) (planned_length a) left → said_fault a left ≡ 0
  said_fine (Ok n) left p = plan_fine n left p
  said_fine (Err (P.Refused why)) left p = refl
  said_fine (Err (P.Unfoldable n)) left p = loop_left n left p
  said_fine (Err (P.Short n)) left p = refl

-- the text by cases is the text by numbers
pub said_so : (a : Result ℕ NoPlan) (left : List ℕ) → said_text a left ≡ answer_text (planned_number a) (take (planned_length a) left)
said_so (Ok n) left = refl
said_so (Err (P.Refused why)) left = sym (by_number (λ n. answer_text n (take 0 left)) (λ why. refused_text (reason_number why)) refl refl refl refl refl refl why)
said_so (Err (P.Unfoldable n)) left = refl
said_so (Err (P.Short n)) left = refl
