-- Laws of the loop that bytes say: what stops its judging, what it has where there is no fault, and its wires' text. Assumes nothing.
use mathlib.Core.Path.{◌≡◌, sym, ap, ◌∙◌}
use mathlib.Core.Bool.{true}
use mathlib.Core.List.{List}
use Prim.Native.Nat.{ℕ, ◌*◌, ◌%◌, ◌≤◌}
use native.Mathlib.Omega.{arith}
use lib.Dec.{ltb, leb, eqb}
use lib.ListN.{length}
use borrow.Author.Tests.{leb-true}
use Rattle.std.specs.Prelude.{Err}
use Rattle.words.specs.Loops.{first, unless, joined}
use Rattle.words.proofs.LoopLaws.{and_split, length_tab, getD_tab, joined_cong}
use Rattle.words.proofs.FaultLaws.{first_le, then_split, then_le, unless_true, unless_le}
use Rattle.records.specs.declared.reading.Reason.{Reason}
use Rattle.records.specs.Records.{at, between, most_nodes, most_wires}
use Rattle.records.specs.Answers.{judged, answer_number}
use Rattle.records.specs.Numbers.{reason_number}
use Rattle.records.proofs.ReadingLaws.{record_le}
use Rattle.records.proofs.AnswerLaws.{number_answered}
use Rattle.plans.specs.Plan.{loop_mark}
use Rattle.numerals.specs.Numerals.{field}
use Rattle.text.specs.Texting.{wires_shown, wire_at, loop_wires, loop_whole, wire_fault, loop_fault}

module _ (b : List ℕ) where
  pub whole_of : loop_fault b ≡ 0 → loop_whole b ≡ true
  unfolding loop_fault
  whole_of z = unless_true (loop_whole b) 0 (then_split (unless (loop_whole b) 1) (first (wires_shown b) (wire_fault b)) z).0

  -- whole records, at most as many as there may be nodes
  pub loop_so : loop_whole b ≡ true → (3 * wires_shown b ≤ length b) × (wires_shown b ≤ most_nodes)
  loop_so w =
      let t = and_split (eqb (length b % 3) 0) (between 1 (wires_shown b) most_nodes) w in
      (omega arith, leb-true (wires_shown b) most_nodes (and_split (leb 1 (wires_shown b)) (leb (wires_shown b) most_nodes) t.1).1)

loop_fault_le : (b : List ℕ) → loop_fault b ≤ 5
unfolding loop_fault wire_fault
loop_fault_le b =
    then_le (unless (loop_whole b) 1) _ 5 (unless_le (loop_whole b) 1 5 (omega arith))
    (first_le (wires_shown b) (wire_fault b) 5 (λ i. let l = record_le b (3 * i) loop_mark (ltb (wire_at b i) most_wires) in omega arith))

-- a reason has the fault's number
pub why_loop : (b : List ℕ) (why : Reason) → judged (loop_fault b) ≡ Err why → reason_number why ≡ loop_fault b
why_loop b why e = ap answer_number (sym e) ∙ number_answered tt (loop_fault b) (loop_fault_le b)

-- the wires read in place are the loop's
pub wires_so : (b : List ℕ) → joined (wires_shown b) (λ i. field " " (wire_at b i)) ≡ joined (length (loop_wires b)) (λ i. field " " (at (loop_wires b) i))
wires_so b =
    joined_cong (wires_shown b) (λ i. field " " (wire_at b i)) (λ i. field " " (at (loop_wires b) i)) (λ i l. ap (field " ") (sym (getD_tab (wires_shown b) (wire_at b) i 0 l)))
    ∙ ap (λ (n : ℕ). joined n (λ i. field " " (at (loop_wires b) i))) (sym (length_tab (wires_shown b) (wire_at b)))
