-- What the answer of a reading says: its number is the first fault, and a sheet that is got is held in its bytes. Assumes nothing.
use mathlib.Core.Path.{◌≡◌, refl, sym, ◌∙◌}
use mathlib.Core.List.{List}
use Prim.Native.Nat.{ℕ}
use Rattle.std.specs.Prelude.{Ok}
use Rattle.words.specs.Loops.{◌then◌}
use Rattle.words.proofs.FaultLaws.{then_split}
use Rattle.records.specs.Answers.{answer_number}
use Rattle.records.proofs.AnswerLaws.{got_none, number_answered}
use Rattle.sheets.specs.declared.Sheet.{Sheet as Header}
use Rattle.sheets.specs.Sheet.{sheet_of, sheet_fault}
use Rattle.sheets.specs.Answers.{header_of, sheet_answer, head_fault, records_fault, nodes_fault, Held}
use Rattle.sheets.proofs.SheetLaws.{sheet_fault_le}
use Rattle.sheets.proofs.PartLaws.{parts, head_counts, held}

module _ (b : List ℕ) where
  -- the answer's number is the first fault
  pub number_is : answer_number (sheet_answer b) ≡ sheet_fault b
  unfolding sheet_answer
  number_is = number_answered (header_of b) (sheet_fault b) (sheet_fault_le b)

  -- a sheet is got where there is no fault, and it is the header's
  pub sheet_got : (s : Header) → sheet_answer b ≡ Ok s → (sheet_fault b ≡ 0) × (s ≡ header_of b)
  unfolding sheet_answer
  sheet_got s e = got_none (header_of b) s (sheet_fault b) e

  pub held_of : sheet_fault b ≡ 0 → Held b (header_of b)
  held_of z =
      let t = then_split (head_fault b) (records_fault b then nodes_fault (sheet_of b)) (sym (parts b) ∙ z) in
      let u = then_split (records_fault b) (nodes_fault (sheet_of b)) t.1 in
      held b (header_of b) (record { said = refl; counts = head_counts b t.0 }) u.0
