-- When the live count of a slot is 0, and what it is else. Assumes nothing.
use mathlib.Core.Path.{◌≡◌, refl}
use mathlib.Core.Bool.{true, false, ◌&&◌, and-false}
use mathlib.Core.List.{List}
use Prim.Native.Nat.{ℕ, ◌<◌, ◌≤◌}
use native.Mathlib.Omega.{arith}
use lib.Dec.{eqb}
use borrow.Author.Tests.{lt-ltb, le-ltb, ne_eqb}
use Rattle.records.specs.declared.reading.Reason.{Reason}
use Rattle.records.proofs.AnswerLaws.{reason_positive}
use Rattle.std.specs.Prelude.{Err}
use Rattle.sheets.specs.Sheet.{sheet_of, sheet_fault}
use Rattle.sheets.specs.Answers.{sheet_answer}
use Rattle.folding.specs.Walks.{start, foldable}
use Rattle.folding.specs.Folding.{net}
use Rattle.folding.specs.Lifetime.{live}
use Rattle.planner.specs.Figures.{live_in}
use Rattle.planner.proofs.AnswerLaws.{why_fault}

module _ (b : List ℕ) (t : ℕ) where
  -- a sheet with a fault
  pub refused_none : (why : Reason) → sheet_answer b ≡ Err why → 0 ≡ live_in b t
  unfolding live_in
  refused_none why e =
      let f = (why_fault b why e).0 in
      rw (ne_eqb (sheet_fault b) 0 (λ z. omega (arith, f, reason_positive why))) refl

  -- no such slot
  pub beyond_none : (sheet_of b).fold ≤ t → 0 ≡ live_in b t
  unfolding live_in
  beyond_none h = rw (le-ltb t (sheet_of b).fold h, and-false (eqb (sheet_fault b) 0 && foldable (net (sheet_of b)))) refl

  module _ (fine : sheet_fault b ≡ 0) where
    -- a sheet that does not fold
    pub unfolded_none : foldable (net (sheet_of b)) ≡ false → 0 ≡ live_in b t
    unfolding live_in
    unfolded_none e = rw (fine, e) refl

    pub live_is : foldable (net (sheet_of b)) ≡ true → t < (sheet_of b).fold → live (sheet_of b) (start (net (sheet_of b))) t ≡ live_in b t
    unfolding live_in
    live_is e h = rw (fine, e, lt-ltb t (sheet_of b).fold h) refl
