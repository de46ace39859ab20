-- The contracts of clear, step and memory_words admit one result: a number says its case, and what is left is fixed. Assumes nothing.
use mathlib.Core.Path.{◌≡◌, refl, sym, ap, ap₂, ◌∙◌}
use mathlib.Core.Bool.{cond}
use mathlib.Core.List.{List}
use Prim.Native.Nat.{ℕ}
use lib.Dec.{eqb}
use Rattle.std.specs.Prelude.{Result, Ok, Err, ⊤}
use Rattle.records.specs.declared.reading.Reason.{Reason}
use Rattle.records.specs.Answers.{reason_of}
use Rattle.records.proofs.NumberLaws.{by_number}
use Rattle.machine.specs.declared.NotCleared.{NotCleared}
use Rattle.machine.specs.declared.NotCleared.TheVariants as C
use Rattle.machine.specs.declared.NotStepped.{NotStepped}
use Rattle.machine.specs.declared.NotStepped.TheVariants as S
use Rattle.machine.specs.Stepping.{Clearing, Stepping}
use Rattle.machine.specs.Calls.{cleared_number, stepped_number, needed_number, needed_words, Needing}

-- ---- the answer with a number

cleared_of : ℕ → Result ⊤ NotCleared
cleared_of n = cond (eqb n 0) (Ok tt) (Err (cond (eqb n 7) C.Short (C.Refused (reason_of n))))

stepped_of : ℕ → Result ⊤ NotStepped
stepped_of n = cond (eqb n 0) (Ok tt) (Err (cond (eqb n 7) S.Short (cond (eqb n 8) S.Late (S.Refused (reason_of n)))))

needed_of : ℕ → ℕ → Result ℕ Reason
needed_of n w = cond (eqb n 0) (Ok w) (Err (reason_of n))

cleared_back : (r : Result ⊤ NotCleared) → cleared_of (cleared_number r) ≡ r
unfolding cleared_of reason_of
cleared_back (Ok done) = refl
cleared_back (Err C.Short) = refl
cleared_back (Err (C.Refused why)) = by_number cleared_of (λ why. Err (C.Refused why)) refl refl refl refl refl refl why

stepped_back : (r : Result ⊤ NotStepped) → stepped_of (stepped_number r) ≡ r
unfolding stepped_of reason_of
stepped_back (Ok done) = refl
stepped_back (Err S.Short) = refl
stepped_back (Err S.Late) = refl
stepped_back (Err (S.Refused why)) = by_number stepped_of (λ why. Err (S.Refused why)) refl refl refl refl refl refl why

needed_back : (r : Result ℕ Reason) → needed_of (needed_number r) (needed_words r) ≡ r
unfolding needed_of reason_of
needed_back (Ok n) = refl
needed_back (Err why) = by_number (λ n. needed_of n 0) (λ why. Err why) refl refl refl refl refl refl why

-- ---- one result

pub one_clear : (b m : List ℕ) (r s : Result ⊤ NotCleared) (after other : List ℕ) → Clearing b m (cleared_number r) after → Clearing b m (cleared_number s) other → (r ≡ s) × (after ≡ other)
one_clear b m r s after other x y =
    (sym (cleared_back r) ∙ ap cleared_of (x.number_is ∙ sym y.number_is) ∙ cleared_back s, x.memory_is ∙ sym y.memory_is)

pub one_step : (b m c o : List ℕ) (r s : Result ⊤ NotStepped) (after other out shown : List ℕ) →
    Stepping b m c o (stepped_number r) after out → Stepping b m c o (stepped_number s) other shown → (r ≡ s) × (after ≡ other) × (out ≡ shown)
one_step b m c o r s after other out shown x y = (
  sym (stepped_back r) ∙ ap stepped_of (x.number_is ∙ sym y.number_is) ∙ stepped_back s,
  x.memory_is ∙ sym y.memory_is,
  x.output_is ∙ sym y.output_is,
)

-- as numbers, as C has them
pub one_needing : (b : List ℕ) (n n' w w' : ℕ) → Needing b n w → Needing b n' w' → (n ≡ n') × (w ≡ w')
one_needing b n n' w w' x y = (x.number_is ∙ sym y.number_is, x.words_is ∙ sym y.words_is)

pub one_need : (b : List ℕ) (r s : Result ℕ Reason) → Needing b (needed_number r) (needed_words r) → Needing b (needed_number s) (needed_words s) → r ≡ s
one_need b r s x y =
    let o = one_needing b (needed_number r) (needed_number s) (needed_words r) (needed_words s) x y in
    sym (needed_back r) ∙ ap₂ needed_of o.0 o.1 ∙ needed_back s
