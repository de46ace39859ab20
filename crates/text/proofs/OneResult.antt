-- The contracts of the text calls admit one result: a number and a length say the answer, and what is left is fixed. Assumes nothing.
use mathlib.Core.Path.{◌≡◌, refl, sym, ap₂, ◌∙◌}
use mathlib.Core.Bool.{cond}
use mathlib.Core.List.{List}
use Prim.Native.Nat.{ℕ}
use lib.Dec.{eqb}
use Rattle.std.specs.Prelude.{Result, Ok, Err}
use Rattle.records.specs.Answers.{reason_of}
use Rattle.records.proofs.NumberLaws.{by_number}
use Rattle.text.specs.declared.NoText.{NoText}
use Rattle.text.specs.declared.NoText.TheVariants as N
use Rattle.text.specs.Texting.{texted_number, texted_length, Texting}

-- the answer with a number and a length
texted_of : ℕ → ℕ → Result ℕ NoText
texted_of n len = cond (eqb n 0) (Ok len) (Err (cond (eqb n 7) (N.Short len) (N.Refused (reason_of n))))

texted_back : (r : Result ℕ NoText) → texted_of (texted_number r) (texted_length r) ≡ r
unfolding texted_of reason_of
texted_back (Ok n) = refl
texted_back (Err (N.Short n)) = refl
texted_back (Err (N.Refused why)) = by_number (λ n. texted_of n 0) (λ why. Err (N.Refused why)) refl refl refl refl refl refl why

-- of plan_text, loop_text and refused_text, each with its own fault and text
pub one_text : (fault : ℕ) (text o : List ℕ) (r s : Result ℕ NoText) (after other : List ℕ) →
    Texting fault text o (texted_number r) (texted_length r) after → Texting fault text o (texted_number s) (texted_length s) other → (r ≡ s) × (after ≡ other)
one_text fault text o r s after other x y = (
  sym (texted_back r) ∙ ap₂ texted_of (x.number_is ∙ sym y.number_is) (x.length_is ∙ sym y.length_is) ∙ texted_back s,
  x.out_is ∙ sym y.out_is,
)
