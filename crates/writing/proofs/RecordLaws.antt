-- Records of one length laid one behind the other: with one more behind the last, one more of them is laid. Assumes nothing.
use mathlib.Core.Path.{◌≡◌, refl, sym, ap, ◌∙◌}
use mathlib.Core.List.{List, ◌++◌, append_assoc, append-nil}
use Prim.Native.Nat.{ℕ, zero, suc, ◌+◌, ◌*◌, ◌≤◌}
use native.Mathlib.Numerals.{add-one}
use native.Mathlib.Omega.{arith}
use lib.ListN.{length, get_or}
use Rattle.words.specs.Loops.{tab}
use Rattle.words.proofs.LoopLaws.{length_tab}
use Rattle.records.specs.Records.{over}
use Rattle.plans.specs.Plan.{concat, loop_length, loop_wire_bytes, loop_bytes}
use Rattle.plans.proofs.ConcatLaws.{tab_is, length_concat}
use Rattle.writing.specs.Laid.{laid}
use Rattle.writing.proofs.LaidLaws.{laid_append, laid_over}

concat_more : {A : Type 0} (f : A → List ℕ) (n : ℕ) (g : ℕ → A) → concat f (tab (suc n) g) ≡ concat f (tab n g) ++ f (g n)
unfolding concat tab
concat_more f zero g = append-nil (f (g zero))
concat_more f (suc n) g =
    ap (λ (l : List ℕ). f (g zero) ++ l) (concat_more f n (λ i. g (suc i)))
    ∙ sym (append_assoc (f (g zero)) (concat f (tab n (λ i. g (suc i)))) (f (g (suc n))))

module _ {A : Type 0} (f : A → List ℕ) (k : ℕ) (len : (a : A) → length (f a) ≡ k) (g : ℕ → A) where
  pub length_records : (n : ℕ) → length (concat f (tab n g)) ≡ k * n
  length_records n = length_concat f k len (tab n g) ∙ ap (λ (m : ℕ). k * m) (length_tab n g)

  -- no record yet
  pub laid_none : (l : List ℕ) (at : ℕ) → l ≡ laid l at (concat f (tab 0 g))
  unfolding concat tab laid
  laid_none l at = refl

  -- one record more
  pub laid_more : (l : List ℕ) (at n : ℕ) (now after : List ℕ) (a : A) → now ≡ laid l at (concat f (tab n g)) → a ≡ g n →
      after ≡ laid now (at + k * n) (f a) → after ≡ laid l at (concat f (tab (n + 1) g))
  laid_more l at n now after a was is lays =
      lays
      ∙ rw (was, is) (sym (
      ap (λ (m : ℕ). laid l at (concat f (tab m g))) (add-one n)
      ∙ ap (laid l at) (concat_more f n g)
      ∙ laid_append l at (concat f (tab n g)) (f (g n))
      ∙ ap (λ (m : ℕ). laid (laid l at (concat f (tab n g))) (at + m) (f (g n))) (length_records n)))

-- a loop's wires at the head of the buffer
pub loop_laid : (wires l now : List ℕ) (n : ℕ) → n ≡ length wires → loop_length * length wires ≤ length l →
    now ≡ laid l 0 (concat loop_wire_bytes (tab n (λ i. get_or wires i 0))) → now ≡ over (loop_bytes wires) l
unfolding loop_bytes
loop_laid wires l now n is room lays =
    lays
    ∙ ap (λ (m : ℕ). laid l 0 (concat loop_wire_bytes (tab m (λ i. get_or wires i 0)))) is
    ∙ ap (λ (es : List ℕ). laid l 0 (concat loop_wire_bytes es)) (tab_is wires (λ i. get_or wires i 0) 0 (λ i h. refl))
    ∙ laid_over l (concat loop_wire_bytes wires) (omega (arith, length_concat loop_wire_bytes 3 (λ e. refl) wires))
