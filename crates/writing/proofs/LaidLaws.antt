-- Laws of bytes laid over a lent slice: one run after the other is one run, and at the head it is the bytes and the kept rest.
-- Assumes nothing.
use mathlib.Core.Path.{◌≡◌, refl, sym, ap, ◌∙◌}
use mathlib.Core.List.{List, [], ◌∷◌, ◌++◌, append_assoc}
use Prim.Native.Nat.{ℕ, suc, ◌+◌, ◌-◌, ◌≤◌}
use native.Mathlib.Nat.{add-zero}
use native.Mathlib.Numerals.{add-one}
use native.Mathlib.Omega.{arith}
use lib.ListN.{length, set, take, drop, length-set}
use borrow.Rule.Slice.PartMut.{put_mid}
use lib.Seq.{sets, sets-eq, drop-drop}
use Rattle.records.specs.Records.{over}
use Rattle.writing.specs.Laid.{laid}

pub length_laid : (l : List ℕ) (at : ℕ) (bs : List ℕ) → length (laid l at bs) ≡ length l
unfolding laid
length_laid l at [] = refl
length_laid l at (b ∷ bs) = length_laid (set l at b) (at + 1) bs ∙ length-set l at b

pub laid_append : (l : List ℕ) (at : ℕ) (xs ys : List ℕ) → laid l at (xs ++ ys) ≡ laid (laid l at xs) (at + length xs) ys
unfolding laid
laid_append l at [] ys = rw (add-zero at)
laid_append l at (x ∷ xs) ys =
    laid_append (set l at x) (at + 1) xs ys ∙ ap (λ (n : ℕ). laid (laid (set l at x) (at + 1) xs) n ys) (let e : at + 1 + length xs ≡ at + suc (length xs) = omega arith in e)

laid_sets : (l : List ℕ) (at : ℕ) (bs : List ℕ) → laid l at bs ≡ sets l at bs
unfolding laid
laid_sets l at [] = refl
laid_sets l at (b ∷ bs) = laid_sets (set l at b) (at + 1) bs ∙ ap (λ (n : ℕ). sets (set l at b) n bs) (add-one at)

-- in the part that is lent from `at` on
pub laid_part : (l bs part : List ℕ) (at : ℕ) → at + length bs ≤ length l → part ≡ bs → put_mid at (at + length bs - at) l part ≡ laid l at bs
laid_part l bs part at h e =
    let many : at + length bs - at ≡ length bs = omega arith in
    rw (many, e, drop-drop (length bs) at l) (sym (laid_sets l at bs ∙ sets-eq bs l at h ∙ append_assoc (take at l) bs (drop (at + length bs) l)))

-- at the head
pub laid_over : (l bs : List ℕ) → length bs ≤ length l → laid l 0 bs ≡ over bs l
laid_over l bs h = laid_sets l 0 bs ∙ sets-eq bs l 0 (omega arith) ∙ ap (λ (n : ℕ). bs ++ drop n l) (let e : 0 + length bs ≡ length bs = omega arith in e)
