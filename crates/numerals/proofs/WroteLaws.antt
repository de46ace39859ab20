-- Laws of what writers laid: one after the other is one, and a bound may grow. Assumes nothing.
use mathlib.Core.Path.{◌≡◌, refl, sym, ap, ap₂, ◌∙◌}
use mathlib.Core.List.{List, [], ◌++◌}
use Prim.Native.Nat.{ℕ, ◌+◌, ◌≤◌}
use native.Mathlib.Omega.{arith}
use lib.ListN.{length, length-append}
use Rattle.writing.specs.Laid.{laid}
use Rattle.writing.proofs.LaidLaws.{length_laid, laid_append}
use Rattle.numerals.specs.Wrote.{Wrote}

pub wrote_nothing : (l : List ℕ) (at : ℕ) → Wrote 0 l at [] l at
unfolding laid
wrote_nothing l at = record { laid_so = refl; next_is = omega arith; few = omega arith }

pub wrote_then : {m n at next last : ℕ} {before xs mid ys after : List ℕ} → Wrote m before at xs mid next → Wrote n mid next ys after last → Wrote (m + n) before at (xs ++ ys) after last
wrote_then {at = at} {before = before} {xs = xs} {ys = ys} x y = record {
  laid_so = y.laid_so ∙ ap₂ (λ (l : List ℕ) (i : ℕ). laid l i ys) x.laid_so x.next_is ∙ sym (laid_append before at xs ys);
  next_is = simp length-append (omega arith);
  few = simp length-append (omega arith);
}

pub within : {m at next : ℕ} {before bs after : List ℕ} (n : ℕ) → m ≤ n → Wrote m before at bs after next → Wrote n before at bs after next
within n h x = record { laid_so = x.laid_so; next_is = x.next_is; few = omega arith }

-- a writer keeps the buffer's length
pub wrote_length : {m at next : ℕ} {before bs after : List ℕ} → Wrote m before at bs after next → length after ≡ length before
wrote_length {at = at} {before = before} {bs = bs} x = ap length x.laid_so ∙ length_laid before at bs
