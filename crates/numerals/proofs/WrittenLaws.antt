-- Laws of what writers did to a text: one after the other is one, and a bound may grow. Assumes nothing.
use mathlib.Core.Path.{◌≡◌, refl, ◌∙◌}
use mathlib.Core.List.{List, [], ◌∷◌, ◌++◌}
use Prim.Native.Nat.{ℕ, ◌+◌, ◌<◌, ◌≤◌}
use lib.ListN.{length, get_or, take}
use lib.Seq.{take-suc, take-length}
use native.Mathlib.Numerals.{add-one}
use native.Mathlib.Omega.{arith}
use Rattle.numerals.specs.declared.Text.{Text}
use Rattle.numerals.specs.Wrote.{Wrote}
use Rattle.numerals.specs.Written.{Written}
use Rattle.numerals.proofs.WroteLaws.{wrote_nothing, wrote_then, within}

pub written_nothing : (t : Text) → Written 0 t [] t
written_nothing t = record { wrote = wrote_nothing t.out.now t.to; same = refl }

pub written_within : {m : ℕ} {before after : Text} {bs : List ℕ} (n : ℕ) → m ≤ n → Written m before bs after → Written n before bs after
written_within n h x = record { wrote = within n h x.wrote; same = x.same }

pub written_then : {m n : ℕ} {before mid after : Text} {xs ys : List ℕ} → Written m before xs mid → Written n mid ys after → Written (m + n) before (xs ++ ys) after
written_then x y = record { wrote = wrote_then x.wrote y.wrote; same = y.same ∙ x.same }

-- one byte more of a word, and all of it
pub written_more : (w : List ℕ) {i : ℕ} {before mid after : Text} → i < length w → Written i before (take i w) mid → Written 1 mid (get_or w i 0 ∷ []) after → Written (i + 1) before (take (i + 1) w) after
written_more w {i} h x y = rw (add-one i, take-suc w i 0 h, ← add-one i) (written_then x y)

-- what was written into a text from the beginning of a buffer on
pub written_out : {m : ℕ} {before after : Text} {bs out left : List ℕ} → (before.out.now ≡ out) × (before.to ≡ 0) → left ≡ after.out.now → Written m before bs after → Wrote m out 0 bs left after.to
written_out b e w = rw (← b.0, ← b.1, e) w.wrote
