-- A part of the memory that moves by one, put back where it was lent. Assumes nothing.
use mathlib.Core.Path.{◌≡◌, refl, ap, ◌∙◌}
use mathlib.Core.List.{List, ◌∷◌}
use Prim.Native.Nat.{ℕ, zero, suc, ◌+◌, ◌-◌, ◌≤◌}
use native.Mathlib.Omega.{arith}
use lib.ListN.{length, take, drop, length-drop}
use lib.Seq.{length-take-le, take-take, drop-drop}
use borrow.Rule.Slice.PartMut.{mid_of, put_mid}
use Rattle.moving.specs.Moving.{shifted}

-- a line keeps its first places only, so that the word it loses need not be looked at
take_short : (n x : ℕ) (l : List ℕ) → take n (x ∷ take n l) ≡ take n (x ∷ l)
take_short zero x l = refl
take_short (suc n) x l = ap (λ (t : List ℕ). x ∷ t) (take-take n (suc n) l (omega arith))

-- a part that moves by one, put back
pub shifted_part : (m ys : List ℕ) (from n x : ℕ) → from + n ≤ length m →
    let part = mid_of from (from + n - from) m in ys ≡ take (length part) (x ∷ part) → put_mid from (from + n - from) m ys ≡ shifted m from n x
shifted_part m ys from n x fits is =
    let many : from + n - from ≡ n = omega arith in
    let long : length (take n (drop from m)) ≡ n = length-take-le n (drop from m) (simp length-drop (omega arith)) in
    let moved : ys ≡ take n (x ∷ drop from m) = is ∙ rw (many, long) (take_short n x (drop from m)) in
    rw (many, moved, drop-drop n from m) refl
