-- Two-byte fields and marks, written and read back. Assumes nothing.
use mathlib.Core.Path.{◌≡◌, sym, ap, ◌∙◌}
use mathlib.Core.Bool.{true}
use mathlib.Core.List.{List}
use Prim.Native.Nat.{ℕ, ◌+◌, ◌*◌, ◌/◌, ◌<◌}
use native.Mathlib.Nat.{mod-lt, mod-eq_of_lt, div-add-mod', div-lt_iff_lt-mul, add-zero}
use native.Mathlib.Omega.{arith}
use lib.Dec.{eqb}
use borrow.Author.Tests.{eq-eqb}
use Rattle.words.proofs.LoopLaws.{and_join}
use Rattle.records.specs.Records.{at, low, high, marked}

pub low_below : (n : ℕ) → low n < 256
low_below n = mod-lt n (let h : 0 < 256 = omega arith in h)

pub high_below : (n : ℕ) → high n < 256
high_below n = mod-lt (n / 256) (let h : 0 < 256 = omega arith in h)

pub low_high : (n : ℕ) → n < 65536 → low n + 256 * high n ≡ n
low_high n h =
    let d : n / 256 < 256 = (div-lt_iff_lt-mul (let z : 0 < 256 = omega arith in z)).1 h in
    omega (arith, div-add-mod' n 256, mod-eq_of_lt d)

-- a number below 2^16 is read back from its two bytes
pub two_back : (n a b : ℕ) → n < 65536 → a ≡ low n → b ≡ high n → a + 256 * b ≡ n
two_back n a b h ea eb = omega (arith, low_high n h)

pub marked_ok : (l : List ℕ) (o : ℕ) (m : List ℕ) → at l (o + 0) ≡ at m 0 → at l (o + 1) ≡ at m 1 → marked l o m ≡ true
marked_ok l o m a c =
    and_join (eqb (at l o) (at m 0)) (eqb (at l (o + 1)) (at m 1)) (eq-eqb (at l o) (at m 0) (sym (ap (at l) (add-zero o)) ∙ a)) (eq-eqb (at l (o + 1)) (at m 1) c)
