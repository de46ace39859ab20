-- A number is written digit by digit, and one below 0 behind its sign. Assumes nothing.
use mathlib.Core.Path.{◌≡◌}
use mathlib.Core.List.{[], ◌∷◌}
use Prim.Native.Nat.{ℕ, suc, ◌+◌, ◌-◌, ◌/◌, ◌%◌, ◌^◌, ◌<◌, ◌≤◌}
use native.Mathlib.Omega.{arith}
use borrow.Author.Tests.{lt-ltb, le-ltb}
use Rattle.words.specs.Words.{signed}
use Rattle.numerals.specs.Numerals.{decimal, signed_decimal}
use Rattle.numerals.specs.declared.Text.{Text}
use Rattle.numerals.specs.Written.{Written}
use Rattle.numerals.proofs.DigitLaws.{decimal_one, decimal_more, decimal_short}
use Rattle.numerals.proofs.WrittenLaws.{written_then, written_within}

module _ {before after : Text} where
  pub number_one : (n : ℕ) → n < 10 → Written 1 before ((48 + n) ∷ []) after → Written 10 before (decimal n) after
  number_one n h x = rw (decimal_one n h) (written_within 10 (omega arith) x)

  pub signed_up : (w : ℕ) → w < 32768 → Written 10 before (decimal w) after → Written 11 before (signed_decimal (signed 32768 w)) after
  unfolding signed
  signed_up w h x = rw (lt-ltb w 32768 h) (written_within 11 (omega arith) x)

module _ {before mid after : Text} where
  pub number_more : (n : ℕ) → 10 ≤ n → n < 2 ^ 32 → Written 10 before (decimal (n / 10)) mid → Written 1 mid ((48 + n % 10) ∷ []) after → Written 10 before (decimal n) after
  number_more n h s x y =
      let z = written_then x y in
      let few = rw (decimal_more n h) at (decimal_short n s) in
      rw (decimal_more n h) (record { wrote = record { laid_so = z.wrote.laid_so; next_is = z.wrote.next_is; few = few }; same = z.same })

  pub signed_down : (w : ℕ) → 32768 ≤ w → w < 65536 → Written 1 before (45 ∷ []) mid → Written 10 mid (decimal (65536 - w)) after → Written 11 before (signed_decimal (signed 32768 w)) after
  unfolding signed
  signed_down w h s x y =
      let e : suc (65536 - suc w) ≡ 65536 - w = omega arith in
      rw (le-ltb w 32768 h, e) (written_then x y)
