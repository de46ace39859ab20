-- Laws of decimal digits: a number below 10 is one digit, a larger one has those of its tenth and then its last, and a number of 32 bits has
-- at most ten. Assumes nothing.
use mathlib.Core.Path.{◌≡◌, refl, sym, ap, ◌∙◌}
use mathlib.Core.Logic.{◌⊎◌, inl, inr}
use mathlib.Core.List.{List, ◌++◌}
use Prim.Native.Nat.{ℕ, zero, suc, ◌+◌, ◌/◌, ◌%◌, ◌^◌, ◌<◌, ◌≤◌}
use native.Mathlib.Omega.{arith}
use lib.Dec.{ltb}
use lib.ListN.{length, length-append}
use native.Mathlib.Nat.{pow-succ'}
use borrow.Author.Tests.{ltb-true, ltb-false, lt-ltb, le-ltb}
use Rattle.words.proofs.LoopLaws.{passed?}
use Rattle.numerals.specs.Numerals.{digit, digits, decimal}

below : (k n : ℕ) → n < 10 → digits (suc k) n ≡ digit n
unfolding digits
below k n h = rw (lt-ltb n 10 h) refl

above : (k n : ℕ) → 10 ≤ n → digits (suc k) n ≡ digits k (n / 10) ++ digit (n % 10)
unfolding digits
above k n h = rw (le-ltb n 10 h) refl

small? : (n : ℕ) → (n < 10) ⊎ (10 ≤ n)
small? n = elim (passed? (ltb n 10)) [ inl y ↦ inl (ltb-true n 10 y) | inr f ↦ inr (ltb-false n 10 f) ]

-- digits that suffice are all
enough : (k j n : ℕ) → n < k → n < j → digits k n ≡ digits j n
enough zero j n h i = absurd (omega arith)
enough (suc k) zero n h i = absurd (omega arith)
enough (suc k) (suc j) n h i = elim (small? n) [
  | inl s ↦ below k n s ∙ sym (below j n s)
  | inr s ↦ above k n s ∙ ap (λ (l : List ℕ). l ++ digit (n % 10)) (enough k j (n / 10) (omega arith) (omega arith)) ∙ sym (above j n s)
]

pub decimal_one : (n : ℕ) → n < 10 → decimal n ≡ digit n
unfolding decimal
decimal_one n h = below n n h

pub decimal_more : (n : ℕ) → 10 ≤ n → decimal n ≡ decimal (n / 10) ++ digit (n % 10)
unfolding decimal
decimal_more n h = above n n h ∙ ap (λ (l : List ℕ). l ++ digit (n % 10)) (enough n (suc (n / 10)) (n / 10) (omega arith) (omega arith))

module _ (k n : ℕ) where
  more : (j : ℕ) → 10 ≤ n → n < 10 ^ suc j → ((i : ℕ) → n / 10 < 10 ^ suc i → length (digits k (n / 10)) ≤ suc i) → length (digits (suc k) n) ≤ suc j
  more zero s h rest = absurd (omega arith)
  more (suc j) s h rest = rw (above k n s) (simp length-append (omega (arith, rest j (omega (arith, pow-succ' 10 (suc j))))))

few : (k n j : ℕ) → n < 10 ^ suc j → length (digits k n) ≤ suc j
unfolding digits
few zero n j h = omega arith
few (suc k) n j h = elim (small? n) [ inl s ↦ rw (below k n s) (omega arith) | inr s ↦ more k n j s h (few k (n / 10)) ]

pub decimal_short : (n : ℕ) → n < 2 ^ 32 → length (decimal n) ≤ 10
unfolding decimal
decimal_short n h = few (suc n) n 9 (omega arith)

-- room for the last digit
pub decimal_tenth : (n : ℕ) → 10 ≤ n → n < 2 ^ 32 → length (decimal (n / 10)) + 1 ≤ 10
decimal_tenth n h s = omega (arith, decimal_short n s, ap length (decimal_more n h) ∙ length-append (decimal (n / 10)) (digit (n % 10)))
