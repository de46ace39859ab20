-- Where at most one of n records is of a kind, the last of the kind is the lowest. Assumes nothing.
use mathlib.Core.Path.{◌≡◌, refl, sym, ap, ◌∙◌}
use mathlib.Core.Logic.{inl, inr}
use mathlib.Core.Bool.{Bool, true, false, true≢false}
use mathlib.Core.Option.{Option, some, none}
use Prim.Native.Nat.{ℕ, zero, suc, ◌<◌}
use native.Mathlib.Nat.{eq-or-lt_of_le}
use native.Mathlib.Omega.{arith}
use lib.Dec.{ltb}
use borrow.Author.Tests.{ltb-true, ltb-false}
use Rattle.words.specs.Loops.{count, lowest, some_of}
use Rattle.words.proofs.LoopLaws.{passed?, lowest_none, lowest_hit}
use Rattle.words.proofs.FaultLaws.{none_of}
use Rattle.words.proofs.CountLaws.{some_found, count_two}
use Rattle.inputs.specs.Inputs.{last_of}

pub last_cong : (n : ℕ) (p q : ℕ → Bool) (f : ℕ → ℕ) → ((i : ℕ) → i < n → p i ≡ q i) → last_of n p f ≡ last_of n q f
unfolding last_of
last_cong zero p q f h = refl
last_cong (suc n) p q f h = rw (last_cong n p q f (λ i l. h i (omega arith)), h n (omega arith)) refl

last_none : (n : ℕ) (p : ℕ → Bool) (f : ℕ → ℕ) → ((i : ℕ) → i < n → p i ≡ false) → last_of n p f ≡ 0
unfolding last_of
last_none zero p f h = refl
last_none (suc n) p f h = rw (h n (omega arith)) (last_none n p f (λ i l. h i (omega arith)))

-- at most one i below n passes
abbrev pub Only : ℕ → (ℕ → Bool) → Type 0
Only n p = (i j : ℕ) → i < n → j < n → p i ≡ true → p j ≡ true → i ≡ j

last_hit : (n : ℕ) (p : ℕ → Bool) (f : ℕ → ℕ) (i : ℕ) → i < n → p i ≡ true → Only n p → last_of n p f ≡ f i
unfolding last_of
last_hit zero p f i h t only = absurd (omega arith)
last_hit (suc n) p f i h t only = elim (passed? (p n)) [
  | inl y ↦ rw y (ap f (only n i (omega arith) h y t))
  | inr never ↦ elim (eq-or-lt_of_le h) [
    | inl e ↦ absurd (true≢false (sym t ∙ ap p (let e' : i ≡ n = omega arith in e') ∙ never))
    | inr k ↦ rw never (last_hit n p f i (omega arith) t (λ a b ha hb. only a b (omega arith) (omega arith)))
  ]
]

-- one alone counts
pub one_only : (n : ℕ) (p : ℕ → Bool) → count n p ≡ 1 → Only n p
one_only n p h i j hi hj ti tj = elim (passed? (ltb i j)) [
  | inl t ↦ let two = count_two n p i j (ltb-true i j t) hj ti tj in absurd (omega arith)
  | inr f ↦ elim (passed? (ltb j i)) [
    | inl t ↦ let two = count_two n p j i (ltb-true j i t) hi tj ti in absurd (omega arith)
    | inr g ↦ let a = ltb-false i j f in let b = ltb-false j i g in omega arith
  ]
]

-- the last is the lowest: g says what is made of the lowest, and of none
pub last_lowest : (n : ℕ) (p : ℕ → Bool) (f : ℕ → ℕ) (g : Option ℕ → ℕ) → Only n p → g none ≡ 0 → ((i : ℕ) → i < n → p i ≡ true → f i ≡ g (some i)) →
    last_of n p f ≡ g (lowest n p)
last_lowest n p f g only nothing same = elim (passed? (some_of n p)) [
  | inl t ↦
      let found = some_found n p t in
      let i = found.0 in
      last_hit n p f i found.1 found.2 only ∙ same i found.1 found.2
      ∙ ap g (sym (lowest_hit n p i found.1 found.2 (λ j hj tj. only j i hj found.1 tj found.2)))
  | inr never ↦ last_none n p f (none_of n p never) ∙ sym nothing ∙ ap g (sym (lowest_none n p (none_of n p never)))
]
