-- Laws of counts and totals over 0, 1, .., n − 1. Assumes nothing.
use Rattle.std.proofs.Common.{◌≡◌, ℕ, zero, suc, ◌+◌, ◌<◌, ◌≤◌, Bool, true, false, cond, ◌||◌, sym, refl, ◌∙◌, subst, inl, inr, true≢false, eq-or-lt_of_le, arith}
use Rattle.words.specs.Loops.{some_of, total, count}
use Rattle.words.proofs.LoopLaws.{passed?, total_cong}
use Rattle.words.proofs.FaultLaws.{none_of}

pub total_sum : (n : ℕ) (f g : ℕ → ℕ) → total n (λ i. f i + g i) ≡ total n f + total n g
unfolding total
total_sum zero f g = refl
total_sum (suc n) f g = omega (arith, total_sum n f g)

pub count_none : (n : ℕ) (p : ℕ → Bool) → ((i : ℕ) → i < n → p i ≡ false) → count n p ≡ 0
unfolding count total
count_none zero p h = refl
count_none (suc n) p h = rw (h n (omega arith)) (omega (arith, count_none n p (λ i l. h i (omega arith))))

-- at most all of them pass
pub count_most : (n : ℕ) (p : ℕ → Bool) → count n p ≤ n
unfolding count total
count_most zero p = omega arith
count_most (suc n) p = elim (passed? (p n)) [ inl t ↦ rw t (omega (arith, count_most n p)) | inr f ↦ rw f (omega (arith, count_most n p)) ]

-- one i alone passes
pub count_one : (n : ℕ) (p : ℕ → Bool) (i : ℕ) → i < n → p i ≡ true → ((j : ℕ) → j < n → p j ≡ true → j ≡ i) → count n p ≡ 1
unfolding count total
count_one zero p i h t only = absurd (omega arith)
count_one (suc n) p i h t only = elim (eq-or-lt_of_le h) [
  | inl e ↦
      let e' : i ≡ n = omega arith in
      let others : (j : ℕ) → j < n → p j ≡ false = λ j k. elim (passed? (p j)) [ inl y ↦ absurd (let z = only j (omega arith) y in omega arith) | inr f ↦ f ] in
      let last : p n ≡ true = subst (λ (z : ℕ). p z ≡ true) e' t in
      rw last (omega (arith, count_none n p others))
  | inr k ↦
      let last : p n ≡ false = elim (passed? (p n)) [ inl y ↦ absurd (let z = only n (omega arith) y in omega arith) | inr f ↦ f ] in
      rw last (omega (arith, count_one n p i (omega arith) t (λ j l y. only j (omega arith) y)))
]

-- where some i passes, one is found
pub some_found : (n : ℕ) (p : ℕ → Bool) → some_of n p ≡ true → (i : ℕ) × (i < n) × (p i ≡ true)
unfolding some_of
some_found zero p h = absurd (true≢false (sym h))
some_found (suc n) p h = elim (passed? (p n)) [
  | inl t ↦ (n, omega arith, t)
  | inr f ↦ let r = some_found n p (or_left (some_of n p) (p n) h f) in (r.0, omega (arith, r.1), r.2)
]
  where
    or_left : (a b : Bool) → (a || b) ≡ true → b ≡ false → a ≡ true
    or_left true b h k = refl
    or_left false b h k = absurd (true≢false (sym h ∙ k))

-- what passes one test or the other, and never both
pub count_split : (n : ℕ) (p q r : ℕ → Bool) → ((i : ℕ) → i < n → cond {A = ℕ} (r i) 1 0 ≡ cond (p i) 1 0 + cond (q i) 1 0) → count n r ≡ count n p + count n q
unfolding count
count_split n p q r h =
    total_cong n (λ i. cond (r i) 1 0) (λ i. cond (p i) 1 0 + cond (q i) 1 0) h ∙ total_sum n (λ i. cond (p i) 1 0) (λ i. cond (q i) 1 0)

-- where no i from m on passes, the first m decide
pub count_short : (n m : ℕ) (p : ℕ → Bool) → m ≤ n → ((i : ℕ) → m ≤ i → p i ≡ false) → count n p ≡ count m p
unfolding count total
count_short zero m p l h = let e : m ≡ 0 = omega arith in rw e refl
count_short (suc n) m p l h = elim (eq-or-lt_of_le l) [
  | inl e ↦ rw e refl
  | inr k ↦ rw (count_short n m p (omega arith) h, h n (omega arith)) (omega arith)
]

-- ---- what a count of one says

pub count_some : (n : ℕ) (p : ℕ → Bool) (i : ℕ) → i < n → p i ≡ true → 1 ≤ count n p
unfolding count total
count_some zero p i l t = absurd (omega arith)
count_some (suc n) p i l t = elim (eq-or-lt_of_le l) [
  | inl e ↦ let e' : n ≡ i = omega arith in rw (e', t) (omega arith)
  | inr k ↦ let c = count_some n p i (omega arith) t in omega arith
]

pub count_two : (n : ℕ) (p : ℕ → Bool) (i j : ℕ) → i < j → j < n → p i ≡ true → p j ≡ true → 2 ≤ count n p
unfolding count total
count_two zero p i j h l t u = absurd (omega arith)
count_two (suc n) p i j h l t u = elim (eq-or-lt_of_le l) [
  | inl e ↦
      let e' : n ≡ j = omega arith in
      let c = count_some n p i (omega arith) t in
      let last : cond {A = ℕ} (p n) 1 0 ≡ 1 = rw (e', u) refl in
      omega arith
  | inr k ↦ let c = count_two n p i j h (omega arith) t u in omega arith
]

-- where one passes, some does
pub count_found : (n : ℕ) (p : ℕ → Bool) → count n p ≡ 1 → some_of n p ≡ true
count_found n p h = elim (passed? (some_of n p)) [
  | inl t ↦ t
  | inr f ↦ let z = count_none n p (none_of n p f) in absurd (omega arith)
]
