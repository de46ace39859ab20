-- Laws of faults: which tests a reading without fault has passed, and the other way round. Assumes nothing.
use Rattle.std.proofs.Common.{◌≡◌, ℕ, zero, suc, ◌+◌, ◌<◌, ◌≤◌, Bool, true, false, not, ◌||◌, ◌⊎◌, sym, refl, inl, inr, true≢false, eq-or-lt_of_le, add-one, arith}
use Rattle.words.specs.Loops.{some_of, first, unless, ◌then◌}

pub then_split : (a b : ℕ) → (a then b) ≡ 0 → (a ≡ 0) × (b ≡ 0)
then_split zero b h = (refl, h)
then_split (suc a) b h = absurd (omega arith)

pub then_join : (a b : ℕ) → a ≡ 0 → b ≡ 0 → (a then b) ≡ 0
then_join a b p q = rw (p, q) refl

pub then_assoc : (a b c : ℕ) → (a then b then c) ≡ (a then (b then c))
then_assoc zero b c = refl
then_assoc (suc a) b c = refl

-- the first fault of two is one of them
pub then_one : (a b : ℕ) → ((a then b) ≡ a) ⊎ ((a then b) ≡ b)
then_one zero b = inr refl
then_one (suc a) b = inl refl

pub unless_true : (t : Bool) (n : ℕ) → unless t (suc n) ≡ 0 → t ≡ true
unless_true true n h = refl
unless_true false n h = absurd (omega arith)

pub unless_ok : (t : Bool) (n : ℕ) → t ≡ true → unless t n ≡ 0
unless_ok t n h = rw h refl

pub first_at : (n : ℕ) (f : ℕ → ℕ) → first n f ≡ 0 → (i : ℕ) → i < n → f i ≡ 0
unfolding first
first_at zero f h i l = absurd (omega arith)
first_at (suc n) f h i l =
    let t = then_split (first n f) (f n) h in
    elim (eq-or-lt_of_le l) [ inl e ↦ let e' : i ≡ n = omega arith in rw e' t.1 | inr k ↦ first_at n f t.0 i (omega arith) ]

-- no fault at any place
pub first_none : (n : ℕ) (f : ℕ → ℕ) → ((i : ℕ) → i < n → f i ≡ 0) → first n f ≡ 0
unfolding first
first_none zero f h = refl
first_none (suc n) f h = rw (first_none n f (λ i l. h i (omega arith)), h n (omega arith)) refl

-- a loop that goes on while there is no fault
pub first_more : (i : ℕ) (f : ℕ → ℕ) → first i f ≡ 0 → f i ≡ 0 → first (i + 1) f ≡ 0
unfolding first
first_more i f h k = rw (add-one, h) k

-- and stops at one
pub first_hit : (n i : ℕ) (f : ℕ → ℕ) → i < n → first i f ≡ 0 → 0 < f i → first n f ≡ f i
unfolding first
first_hit zero i f l h k = absurd (omega arith)
first_hit (suc n) i f l h k = elim (eq-or-lt_of_le l) [
  | inl e ↦ let e' : n ≡ i = omega arith in rw (e', h)
  | inr m ↦ rw (first_hit n i f (omega arith) h k) (then_first (f i) (f n) k)
]
  where
    then_first : (a b : ℕ) → 0 < a → (a then b) ≡ a
    then_first zero b h = absurd (omega arith)
    then_first (suc a) b h = refl

pub first_cong : (n : ℕ) (f g : ℕ → ℕ) → ((i : ℕ) → i < n → f i ≡ g i) → first n f ≡ first n g
unfolding first
first_cong zero f g h = refl
first_cong (suc n) f g h = rw (first_cong n f g (λ i l. h i (omega arith)), h n (omega arith)) refl

-- ---- faults no greater than a number

pub then_le : (a b m : ℕ) → a ≤ m → b ≤ m → (a then b) ≤ m
then_le zero b m h k = k
then_le (suc a) b m h k = h

pub unless_le : (t : Bool) (n m : ℕ) → n ≤ m → unless t n ≤ m
unless_le true n m h = omega arith
unless_le false n m h = h

pub first_le : (n : ℕ) (f : ℕ → ℕ) (m : ℕ) → ((i : ℕ) → i < n → f i ≤ m) → first n f ≤ m
unfolding first
first_le zero f m h = omega arith
first_le (suc n) f m h = then_le (first n f) (f n) m (first_le n f m (λ i l. h i (omega arith))) (h n (omega arith))

-- ---- tests that fail

pub or_split : (a b : Bool) → (a || b) ≡ false → (a ≡ false) × (b ≡ false)
or_split true b h = absurd (true≢false h)
or_split false b h = (refl, h)

pub none_of : (n : ℕ) (p : ℕ → Bool) → some_of n p ≡ false → (i : ℕ) → i < n → p i ≡ false
unfolding some_of
none_of zero p h i l = absurd (omega arith)
none_of (suc n) p h i l =
    let t = or_split (some_of n p) (p n) h in
    elim (eq-or-lt_of_le l) [ inl e ↦ let e' : i ≡ n = omega arith in rw e' t.1 | inr k ↦ none_of n p t.0 i (omega arith) ]

pub not_true : (t : Bool) → not t ≡ true → t ≡ false
not_true true h = sym h
not_true false h = refl
