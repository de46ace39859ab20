-- What a loop over 0, 1, .., n − 1 gives: lists, tests, sums, the largest, the first that fits, the first fault.
-- Each grows at its far end, as a loop does: with `suc n` it is what it was with n, and one turn more. Assumes nothing.
use Rattle.std.specs.Prelude.{ℕ, zero, suc, ◌+◌, max, Bool, true, false, cond, ◌&&◌, ◌||◌, List, [], ◌∷◌, ◌++◌}
use Rattle.std.proofs.Math.Option.{Option, some, none}

-- f 0 ∷ f 1 ∷ .. ∷ f (n − 1) ∷ []
unfoldable pub tab {ℓ} : {A : Type ℓ} → ℕ → (ℕ → A) → List A
tab zero f = []
tab (suc n) f = f zero ∷ tab n (λ i. f (suc i))

-- f 0, f 1, .., f (n − 1) one after the other
unfoldable pub joined : ℕ → (ℕ → List ℕ) → List ℕ
joined zero f = []
joined (suc n) f = joined n f ++ f n

-- every i below n passes
unfoldable pub every : ℕ → (ℕ → Bool) → Bool
every zero p = true
every (suc n) p = every n p && p n

-- some i below n passes
unfoldable pub some_of : ℕ → (ℕ → Bool) → Bool
some_of zero p = false
some_of (suc n) p = some_of n p || p n

-- f 0 + .. + f (n − 1)
unfoldable pub total : ℕ → (ℕ → ℕ) → ℕ
total zero f = 0
total (suc n) f = total n f + f n

-- the largest of f 0, .., f (n − 1), and 0 where n is 0
unfoldable pub largest : ℕ → (ℕ → ℕ) → ℕ
largest zero f = 0
largest (suc n) f = max (largest n f) (f n)

-- how many i below n pass
unfoldable pub count : ℕ → (ℕ → Bool) → ℕ
count n p = total n (λ i. cond (p i) 1 0)

abbrev pub or_else : Option ℕ → Option ℕ → Option ℕ
or_else none b = b
or_else (some a) b = some a

-- the lowest i below n that passes
unfoldable pub lowest : ℕ → (ℕ → Bool) → Option ℕ
lowest zero p = none
lowest (suc n) p = or_else (lowest n p) (cond (p n) (some n) none)

-- Faults are the paper's refusal numbers; 0 is none. `a then b` is the first fault of the two
infixl 20 ◌then◌
abbrev pub ◌then◌ : ℕ → ℕ → ℕ
zero then b = b
suc a then b = suc a

-- the fault n unless the test passes
abbrev pub unless : Bool → ℕ → ℕ
unless true n = 0
unless false n = n

-- the first fault of f 0, f 1, .., f (n − 1)
unfoldable pub first : ℕ → (ℕ → ℕ) → ℕ
first zero f = 0
first (suc n) f = first n f then f n
