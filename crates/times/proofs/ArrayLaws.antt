-- Arrays of cycles and of iterations, by the number of an element: one that is filled, and one of zeros. Assumes nothing.
use mathlib.Core.Path.{◌≡◌, ap, ◌∙◌}
use mathlib.Core.List.{List}
use Prim.Native.Nat.{ℕ, zero, suc, ◌+◌, ◌<◌}
use native.Mathlib.Decide.{ℕ_discrete}
use native.Mathlib.Omega.{arith}
use lib.ListN.{length, get_or, set, replicate}
use lib.Seq.{get_or-set_same, get_or-set_other}
use lib.IntN.{ℤ, pos}

module _ {A : Type 0} (num : A → ℤ) (d : A) where
  -- filled up to n, and one element more
  pub filled_more : (f : ℕ → ℤ) (n : ℕ) (l : List A) (v : A) → n < length l → ((k : ℕ) → k < n → num (get_or l k d) ≡ f k) → num v ≡ f n →
      (k : ℕ) → k < n + 1 → num (get_or (set l n v) k d) ≡ f k
  filled_more f n l v fits before is k h = elim (ℕ_discrete k n) [
    | yes same ↦ rw same (ap num (get_or-set_same l n v d fits) ∙ is)
    | no other ↦ ap num (get_or-set_other l n k v d other) ∙ before k (omega arith)
  ]

  -- one element of 0 throughout
  pub none_filled : num d ≡ pos 0 → (z : A) → num z ≡ pos 0 → (n k : ℕ) → num (get_or (replicate n z) k d) ≡ pos 0
  none_filled beyond z h zero k = beyond
  none_filled beyond z h (suc n) zero = h
  none_filled beyond z h (suc n) (suc k) = none_filled beyond z h n k
