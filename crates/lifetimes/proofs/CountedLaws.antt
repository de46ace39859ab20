-- One live cycle more in its slot. Assumes nothing.
use mathlib.Core.Path.{◌≡◌, sym, ap, ◌∙◌}
use mathlib.Core.Bool.{Bool, true, false, cond}
use mathlib.Core.List.{List}
use Prim.Native.Nat.{ℕ, ◌+◌, ◌%◌, ◌<◌, ◌≤◌}
use native.Mathlib.Nat.{mod-lt, mod-eq_of_lt}
use native.Mathlib.Numerals.{add-one}
use native.Mathlib.Decide.{ℕ_discrete}
use native.Mathlib.Omega.{arith}
use lib.Dec.{ltb, eqb}
use lib.ListN.{length, get_or, set}
use lib.Seq.{get_or-set_same, get_or-set_other}
use borrow.Author.Tests.{eq-eqb, ne_eqb, le-ltb}
use Rattle.folding.specs.Offset.{offset}
use Rattle.lifetimes.specs.Counts.{Small, Counted}
use Rattle.folding.proofs.LiveLaws.{slot_iff, step_test}

-- a count raised by one
raised : (l : List ℕ) (k t : ℕ) → k < length l → get_or (set l k (get_or l k 0 + 1)) t 0 ≡ get_or l t 0 + cond (eqb k t) 1 0
raised l k t h = elim (ℕ_discrete k t) [
  | yes same ↦ rw (eq-eqb k t same) (ap (λ (z : ℕ). get_or (set l z (get_or l z 0 + 1)) t 0) same ∙ get_or-set_same l t (get_or l t 0 + 1) 0 (omega arith))
  | no other ↦ rw (ne_eqb k t other) (get_or-set_other l k t (get_or l k 0 + 1) 0 (λ same. other (sym same)) ∙ (let z : get_or l t 0 ≡ get_or l t 0 + 0 = omega arith in z))
]

module _ (n first : ℕ) (0<n : 0 < n) (n≤32 : n ≤ 32) (counts : List ℕ) where
  pub counted_none : Counted n first 0 counts counts
  counted_none t h = rw (le-ltb (offset n first t) 0 (omega arith)) (omega arith)

  pub counted_more : (i : ℕ) (live : List ℕ) → i < n → length live ≡ 32 → Counted n first i counts live →
      Counted n first (i + 1) counts (set live ((first + i) % n) (get_or live ((first + i) % n) 0 + 1))
  counted_more i live h long before t ht =
      let k = (first + i) % n in
      let slot : eqb k t ≡ eqb i (offset n first t) = slot_iff n 0<n first i t ht ∙ ap (λ (z : ℕ). eqb z (offset n first t)) (mod-eq_of_lt h) in
      raised live k t (omega (arith, mod-lt (first + i) 0<n))
      ∙ (let e : get_or live t 0 + cond (eqb k t) 1 0 ≡ get_or counts t 0 + cond (ltb (offset n first t) (i + 1)) 1 0 =
      rw (slot, add-one i) (omega (arith, before t ht, step_test i (offset n first t))) in e)

  -- a slot's count fits
  pub counted_small : (i : ℕ) (live : List ℕ) → Small n counts 1000 → Counted n first i counts live → (t : ℕ) → t < n → get_or live t 0 ≤ 1001
  counted_small i live small c t h = elim_bit (ltb (offset n first t) i) (c t h) (small t h)
    where
      elim_bit : {a b : ℕ} (x : Bool) → a ≡ b + cond x 1 0 → b ≤ 1000 → a ≤ 1001
      elim_bit true e l = omega arith
      elim_bit false e l = omega arith
