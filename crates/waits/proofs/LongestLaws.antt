-- The longest wait so far, at each place. Assumes nothing.
use mathlib.Core.Path.{◌≡◌, sym, ap, ◌∙◌}
use mathlib.Core.Bool.{cond}
use mathlib.Core.List.{List}
use Prim.Native.Nat.{ℕ, ◌+◌, ◌<◌, max}
use native.Mathlib.Numerals.{add-one}
use native.Mathlib.Decide.{ℕ_discrete, dec_le}
use native.Mathlib.Omega.{arith}
use lib.Dec.{eqb}
use lib.ListN.{length, get_or, set}
use lib.Seq.{get_or-set_same, get_or-set_other}
use lib.IntN.{pos}
use lib.Signed.{le_z}
use borrow.Author.Tests.{eq-eqb, ne_eqb, le-leb, lt-leb}
use Rattle.times.specs.declared.Cycles.{Cycles}
use Rattle.words.specs.Loops.{largest}
use Rattle.times.specs.Times.{cycles_at}

-- l has at each k the largest of the first n that belong there
abbrev pub SoFar : ℕ → (ℕ → ℕ) → (ℕ → ℕ) → ℕ → List Cycles → Type 0
SoFar n place f many l = (k : ℕ) → k < many → cycles_at l k ≡ pos (largest n (λ e. cond (eqb (place e) k) (f e) 0))

larger_is : (a b : ℕ) → cond (le_z (pos a) (pos b)) (pos b) (pos a) ≡ pos (max a b)
larger_is a b = elim (dec_le a b) [
  | yes h ↦ rw (le-leb a b h) (ap pos (let e : b ≡ max a b = omega arith in e))
  | no h ↦ rw (lt-leb a b (omega arith)) (ap pos (let e : a ≡ max a b = omega arith in e))
]

-- record n goes to its place
pub longest_more : (n : ℕ) (place f : ℕ → ℕ) (many : ℕ) (l : List Cycles) → length l ≡ many → SoFar n place f many l → place n < many →
    (old new w : Cycles) → old.0 ≡ cycles_at l (place n) → w.0 ≡ pos (f n) → new.0 ≡ cond (le_z old.0 w.0) w.0 old.0 →
    SoFar (n + 1) place f many (set l (place n) new)
unfolding largest
longest_more n place f many l long before fits old new w eo ew en k hk =
    rw (add-one n) (elim (ℕ_discrete (place n) k) [
      | yes same ↦
          rw (eq-eqb (place n) k same)
          (ap (λ (c : Cycles). c.0) (ap (λ (z : ℕ). get_or (set l z new) k (record { 0 = pos 0 })) same ∙ get_or-set_same l k new (record { 0 = pos 0 }) (omega arith))
          ∙ en ∙ rw (eo ∙ ap (cycles_at l) same ∙ before k hk, ew) (larger_is (largest n (λ e. cond (eqb (place e) k) (f e) 0)) (f n)))
      | no other ↦
          rw (ne_eqb (place n) k other)
          (ap (λ (c : Cycles). c.0) (get_or-set_other l (place n) k new (record { 0 = pos 0 }) (λ same. other (sym same))) ∙ before k hk
          ∙ ap pos (let e : largest n (λ e. cond (eqb (place e) k) (f e) 0) ≡ max (largest n (λ e. cond (eqb (place e) k) (f e) 0)) 0 = omega arith in e))
    ])

-- nothing belongs anywhere yet
pub longest_none : (place f : ℕ → ℕ) (many : ℕ) (l : List Cycles) → ((k : ℕ) → cycles_at l k ≡ pos 0) → SoFar 0 place f many l
unfolding largest
longest_none place f many l h k hk = h k
