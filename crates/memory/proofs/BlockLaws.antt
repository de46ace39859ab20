-- The units' places stand one after the other, and so do blocks of their lengths. Assumes nothing.
use mathlib.Core.Path.{◌≡◌, refl, ◌∙◌, subst}
use mathlib.Core.Logic.{inl, inr}
use mathlib.Core.List.{List, ◌∷◌, ◌++◌}
use Prim.Native.Nat.{ℕ, zero, suc, ◌+◌, ◌<◌, ◌≤◌}
use native.Mathlib.Nat.{eq-or-lt_of_le}
use native.Mathlib.Omega.{arith}
use lib.ListN.{length, get_or, length-append, get_or-append}
use lib.Seq.{get_or-append-add}
use Rattle.words.specs.Loops.{joined}
use Rattle.plans.specs.Plan.{Plan}
use Rattle.memory.specs.Memory.{places, base, place}

pub base_mono : (p : Plan) (q n : ℕ) → q ≤ n → base p q ≤ base p n
unfolding base
base_mono p q zero h = let e : q ≡ 0 = omega arith in rw e (omega arith)
base_mono p q (suc n) h = elim (eq-or-lt_of_le h) [ inl e ↦ rw e (omega arith) | inr l ↦ let k : base p q ≤ base p n = base_mono p q n (omega arith) in omega arith ]

-- the places of unit q end where the next unit's begin
pub base_next : (p : Plan) (q n : ℕ) → q < n → base p q + places p q ≤ base p n
unfolding base
base_next p q n h = base_mono p (suc q) n h

-- ---- blocks of the units' lengths, one after the other

module _ (p : Plan) (f : ℕ → List ℕ) (len : (q : ℕ) → q < length p.units → length (f q) ≡ places p q) where
  pub length_blocks : (n : ℕ) → n ≤ length p.units → length (joined n f) ≡ base p n
  unfolding joined base
  length_blocks zero h = refl
  length_blocks (suc n) h = simp length-append (omega (arith, length_blocks n (omega arith), len n h))

  at_seam : (n i : ℕ) → n ≤ length p.units → get_or (joined n f ++ f n) (base p n + i) 0 ≡ get_or (f n) i 0
  at_seam n i h = subst (λ (k : ℕ). get_or (joined n f ++ f n) (k + i) 0 ≡ get_or (f n) i 0) (length_blocks n h) (get_or-append-add (joined n f) (f n) i 0)

  at_blocks : (n q i : ℕ) → n ≤ length p.units → q < n → i < places p q → get_or (joined n f) (base p q + i) 0 ≡ get_or (f q) i 0
  unfolding joined
  at_blocks zero q i h k l = absurd (omega arith)
  at_blocks (suc n) q i h k l = elim (eq-or-lt_of_le k) [
    | inl e ↦ let e' : n ≡ q = omega arith in
        subst (λ (q : ℕ). get_or (joined n f ++ f n) (base p q + i) 0 ≡ get_or (f q) i 0) e' (at_seam n i (omega arith))
    | inr k' ↦
        let in_front : base p q + i < length (joined n f) = omega (arith, length_blocks n (omega arith), base_next p q n (omega arith)) in
        get_or-append (joined n f) (f n) 0 (base p q + i) in_front ∙ at_blocks n q i (omega arith) (omega arith) l
  ]

  -- place i of unit q in a memory that is made of such blocks
  pub place_blocks : (t : ℕ) (rest : List ℕ) (q i : ℕ) → q < length p.units → i < places p q → place p (t ∷ (joined (length p.units) f ++ rest)) q i ≡ get_or (f q) i 0
  place_blocks t rest q i h l =
      let in_front : base p q + i < length (joined (length p.units) f) = omega (arith, length_blocks (length p.units) (omega arith), base_next p q (length p.units) h) in
      get_or-append (joined (length p.units) f) rest 0 (base p q + i) in_front ∙ at_blocks (length p.units) q i (omega arith) h l
