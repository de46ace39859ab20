-- Lists in which no number stands twice: they may be turned, and have at most n members below n. Assumes nothing.
use mathlib.Core.Path.{◌≡◌, sym, subst}
use mathlib.Core.Logic.{inl, inr}
use mathlib.Core.List.{List, [], ◌∷◌, ◌++◌}
use Prim.Native.Nat.{ℕ, zero, suc, ◌<◌, ◌≤◌}
use native.Mathlib.Nat.{eq-or-lt_of_le}
use native.Mathlib.Decide.{ℕ_discrete}
use native.Mathlib.Omega.{arith}
use lib.ListN.{length}
use Rattle.folding.specs.Walks.{Absent, Once}

module _ (f : ℕ → ℕ) where
  absent_append : (a : ℕ) (l m : List ℕ) → Absent a f l → Absent a f m → Absent a f (l ++ m)
  absent_append a [] m h k = k
  absent_append a (e ∷ l) m h k = (h.0, absent_append a l m h.1 k)

  pub absent_left : (a : ℕ) (l m : List ℕ) → Absent a f (l ++ m) → Absent a f l
  absent_left a [] m h = tt
  absent_left a (e ∷ l) m h = (h.0, absent_left a l m h.1)

  absent_right : (a : ℕ) (l m : List ℕ) → Absent a f (l ++ m) → Absent a f m
  absent_right a [] m h = h
  absent_right a (e ∷ l) m h = absent_right a l m h.1

  -- e can be taken out of the middle and put in front, or behind
  once_right : (l m : List ℕ) → Once f (l ++ m) → Once f m
  once_right [] m h = h
  once_right (e ∷ l) m h = once_right l m h.1

  once_left : (l m : List ℕ) → Once f (l ++ m) → Once f l
  once_left [] m h = tt
  once_left (e ∷ l) m h = (absent_left (f e) l m h.0, once_left l m h.1)

  -- no element of l is one of m
  abbrev pub Apart : List ℕ → List ℕ → Type 0
  Apart [] m = Unit {0}
  Apart (e ∷ l) m = Absent (f e) f m × Apart l m

  once_apart : (l m : List ℕ) → Once f (l ++ m) → Apart l m
  once_apart [] m h = tt
  once_apart (e ∷ l) m h = (absent_right (f e) l m h.0, once_apart l m h.1)

  apart_once : (l m : List ℕ) → Once f l → Once f m → Apart l m → Once f (l ++ m)
  apart_once [] m h k p = k
  apart_once (e ∷ l) m h k p = (absent_append (f e) l m h.0 p.0, apart_once l m h.1 k p.1)

  apart_nil : (l : List ℕ) → Apart l []
  apart_nil [] = tt
  apart_nil (e ∷ l) = (tt, apart_nil l)

  apart_cons : (e : ℕ) (l m : List ℕ) → Absent (f e) f l → Apart l m → Apart l (e ∷ m)
  apart_cons e [] m h p = tt
  apart_cons e (a ∷ l) m h p = (((λ q. h.0 (sym q)), p.0), apart_cons e l m h.1 p.1)

  apart_flip : (l m : List ℕ) → Apart l m → Apart m l
  apart_flip [] m p = apart_nil m
  apart_flip (e ∷ l) m p = apart_cons e m l p.0 (apart_flip l m p.1)

  pub once_turn : (l m : List ℕ) → Once f (l ++ m) → Once f (m ++ l)
  once_turn l m h = apart_once m l (once_right l m h) (once_left l m h) (apart_flip l m (once_apart l m h))

  -- ---- at most n different numbers are below n

  abbrev pub Below : ℕ → List ℕ → Type 0
  Below n [] = Unit {0}
  Below n (e ∷ l) = (f e < n) × Below n l

  -- l without the first e that has f e ≡ a
  without : ℕ → List ℕ → List ℕ
  without a [] = []
  without a (e ∷ l) = elim (ℕ_discrete (f e) a) [ yes h ↦ l | no h ↦ e ∷ without a l ]

  absent_without : (a b : ℕ) (l : List ℕ) → Absent b f l → Absent b f (without a l)
  unfolding without
  absent_without a b [] h = tt
  absent_without a b (e ∷ l) h = elim (ℕ_discrete (f e) a) as (λ d. Absent b f (elim d [ yes h ↦ l | no h ↦ e ∷ without a l ])) [ yes q ↦ h.1 | no q ↦ (h.0, absent_without a b l h.1) ]

  once_without : (a : ℕ) (l : List ℕ) → Once f l → Once f (without a l)
  unfolding without
  once_without a [] h = tt
  once_without a (e ∷ l) h = elim (ℕ_discrete (f e) a) as (λ d. Once f (elim d [ yes h ↦ l | no h ↦ e ∷ without a l ])) [ yes q ↦ h.1 | no q ↦ (absent_without a (f e) l h.0, once_without a l h.1) ]

  -- what is below suc n, once the n is out, is below n
  below_without : (n : ℕ) (l : List ℕ) → Once f l → Below (suc n) l → Below n (without n l)
  unfolding without
  below_without n [] h k = tt
  below_without n (e ∷ l) h k = elim (ℕ_discrete (f e) n) as (λ d. Below n (elim d [ yes h ↦ l | no h ↦ e ∷ without n l ])) [
    | yes q ↦ drop_it q l h.0 k.1
    | no q ↦ (let k0 = k.0 in omega arith, below_without n l h.1 k.1)
  ]
    where
      drop_it : f e ≡ n → (l : List ℕ) → Absent (f e) f l → Below (suc n) l → Below n l
      drop_it q [] h k = tt
      drop_it q (b ∷ l) h k = ((let k0 = k.0 in let h0 = h.0 in omega arith), drop_it q l h.1 k.1)

  length_without : (n : ℕ) (l : List ℕ) → length l ≤ suc (length (without n l))
  unfolding without
  length_without n [] = omega arith
  length_without n (e ∷ l) = let ih = length_without n l in elim (ℕ_discrete (f e) n) as (λ d. suc (length l) ≤ suc (length {A = ℕ} (elim d [ yes h ↦ l | no h ↦ e ∷ without n l ]))) [ yes q ↦ omega arith | no q ↦ omega arith ]

  pub few : (n : ℕ) (l : List ℕ) → Once f l → Below n l → length l ≤ n
  few zero [] h k = omega arith
  few zero (e ∷ l) h k = absurd (omega (arith, k.0))
  few (suc n) l h k = let ih = few n (without n l) (once_without n l h) (below_without n l h k) in omega (arith, length_without n l)

  below_drop : (n : ℕ) (l : List ℕ) → Absent n f l → Below (suc n) l → Below n l
  below_drop n [] h k = tt
  below_drop n (b ∷ l) h k = ((let k0 = k.0 in let h0 = h.0 in omega arith), below_drop n l h.1 k.1)

  -- and fewer where one number is missing
  pub few_but : (n v : ℕ) (l : List ℕ) → v < n → Absent v f l → Once f l → Below n l → length l < n
  few_but zero v l hv a h k = absurd (omega arith)
  few_but (suc n) v l hv a h k = elim (eq-or-lt_of_le hv) [
    | inl e ↦ let e' : v ≡ n = omega arith in let c = few n l h (below_drop n l (subst (λ (z : ℕ). Absent z f l) e' a) k) in omega arith
    | inr lt ↦ let ih = few_but n v (without n l) (omega arith) (absent_without n v l a) (once_without n l h) (below_without n l h k) in omega (arith, length_without n l)
  ]
