-- Records of one length, one after the other. Assumes nothing.
use mathlib.Core.Path.{◌≡◌, refl, ap, ◌∙◌}
use mathlib.Core.List.{List, [], ◌∷◌, ◌++◌, append_assoc}
use Prim.Native.Nat.{ℕ, zero, suc, ◌+◌, ◌*◌, ◌<◌}
use native.Mathlib.Omega.{arith}
use lib.ListN.{length, get_or, length-append, get_or-append}
use lib.Seq.{get_or-append-add}
use Rattle.words.specs.Loops.{tab}
use Rattle.plans.specs.Plan.{concat}

-- a list that has f 0, f 1, .. at its places
pub tab_is : {A : Type 0} (l : List A) (f : ℕ → A) (d : A) → ((i : ℕ) → i < length l → f i ≡ get_or l i d) → tab (length l) f ≡ l
unfolding tab
tab_is [] f d h = refl
tab_is (a ∷ l) f d h =
    let e = h zero (omega arith) in
    let es = tab_is l (λ i. f (suc i)) d (λ i k. h (suc i) (omega arith)) in
    λ z. e z ∷ es z

module _ {A : Type 0} (f : A → List ℕ) (k : ℕ) (len : (a : A) → length (f a) ≡ k) where
  pub length_concat : (l : List A) → length (concat f l) ≡ k * length l
  unfolding concat
  length_concat [] = omega arith
  length_concat (a ∷ l) = simp length-append (omega (arith, len a, length_concat l))

  -- byte j of record i
  pub at_concat : (l : List A) (rest : List ℕ) (i j : ℕ) (d : A) → i < length l → j < k → get_or (concat f l ++ rest) (k * i + j) 0 ≡ get_or (f (get_or l i d)) j 0
  unfolding concat
  at_concat [] rest i j d h hj = absurd (omega arith)
  at_concat (a ∷ l) rest zero j d h hj =
      ap (λ (z : List ℕ). get_or z (k * 0 + j) 0) (append_assoc (f a) (concat f l) rest)
      ∙ ap (λ (z : ℕ). get_or (f a ++ (concat f l ++ rest)) z 0) (let e : k * 0 + j ≡ j = omega arith in e)
      ∙ get_or-append (f a) (concat f l ++ rest) 0 j (omega (arith, len a))
  at_concat (a ∷ l) rest (suc i) j d h hj =
      ap (λ (z : List ℕ). get_or z (k * suc i + j) 0) (append_assoc (f a) (concat f l) rest)
      ∙ ap (λ (z : ℕ). get_or (f a ++ (concat f l ++ rest)) z 0) (let e : k * suc i + j ≡ length (f a) + (k * i + j) = omega (arith, len a) in e)
      ∙ get_or-append-add (f a) (concat f l ++ rest) (k * i + j) 0
      ∙ at_concat l rest i j d (omega arith) hj

-- every number of a list is below 256
abbrev pub AllBytes : List ℕ → Type 0
AllBytes [] = Unit {0}
AllBytes (a ∷ l) = (a < 256) × AllBytes l

pub bytes_append : (l m : List ℕ) → AllBytes l → AllBytes m → AllBytes (l ++ m)
bytes_append [] m h k = k
bytes_append (a ∷ l) m h k = (h.0, bytes_append l m h.1 k)

pub bytes_concat : {A : Type 0} (f : A → List ℕ) (l : List A) (d : A) → ((i : ℕ) → i < length l → AllBytes (f (get_or l i d))) → AllBytes (concat f l)
unfolding concat
bytes_concat f [] d h = tt
bytes_concat f (a ∷ l) d h =
    bytes_append (f a) (concat f l) (h zero (omega arith)) (bytes_concat f l d (λ i k. h (suc i) (omega arith)))

pub bytes_at : (l : List ℕ) → AllBytes l → (i : ℕ) → get_or l i 0 < 256
bytes_at [] h i = omega arith
bytes_at (a ∷ l) h zero = h.0
bytes_at (a ∷ l) h (suc i) = bytes_at l h.1 i
