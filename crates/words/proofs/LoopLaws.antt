-- Laws of the loops.
use Rattle.std.proofs.Common.{◌≡◌, ℕ, zero, suc, ◌+◌, ◌<◌, ◌≤◌, Bool, true, false, cond, ◌&&◌, ◌||◌, eqb, ◌⊎◌, List, ◌++◌, length, get_or, sym, refl, ap, ◌∙◌, subst, ap₂, inl, inr, true≢false, eq-or-lt_of_le, add-one, arith, eq-eqb, eqb-true}
use mathlib.Core.Bool.{and-false, and-or_distrib_left}
use mathlib.Core.Option.{Option, some, none}
use Rattle.words.specs.Loops.{tab, every, some_of, total, largest, count, lowest, or_else, joined}

pub length_tab : {A : Type 0} (n : ℕ) (f : ℕ → A) → length (tab n f) ≡ n
unfolding tab
length_tab zero f = refl
length_tab (suc n) f = ap suc (length_tab n (λ i. f (suc i)))

pub getD_tab : {A : Type 0} (n : ℕ) (f : ℕ → A) (i : ℕ) (d : A) → i < n → get_or (tab n f) i d ≡ f i
unfolding tab
getD_tab zero f i d h = absurd (omega arith)
getD_tab (suc n) f zero d h = refl
getD_tab (suc n) f (suc i) d h = getD_tab n (λ i. f (suc i)) i d (omega arith)

-- a test is passed or not
pub passed? : (b : Bool) → (b ≡ true) ⊎ (b ≡ false)
passed? true = inl refl
passed? false = inr refl

pub lowest_cong : (n : ℕ) (p q : ℕ → Bool) → ((i : ℕ) → i < n → p i ≡ q i) → lowest n p ≡ lowest n q
unfolding lowest
lowest_cong zero p q h = refl
lowest_cong (suc n) p q h =
    rw (lowest_cong n p q (λ i k. h i (omega arith)), h n (omega arith)) refl

pub lowest_none : (n : ℕ) (p : ℕ → Bool) → ((i : ℕ) → i < n → p i ≡ false) → lowest n p ≡ none
unfolding lowest
lowest_none zero p h = refl
lowest_none (suc n) p h = rw (lowest_none n p (λ i k. h i (omega arith)), h n (omega arith)) refl

pub lowest_hit : (n : ℕ) (p : ℕ → Bool) (i : ℕ) → i < n → p i ≡ true → ((j : ℕ) → j < n → p j ≡ true → j ≡ i) → lowest n p ≡ some i
unfolding lowest
lowest_hit zero p i h t only = absurd (omega arith)
lowest_hit (suc n) p i h t only = elim (eq-or-lt_of_le h) [
  | inl e ↦
      let e' : i ≡ n = omega arith in
      let others : (j : ℕ) → j < n → p j ≡ false = λ j k. elim (passed? (p j)) [ inl y ↦ absurd (let z = only j (omega arith) y in omega arith) | inr f ↦ f ] in
      rw (lowest_none n p others, ← e', t) refl
  | inr k ↦ rw (lowest_hit n p i (omega arith) t (λ j l y. only j (omega arith) y)) refl
]

lowest_sound_go : (n : ℕ) (p : ℕ → Bool) (o : Option ℕ) (b : Bool) (i : ℕ) → ((j : ℕ) → o ≡ some j → (j < n) × (p j ≡ true)) → p n ≡ b →
    or_else o (cond b (some n) none) ≡ some i → (i < suc n) × (p i ≡ true)
lowest_sound_go n p (some j) b i ih e h =
    let e' : i ≡ j = cc in
    let a = ih j refl in
    (omega arith, rw e' a.1)
lowest_sound_go n p none true i ih e h =
    let e' : i ≡ n = cc in
    (omega arith, rw e' e)
lowest_sound_go n p none false i ih e h = let z : ◌≡◌ {A = ℕ} 0 1 = cc in absurd (omega arith)

pub lowest_sound : (n : ℕ) (p : ℕ → Bool) (i : ℕ) → lowest n p ≡ some i → (i < n) × (p i ≡ true)
unfolding lowest
lowest_sound zero p i h = let z : ◌≡◌ {A = ℕ} 0 1 = cc in absurd (omega arith)
lowest_sound (suc n) p i h = lowest_sound_go n p (lowest n p) (p n) i (λ j e. lowest_sound n p j e) refl h

-- ---- tests

pub bool_ext : (b c : Bool) → (b ≡ true → c ≡ true) → (c ≡ true → b ≡ true) → b ≡ c
bool_ext true c f g = sym (f refl)
bool_ext false true f g = g refl
bool_ext false false f g = refl

pub and_split : (b c : Bool) → (b && c) ≡ true → (b ≡ true) × (c ≡ true)
and_split true c h = (refl, h)
and_split false c h = absurd (true≢false (sym h))

pub and_join : (b c : Bool) → b ≡ true → c ≡ true → (b && c) ≡ true
and_join b c p q = rw (p, q) refl

-- a pair of tests of equality stands for one
pub pair_test : (a b c d y x : ℕ) → (y ≡ x → (a ≡ b) × (c ≡ d)) → (a ≡ b → c ≡ d → y ≡ x) → (eqb a b && eqb c d) ≡ eqb y x
pair_test a b c d y x f g =
    bool_ext (eqb a b && eqb c d) (eqb y x)
    (λ h. let t = and_split (eqb a b) (eqb c d) h in eq-eqb y x (g (eqb-true a b t.0) (eqb-true c d t.1)))
    (λ h. let t = f (eqb-true y x h) in and_join (eqb a b) (eqb c d) (eq-eqb a b t.0) (eq-eqb c d t.1))

pub every_at : (n : ℕ) (p : ℕ → Bool) → every n p ≡ true → (i : ℕ) → i < n → p i ≡ true
unfolding every
every_at zero p h i l = absurd (omega arith)
every_at (suc n) p h i l =
    let t = and_split (every n p) (p n) h in
    elim (eq-or-lt_of_le l) [ inl e ↦ let e' : i ≡ n = omega arith in rw e' t.1 | inr k ↦ every_at n p t.0 i (omega arith) ]

pub every_all : (n : ℕ) (p : ℕ → Bool) → ((i : ℕ) → i < n → p i ≡ true) → every n p ≡ true
unfolding every
every_all zero p h = refl
every_all (suc n) p h = and_join (every n p) (p n) (every_all n p (λ i l. h i (omega arith))) (h n (omega arith))

-- a loop that goes on while all pass, and stops at one that does not
pub every_more : (n : ℕ) (p : ℕ → Bool) → every n p ≡ true → p n ≡ true → every (n + 1) p ≡ true
unfolding every
every_more n p h k = rw add-one (and_join (every n p) (p n) h k)

pub every_stop : (n i : ℕ) (p : ℕ → Bool) → i < n → p i ≡ false → every n p ≡ false
every_stop n i p l h = elim (passed? (every n p)) [ inl t ↦ absurd (true≢false (sym (every_at n p t i l) ∙ h)) | inr f ↦ f ]

-- where not all pass, some i does not
pub every_not : (n : ℕ) (p : ℕ → Bool) → every n p ≡ false → (i : ℕ) × (i < n) × (p i ≡ false)
unfolding every
every_not zero p h = absurd (true≢false h)
every_not (suc n) p h = elim (passed? (p n)) [
  | inl t ↦ elim (passed? (every n p)) [
    | inl t' ↦ absurd (true≢false (sym (and_join (every n p) (p n) t' t) ∙ h))
    | inr f ↦ let r = every_not n p f in (r.0, omega (arith, r.1), r.2)
  ]
  | inr f ↦ (n, omega arith, f)
]

-- ---- the largest, totals

pub largest_ge : (n : ℕ) (f : ℕ → ℕ) (i : ℕ) → i < n → f i ≤ largest n f
unfolding largest
largest_ge zero f i h = absurd (omega arith)
largest_ge (suc n) f i h = elim (eq-or-lt_of_le h) [
  | inl e ↦ let e' : i ≡ n = omega arith in rw e' (omega arith)
  | inr k ↦ let ih = largest_ge n f i (omega arith) in omega arith
]

pub largest_le : (n : ℕ) (f : ℕ → ℕ) (b : ℕ) → ((i : ℕ) → i < n → f i ≤ b) → largest n f ≤ b
unfolding largest
largest_le zero f b h = omega arith
largest_le (suc n) f b h = let ih = largest_le n f b (λ i l. h i (omega arith)) in let a = h n (omega arith) in omega arith

pub largest_cong : (n : ℕ) (f g : ℕ → ℕ) → ((i : ℕ) → i < n → f i ≡ g i) → largest n f ≡ largest n g
unfolding largest
largest_cong zero f g h = refl
largest_cong (suc n) f g h = rw (largest_cong n f g (λ i l. h i (omega arith)), h n (omega arith)) refl

pub total_cong : (n : ℕ) (f g : ℕ → ℕ) → ((i : ℕ) → i < n → f i ≡ g i) → total n f ≡ total n g
unfolding total
total_cong zero f g h = refl
total_cong (suc n) f g h = rw (total_cong n f g (λ i l. h i (omega arith)), h n (omega arith)) refl

pub total_le : (n : ℕ) (f g : ℕ → ℕ) → ((i : ℕ) → i < n → f i ≤ g i) → total n f ≤ total n g
unfolding total
total_le zero f g h = omega arith
total_le (suc n) f g h = let ih = total_le n f g (λ i l. h i (omega arith)) in let a = h n (omega arith) in omega arith

pub some_of_hit : (n : ℕ) (p : ℕ → Bool) (i : ℕ) → i < n → p i ≡ true → some_of n p ≡ true
unfolding some_of
some_of_hit zero p i h t = absurd (omega arith)
some_of_hit (suc n) p i h t = elim (eq-or-lt_of_le h) [
  | inl e ↦ let e' : i ≡ n = omega arith in or_right (some_of n p) (p n) (subst (λ (z : ℕ). p z ≡ true) e' t)
  | inr k ↦ rw (some_of_hit n p i (omega arith) t) refl
]
  where
    or_right : (a b : Bool) → b ≡ true → (a || b) ≡ true
    or_right true b h = refl
    or_right false b h = h

pub some_none : (n : ℕ) (p : ℕ → Bool) → ((i : ℕ) → i < n → p i ≡ false) → some_of n p ≡ false
unfolding some_of
some_none zero p h = refl
some_none (suc n) p h = rw (some_none n p (λ i l. h i (omega arith)), h n (omega arith)) refl

pub some_of_cong : (n : ℕ) (p q : ℕ → Bool) → ((i : ℕ) → i < n → p i ≡ q i) → some_of n p ≡ some_of n q
unfolding some_of
some_of_cong zero p q h = refl
some_of_cong (suc n) p q h = rw (some_of_cong n p q (λ i l. h i (omega arith)), h n (omega arith)) refl

-- one test or the other, and a test that goes by no i
pub some_or : (n : ℕ) (p q : ℕ → Bool) → some_of n (λ i. p i || q i) ≡ (some_of n p || some_of n q)
unfolding some_of
some_or zero p q = refl
some_or (suc n) p q = rw (some_or n p q) (swapped (some_of n p) (some_of n q) (p n) (q n))
  where
    swapped : (a b c d : Bool) → ((a || b) || (c || d)) ≡ ((a || c) || (b || d))
    swapped true b c d = refl
    swapped false true true d = refl
    swapped false true false d = refl
    swapped false false c d = refl

pub some_and : (n : ℕ) (b : Bool) (p : ℕ → Bool) → some_of n (λ i. b && p i) ≡ (b && some_of n p)
unfolding some_of
some_and zero b p = sym (and-false b)
some_and (suc n) b p = rw (some_and n b p) (sym (and-or_distrib_left b (some_of n p) (p n)))

pub every_cong : (n : ℕ) (p q : ℕ → Bool) → ((i : ℕ) → i < n → p i ≡ q i) → every n p ≡ every n q
unfolding every
every_cong zero p q h = refl
every_cong (suc n) p q h = rw (every_cong n p q (λ i l. h i (omega arith)), h n (omega arith)) refl

pub count_cong : (n : ℕ) (p q : ℕ → Bool) → ((i : ℕ) → i < n → p i ≡ q i) → count n p ≡ count n q
unfolding count
count_cong n p q h = total_cong n (λ i. cond (p i) 1 0) (λ i. cond (q i) 1 0) (λ i l. ap (λ (b : Bool). cond {A = ℕ} b 1 0) (h i l))

pub joined_cong : (n : ℕ) (f g : ℕ → List ℕ) → ((i : ℕ) → i < n → f i ≡ g i) → joined n f ≡ joined n g
unfolding joined
joined_cong zero f g h = refl
joined_cong (suc n) f g h = ap₂ (λ (l m : List ℕ). l ++ m) (joined_cong n f g (λ i l. h i (omega arith))) (h n (omega arith))
