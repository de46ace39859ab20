-- How often m cycles in a row fall in a slot, in closed form. Assumes nothing.
use mathlib.Core.Path.{◌≡◌, refl, sym, ap, ◌∙◌}
use mathlib.Core.Logic.{◌⊎◌, inl, inr}
use mathlib.Core.Bool.{Bool, cond}
use Prim.Native.Nat.{ℕ, zero, suc, ◌+◌, ◌*◌, ◌-◌, ◌/◌, ◌%◌, ◌<◌, ◌≤◌}
use native.Mathlib.Nat.{mod-lt, mod-eq_of_lt, mod-eq-sub-mod, add-mod, div-add-mod', zero-div, zero-mod, eq-or-lt_of_le}
use native.Mathlib.Omega.{arith}
use lib.Arith.{digits_div, digits_mod}
use lib.Dec.{ltb, eqb}
use borrow.Author.Tests.{eqb-true, eqb-false, eq-eqb, ne_eqb, lt-ltb, le-ltb, ltb-true, ltb-false}
use Rattle.words.specs.Loops.{total, count}
use Rattle.words.proofs.LoopLaws.{passed?, bool_ext, total_cong}
use Rattle.folding.specs.Lifetime.{falls}
use Rattle.folding.specs.Offset.{offset}

-- the remainder of a number below 2 n
small_mod : (n z : ℕ) → z < n + n → ((z < n) × (z % n ≡ z)) ⊎ ((n ≤ z) × (z % n ≡ z - n))
small_mod n z h = elim (passed? (ltb z n)) [
  | inl t ↦ let l = ltb-true z n t in inl (l, mod-eq_of_lt l)
  | inr f ↦ let l = ltb-false z n f in inr (l, mod-eq-sub-mod l ∙ mod-eq_of_lt (let q : z - n < n = omega arith in q))
]

pub step_test : (r o : ℕ) → cond (ltb o r) 1 0 + cond (eqb r o) 1 0 ≡ cond {A = ℕ} (ltb o (suc r)) 1 0
step_test r o = elim (passed? (ltb o r)) [
  | inl t ↦ let l = ltb-true o r t in rw (t, ne_eqb r o (λ e. omega arith), lt-ltb o (suc r) (omega arith)) refl
  | inr f ↦ let l = ltb-false o r f in elim (passed? (eqb r o)) [
    | inl t ↦ let e = eqb-true r o t in rw (f, t, lt-ltb o (suc r) (omega arith)) refl
    | inr g ↦ let e = eqb-false r o g in rw (f, g, le-ltb o (suc r) (let q : suc r ≤ o = omega arith in q)) refl
  ]
]

module _ (n : ℕ) (0<n : 0 < n) where
  -- cycle b + k falls in slot t exactly where k mod n is that offset
  pub slot_iff : (b k t : ℕ) → t < n → eqb ((b + k) % n) t ≡ eqb (k % n) (offset n b t)
  slot_iff b k t ht =
      let x = b % n in
      let y = k % n in
      let hx : x < n = mod-lt b 0<n in
      let hy : y < n = mod-lt k 0<n in
      let e : (b + k) % n ≡ (x + y) % n = add-mod b k n in
      bool_ext (eqb ((b + k) % n) t) (eqb y (offset n b t))
      (λ h. let h' : (x + y) % n ≡ t = sym e ∙ eqb-true ((b + k) % n) t h in
      eq-eqb y (offset n b t) (elim (small_mod n (x + y) (omega arith)) [
        | inl a ↦ let q : t + n - x ≡ y + n = omega arith in elim (small_mod n (t + n - x) (omega arith)) [ inl c ↦ omega arith | inr c ↦ omega arith ]
        | inr a ↦ elim (small_mod n (t + n - x) (omega arith)) [ inl c ↦ omega arith | inr c ↦ omega arith ]
      ]))
      (λ h. let h' : y ≡ offset n b t = eqb-true y (offset n b t) h in
      eq-eqb ((b + k) % n) t (e ∙ elim (small_mod n (x + y) (omega arith)) [
        | inl a ↦ elim (small_mod n (t + n - x) (omega arith)) [ inl c ↦ omega arith | inr c ↦ omega arith ]
        | inr a ↦ elim (small_mod n (t + n - x) (omega arith)) [ inl c ↦ omega arith | inr c ↦ omega arith ]
      ]))

  abbrev closed : ℕ → ℕ → ℕ
  closed m o = m / n + cond (ltb o (m % n)) 1 0

  one_more : (m o : ℕ) → o < n → closed m o + cond (eqb (m % n) o) 1 0 ≡ closed (suc m) o
  one_more m o ho =
      let q = m / n in
      let r = m % n in
      let hr : r < n = mod-lt m 0<n in
      let whole : q * n + r ≡ m = div-add-mod' m n in
      elim (eq-or-lt_of_le hr) [
        | inl last ↦
            let e : suc m ≡ suc q * n + 0 = omega arith in
            let d : suc m / n ≡ suc q = ap (λ (z : ℕ). z / n) e ∙ digits_div (suc q) 0<n in
            let l : suc m % n ≡ 0 = ap (λ (z : ℕ). z % n) e ∙ digits_mod (suc q) 0<n in
            let a : cond {A = ℕ} (ltb o (suc r)) 1 0 ≡ 1 = rw (lt-ltb o (suc r) (omega arith)) refl in
            rw (d, l, le-ltb o 0 (omega arith)) (omega (arith, step_test r o, a))
        | inr more ↦
            let e : suc m ≡ q * n + suc r = omega arith in
            let d : suc m / n ≡ q = ap (λ (z : ℕ). z / n) e ∙ digits_div q more in
            let l : suc m % n ≡ suc r = ap (λ (z : ℕ). z % n) e ∙ digits_mod q more in
            rw (d, l) (omega (arith, step_test r o))
      ]

  count_closed : (m o : ℕ) → o < n → count m (λ k. eqb (k % n) o) ≡ closed m o
  unfolding count total
  count_closed zero o ho = rw (zero-div n, zero-mod n, le-ltb o 0 (omega arith)) refl
  count_closed (suc m) o ho = ap (λ (z : ℕ). z + cond (eqb (m % n) o) 1 0) (count_closed m o ho) ∙ one_more m o ho

  -- the closed form of the live cycles a + 1, .., a + m
  pub falls_closed : (a m t : ℕ) → t < n → falls n (a + 1) (a + m) t ≡ m / n + cond (ltb (offset n (a + 1) t) (m % n)) 1 0
  unfolding falls count
  falls_closed a m t ht =
      ap (λ (k : ℕ). total k (λ i. cond (eqb ((a + 1 + i) % n) t) 1 0)) (let e : suc (a + m) - (a + 1) ≡ m = omega arith in e)
      ∙ total_cong m (λ i. cond (eqb ((a + 1 + i) % n) t) 1 0) (λ i. cond (eqb (i % n) (offset n (a + 1) t)) 1 0)
      (λ i hi. ap (λ (b : Bool). cond {A = ℕ} b 1 0) (slot_iff (a + 1) i t ht))
      ∙ count_closed m (offset n (a + 1) t) (mod-lt (t + n - (a + 1) % n) 0<n)

  pub falls_le : (a m t : ℕ) → t < n → falls n (a + 1) (a + m) t ≤ m / n + 1
  falls_le a m t ht = rw (falls_closed a m t ht) (elim (passed? (ltb (offset n (a + 1) t) (m % n))) [ inl y ↦ rw y (omega arith) | inr f ↦ rw f (omega arith) ])
