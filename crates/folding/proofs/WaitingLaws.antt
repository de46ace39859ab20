-- The register figure is what waits: at no cycle do more words wait than the live count of its slot, and at late cycles just as many.
-- Assumes nothing.
use mathlib.Core.Path.{◌≡◌, refl, sym, ap, ◌∙◌}
use mathlib.Core.Logic.{inl, inr}
use mathlib.Core.Bool.{Bool, false, cond, ◌&&◌, true≢false}
use Prim.Native.Nat.{ℕ, zero, suc, ◌+◌, ◌*◌, ◌-◌, ◌/◌, ◌%◌, ◌<◌, ◌≤◌}
use native.Mathlib.Nat.{mod-lt, mul-add-mod_self_left, div-add-mod', mul-le-mul_left, div-le_self}
use native.Mathlib.Decide.{dec_le}
use native.Mathlib.Omega.{arith}
use lib.Dec.{ltb, leb, eqb}
use lib.ListN.{length}
use borrow.Author.Tests.{eqb-true, eq-eqb, ne_eqb, le-leb, lt-leb, lt-ltb, le-ltb, ltb-true}
use Rattle.words.specs.Loops.{some_of, total, count}
use Rattle.words.proofs.LoopLaws.{passed?, total_le, total_cong, largest_ge}
use Rattle.words.proofs.CountLaws.{count_none, count_one, some_found, count_split}
use Rattle.words.proofs.FaultLaws.{none_of}
use Rattle.sheets.specs.Sheet.{Sheet, node_of}
use Rattle.sheets.specs.Sound.{Sound}
use Rattle.folding.specs.Folding.{depth_of}
use Rattle.folding.specs.Lifetime.{longest_wait, first_live, last_live, falls, live, registers, waits_at, waiting}

-- multiples of n that are the same are of the same number
times_same : (n k l : ℕ) → 0 < n → n * k ≡ n * l → k ≡ l
times_same n k l h e = elim (dec_le (suc k) l) [
  | yes less ↦ absurd (omega (arith, mul-le-mul_left n less))
  | no ge ↦ elim (dec_le (suc l) k) [ yes less ↦ absurd (omega (arith, mul-le-mul_left n less)) | no ge' ↦ omega arith ]
]

module _ (n : ℕ) (0<n : 0 < n) (t : ℕ) where
  -- iteration l at which the cycle x of iteration 0 falls on t
  falls_on : ℕ → ℕ → Bool
  falls_on x l = eqb t (n * l + x)

  -- the cycles x of all iterations fall on t at most once, and then in t's slot
  on_slot : ℕ → ℕ
  on_slot x = cond (eqb (x % n) (t % n)) 1 0

  reached : (x : ℕ) → x ≤ t → x % n ≡ t % n → n * (t / n - x / n) + x ≡ t
  reached x h e =
      let dx : x / n * n + x % n ≡ x = div-add-mod' x n in
      let dt : t / n * n + t % n ≡ t = div-add-mod' t n in
      let le : x / n ≤ t / n = elim (dec_le (x / n) (t / n)) [
        | yes l ↦ l
        | no g ↦ absurd (let m = mul-le-mul_left n (let q : suc (t / n) ≤ x / n = omega arith in q) in omega (arith, m, mod-lt t 0<n))
      ] in
      let split : n * (t / n - x / n) + n * (x / n) ≡ n * (t / n) = sym (ap (λ (z : ℕ). n * z) (let q : t / n ≡ (t / n - x / n) + x / n = omega arith in q) ∙ (let d : n * (t / n - x / n + x / n) ≡ n * (t / n - x / n) + n * (x / n) = omega arith in d)) in
      omega arith

  one_more : (x : ℕ) → (count (suc t) (falls_on x) ≤ on_slot x) × (x ≤ t → count (suc t) (falls_on x) ≡ on_slot x)
  unfolding falls_on on_slot
  one_more x = elim (passed? (some_of (suc t) (falls_on x))) [
    | inl y ↦
        let f = some_found (suc t) (falls_on x) y in
        let e : t ≡ n * f.0 + x = eqb-true t (n * f.0 + x) f.2 in
        let c : count (suc t) (falls_on x) ≡ 1 = count_one (suc t) (falls_on x) f.0 f.1 f.2
        (λ j l q. times_same n j f.0 0<n (let d = eqb-true t (n * j + x) q in omega arith)) in
        let s : x % n ≡ t % n = sym (ap (λ (z : ℕ). z % n) e ∙ mul-add-mod_self_left n f.0 x) in
        let both : count (suc t) (falls_on x) ≡ cond (eqb (x % n) (t % n)) 1 0 = c ∙ sym (ap (λ (b : Bool). cond {A = ℕ} b 1 0) (eq-eqb (x % n) (t % n) s)) in
        (omega (arith, both), λ h. both)
    | inr never ↦
        let none = none_of (suc t) (falls_on x) never in
        let c : count (suc t) (falls_on x) ≡ 0 = count_none (suc t) (falls_on x) none in (
          omega (arith, c),
          λ h. c ∙ elim (passed? (eqb (x % n) (t % n))) [
            | inl y ↦
                let r = reached x h (eqb-true (x % n) (t % n) y) in
                absurd (true≢false (sym (eq-eqb t (n * (t / n - x / n) + x) (sym r)) ∙ none (t / n - x / n) (omega (arith, div-le_self t n))))
            | inr f ↦ sym (ap (λ (b : Bool). cond {A = ℕ} b 1 0) f)
          ],
        )
  ]

  -- a word that leaves at cycle a of iteration 0 and waits m cycles
  waits : ℕ → ℕ → ℕ → Bool
  waits a m l = ltb (n * l + a) t && leb t (n * l + a + m)

  no_wait : (a l : ℕ) → waits a 0 l ≡ false
  unfolding waits
  no_wait a l = elim (passed? (ltb (n * l + a) t)) [
    | inl y ↦ rw (y, lt-leb t (n * l + a + 0) (let h = ltb-true (n * l + a) t y in omega arith)) refl
    | inr f ↦ rw f refl
  ]

  longer : (a m l : ℕ) → cond {A = ℕ} (waits a (suc m) l) 1 0 ≡ cond (waits a m l) 1 0 + cond (falls_on (a + suc m) l) 1 0
  unfolding waits falls_on
  longer a m l = elim (dec_le (suc (n * l + a)) t) [
    | no early ↦ rw (le-ltb (n * l + a) t (omega arith), ne_eqb t (n * l + (a + suc m)) (λ e. omega arith)) refl
    | yes left ↦ elim (dec_le t (n * l + a + m)) [
      | yes still ↦
          rw (lt-ltb (n * l + a) t left, le-leb t (n * l + a + m) still, le-leb t (n * l + a + suc m) (omega arith), ne_eqb t (n * l + (a + suc m)) (λ e. omega arith)) refl
      | no over ↦ elim (dec_le t (n * l + a + suc m)) [
        | yes last ↦
            rw (lt-ltb (n * l + a) t left, lt-leb t (n * l + a + m) (omega arith), le-leb t (n * l + a + suc m) last, eq-eqb t (n * l + (a + suc m)) (omega arith)) refl
        | no gone ↦
            rw (lt-ltb (n * l + a) t left, lt-leb t (n * l + a + m) (omega arith), lt-leb t (n * l + a + suc m) (omega arith), ne_eqb t (n * l + (a + suc m)) (λ e. omega arith)) refl
      ]
    ]
  ]

  -- m live cycles that begin at a + 1, counted in t's slot
  in_slot : ℕ → ℕ → ℕ
  in_slot a m = count m (λ i. eqb ((a + 1 + i) % n) (t % n))

  waits_fall : (a m : ℕ) → (count (suc t) (waits a m) ≤ in_slot a m) × (a + m ≤ t → count (suc t) (waits a m) ≡ in_slot a m)
  unfolding in_slot count total on_slot
  waits_fall a zero =
      let c : count (suc t) (waits a 0) ≡ 0 = count_none (suc t) (waits a 0) (λ l h. no_wait a l) in
      (omega (arith, c), λ h. c)
  waits_fall a (suc m) =
      let ih = waits_fall a m in
      let more = one_more (a + suc m) in
      let is : count (suc t) (waits a (suc m)) ≡ count (suc t) (waits a m) + count (suc t) (falls_on (a + suc m)) =
      count_split (suc t) (waits a m) (falls_on (a + suc m)) (waits a (suc m)) (λ l h. longer a m l) in
      let last : cond {A = ℕ} (eqb ((a + suc m) % n) (t % n)) 1 0 ≡ cond (eqb ((a + 1 + m) % n) (t % n)) 1 0 =
      ap (λ (z : ℕ). cond {A = ℕ} (eqb (z % n) (t % n)) 1 0) (let e : a + suc m ≡ a + 1 + m = omega arith in e) in
      (omega (arith, ih.0, more.0, is, last), λ h. let e = ih.1 (omega arith) in let e' = more.1 h in omega (arith, is, last, e, e'))

-- ---- of a sheet

module _ (s : Sheet) (sound : Sound s) (r : ℕ → ℕ) where
  falls_is : (u t : ℕ) → falls s.fold (first_live s u) (last_live s r u) t ≡ count (longest_wait s r u) (λ i. eqb (((node_of s u).slot + depth_of s u + 1 + i) % s.fold) t)
  unfolding falls
  falls_is u t =
      let a = (node_of s u).slot + depth_of s u in
      ap (λ (k : ℕ). count k (λ i. eqb ((a + 1 + i) % s.fold) t)) (let e : suc (a + longest_wait s r u) - (a + 1) ≡ longest_wait s r u = omega arith in e)

  pub waiting_enough : (t : ℕ) → waiting s r t ≤ registers s r
  unfolding waiting registers live waits in_slot
  waiting_enough t =
      let n = s.fold in
      let each = total_le (length s.nodes) (λ u. count (suc t) (waits_at s r t u)) (λ u. falls n (first_live s u) (last_live s r u) (t % n))
      (λ u h. rw (falls_is u (t % n)) (waits_fall n sound.turns t ((node_of s u).slot + depth_of s u) (longest_wait s r u)).0) in
      let most = largest_ge n (live s r) (t % n) (mod-lt t sound.turns) in
      omega arith

  pub waiting_late : (t : ℕ) → ((u : ℕ) → u < length s.nodes → last_live s r u ≤ t) → waiting s r t ≡ live s r (t % s.fold)
  unfolding waiting live waits in_slot
  waiting_late t late =
      let n = s.fold in
      total_cong (length s.nodes) (λ u. count (suc t) (waits_at s r t u)) (λ u. falls n (first_live s u) (last_live s r u) (t % n))
      (λ u h. (waits_fall n sound.turns t ((node_of s u).slot + depth_of s u) (longest_wait s r u)).1 (late u h) ∙ sym (falls_is u (t % n)))
