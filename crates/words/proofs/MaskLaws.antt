-- Laws of a mask of slots: what a slot put in changes, and that its ones are its slots, counted. Assumes nothing.
use Rattle.std.proofs.Common.{◌≡◌, ℕ, zero, suc, ◌+◌, ◌-◌, ◌*◌, ◌/◌, ◌%◌, ◌^◌, ◌<◌, Bool, true, false, cond, ◌||◌, eqb, ltb, sym, refl, ap, ◌∙◌, ap₂, inl, inr, true≢false, mod-lt, add_comm, one-add, arith, lit<, pow_pos, pow-add, shl_exact, shr_lt, ltb-false, ltb-true, eqb-true}
use native.Mathlib.Nat.{div_self, div-eq_of_lt}
use lib.Arith.{lt-one, lt_of_le-ne}
use lib.Bits.{bit_or, or_shr, or_mod, or_zero_r, or_lt}
use lib.Count.{ones, ones_cat}
use lib.Pow.{shl-shr, split, field, mod-mod-pow, pow-lt}
use borrow.Author.Tests.{eqb-false}
use Rattle.words.specs.Loops.{count, total}
use Rattle.words.specs.Masks.{in_mask, with_slot}
use Rattle.words.proofs.LoopLaws.{passed?, count_cong}

-- the shifted one of the code
pub shl_one : (s : ℕ) → s < 32 → (1 * 2 ^ s) % 4294967296 ≡ 2 ^ s
shl_one s h = shl_exact 1 s 32 (lit< tt) (omega arith) ∙ omega arith

pub in_none : (t : ℕ) → in_mask 0 t ≡ false
unfolding in_mask
in_none t = ap (λ (q : ℕ). eqb (q % 2) 1) (div-eq_of_lt (pow_pos t))

pub with_below : (k m s : ℕ) → m < 2 ^ k → s < k → with_slot m s < 2 ^ k
unfolding with_slot
with_below k m s h l = or_lt k m (2 ^ s) h (pow-lt l)

-- ---- a slot put in

own_bit : (t : ℕ) → 2 ^ t / 2 ^ t % 2 ≡ 1
own_bit t = ap (λ (q : ℕ). q % 2) (div_self (pow_pos t))

bit_below : (s t : ℕ) → t < s → 2 ^ s / 2 ^ t % 2 ≡ 0
bit_below s t h =
    let k : ℕ = s - t - 1 in
    let e : s ≡ (k + 1) + t = omega arith in
    let q : 2 ^ s ≡ 2 ^ (k + 1) * 2 ^ t = ap (λ (x : ℕ). 2 ^ x) e ∙ pow-add 2 (k + 1) t in
    let d : 2 ^ s / 2 ^ t ≡ 2 ^ (k + 1) = ap (λ (x : ℕ). x / 2 ^ t) q ∙ shl-shr (2 ^ (k + 1)) t in
    let p : 2 ^ (k + 1) ≡ 2 ^ k * 2 = pow-add 2 k 1 in
    omega arith

other_bit : (s t : ℕ) (b : Bool) → ltb s t ≡ b → (s ≡ t → ⊥) → 2 ^ s / 2 ^ t % 2 ≡ 0
other_bit s t true l n = ap (λ (q : ℕ). q % 2) (div-eq_of_lt (pow-lt (ltb-true s t l)))
other_bit s t false l n = bit_below s t (lt_of_le-ne (ltb-false s t l) (λ e. n (sym e)))

or_one : (x : ℕ) → x < 2 → bit_or x 1 ≡ 1
or_one zero h = refl
or_one (suc zero) h = refl
or_one (suc (suc x)) h = absurd (omega arith)

by_slot : (m s t : ℕ) (b : Bool) → eqb s t ≡ b →
    eqb (bit_or (m / 2 ^ t % 2) (2 ^ s / 2 ^ t % 2)) 1 ≡ (b || eqb (m / 2 ^ t % 2) 1)
by_slot m s t true e =
    let own : 2 ^ s / 2 ^ t % 2 ≡ 1 = ap (λ (x : ℕ). 2 ^ x / 2 ^ t % 2) (eqb-true s t e) ∙ own_bit t in
    ap (λ (x : ℕ). eqb x 1) (ap (bit_or (m / 2 ^ t % 2)) own ∙ or_one (m / 2 ^ t % 2) (omega arith))
by_slot m s t false e =
    let none : 2 ^ s / 2 ^ t % 2 ≡ 0 = other_bit s t (ltb s t) refl (eqb-false s t e) in
    ap (λ (x : ℕ). eqb x 1) (ap (bit_or (m / 2 ^ t % 2)) none ∙ or_zero_r (m / 2 ^ t % 2))

-- the slot put in is taken, and the others are as they were
pub in_with : (m s t : ℕ) → in_mask (with_slot m s) t ≡ (eqb s t || in_mask m t)
unfolding in_mask with_slot
in_with m s t =
    let bits : bit_or m (2 ^ s) / 2 ^ t % 2 ≡ bit_or (m / 2 ^ t % 2) (2 ^ s / 2 ^ t % 2) =
    ap (λ (x : ℕ). x % 2) (or_shr m (2 ^ s) t) ∙ or_mod (m / 2 ^ t) (2 ^ s / 2 ^ t) 1 in
    ap (λ (x : ℕ). eqb x 1) bits ∙ by_slot m s t (eqb s t) refl

-- ---- the ones

-- a slot below k is one of the k low bits
in_low : (m k t : ℕ) → t < k → in_mask (m % 2 ^ k) t ≡ in_mask m t
unfolding in_mask
in_low m k t h =
    let j : ℕ = k - t - 1 in
    let e : k ≡ (j + 1) + t = omega arith in
    ap (λ (x : ℕ). eqb x 1)
    (ap (λ (x : ℕ). m % 2 ^ x / 2 ^ t % 2) e ∙ ap (λ (x : ℕ). x % 2) (field m (j + 1) t) ∙ mod-mod-pow (m / 2 ^ t) j 1)

ones_bit : (q : ℕ) → q < 2 → ones q ≡ cond (eqb (q % 2) 1) 1 0
unfolding ones
ones_bit zero h = refl
ones_bit (suc zero) h = refl
ones_bit (suc (suc q)) h = absurd (omega arith)

-- the ones of a mask of k slots are its slots, counted
pub ones_count : (k m : ℕ) → m < 2 ^ k → ones m ≡ count k (in_mask m)
unfolding count total in_mask ones
ones_count zero m h = ap ones (lt-one h)
ones_count (suc k) m h =
    let q = m / 2 ^ k in
    let r = m % 2 ^ k in
    let low : r < 2 ^ k = mod-lt m (pow_pos k) in
    let top : q < 2 = shr_lt 1 k (rw (sym (one-add k)) at h) in
    let below : ones r ≡ count k (in_mask m) = ones_count k r low ∙ count_cong k (in_mask r) (in_mask m) (λ t l. in_low m k t l) in
    ap ones (sym (split m k)) ∙ ones_cat k q r low ∙ add_comm (ones q) (ones r)
    ∙ ap₂ (λ (x y : ℕ). x + y) below (ones_bit q top)

-- where the mask holds the slots that pass, its ones are how many pass
pub ones_are : (k m : ℕ) (p : ℕ → Bool) → m < 2 ^ k → ((v : ℕ) → v < k → in_mask m v ≡ p v) → ones m ≡ count k p
ones_are k m p h e = ones_count k m h ∙ count_cong k (in_mask m) p e

-- ---- masks of the same slots

bit_same : (q r : ℕ) → q < 2 → r < 2 → eqb (q % 2) 1 ≡ eqb (r % 2) 1 → q ≡ r
bit_same q r h k e = elim (passed? (eqb (q % 2) 1)) [
  | inl t ↦ let a = eqb-true (q % 2) 1 t in let b = eqb-true (r % 2) 1 (sym e ∙ t) in omega arith
  | inr f ↦ let a = zero_bit q h f in let b = zero_bit r k (sym e ∙ f) in omega arith
]
  where
    zero_bit : (q : ℕ) → q < 2 → eqb (q % 2) 1 ≡ false → q ≡ 0
    zero_bit zero h f = refl
    zero_bit (suc zero) h f = absurd (true≢false f)
    zero_bit (suc (suc q)) h f = absurd (omega arith)

-- two masks of k slots that hold the same slots are one
pub mask_same : (k m n : ℕ) → m < 2 ^ k → n < 2 ^ k → ((v : ℕ) → v < k → in_mask m v ≡ in_mask n v) → m ≡ n
unfolding in_mask
mask_same zero m n h l e = lt-one h ∙ sym (lt-one l)
mask_same (suc k) m n h l e =
    let top : m / 2 ^ k ≡ n / 2 ^ k =
    bit_same (m / 2 ^ k) (n / 2 ^ k) (shr_lt 1 k (rw (sym (one-add k)) at h)) (shr_lt 1 k (rw (sym (one-add k)) at l)) (e k (omega arith)) in
    let low : m % 2 ^ k ≡ n % 2 ^ k =
    mask_same k (m % 2 ^ k) (n % 2 ^ k) (mod-lt m (pow_pos k)) (mod-lt n (pow_pos k)) (λ v b. in_low m k v b ∙ e v (omega arith) ∙ sym (in_low n k v b)) in
    sym (split m k) ∙ ap₂ (λ (x y : ℕ). x * 2 ^ k + y) top low ∙ split n k
