-- Laws of words: a residue is below its modulus, so every value of the graph is a word; two's complement there and back.
-- Assumes nothing.
use Rattle.std.proofs.Common.{◌≡◌, ℕ, suc, ◌+◌, ◌-◌, ◌*◌, ◌%◌, ◌^◌, ◌<◌, T, ltb, leb, ℤ, pos, negsuc, ◌+ℤ◌, ◌-ℤ◌, ◌*ℤ◌, refl, ap, inl, inr, lt_of_lt_of_le, mod-lt, mod-eq_of_lt, arith, lit<, leb→le, SFits, ltb-false, ltb-true, le-ltb, lt-ltb}
use lib.Signed.{mag}
use mir.Syntax.{Width}
use mir.Val.{hbits}
use Rattle.words.specs.Words.{turn, half_turn, whole_gain, floor, residue, signed, sum, difference, scale}
use Rattle.words.proofs.Ints.{up, down, difℤ}
use Rattle.words.proofs.LoopLaws.{passed?}

-- ---- residues

pub residue_below : (z : ℤ) (n : ℕ) → 0 < n → residue z n < n
unfolding residue
residue_below (pos a) n h = mod-lt a h
residue_below (negsuc a) n h = omega arith

-- ---- two's complement

pub mag_signed : (half a : ℕ) → a < 2 * half → mag (signed half a) < half
unfolding signed
mag_signed half a h = elim (passed? (ltb a half)) [
  | inl t ↦ rw t (ltb-true a half t)
  | inr f ↦ rw f (let l = ltb-false a half f in omega arith)
]

pub signed_fits : {w : Width} (half a : ℕ) → a < 2 * half → T (leb half (2 ^ hbits w)) → SFits w (signed half a)
signed_fits {w} half a h t =
    record { sfits = lt_of_lt_of_le (mag_signed half a h) (leb→le half (2 ^ hbits w) t) }

pub signed_residue : (half : ℕ) (k : ℤ) → mag k < half → signed half (residue k (2 * half)) ≡ k
unfolding signed residue
signed_residue half (pos n) h =
    rw (mod-eq_of_lt (let q : n < 2 * half = omega arith in q), lt-ltb n half h) refl
signed_residue half (negsuc n) h =
    let e : n % (2 * half) ≡ n = mod-eq_of_lt (let q : n < 2 * half = omega arith in q) in
    rw (e, le-ltb (2 * half - suc n) half (omega arith)) (ap negsuc (omega arith))

pub residue_signed : (half a : ℕ) → a < 2 * half → residue (signed half a) (2 * half) ≡ a
unfolding signed residue
residue_signed half a h = elim (passed? (ltb a half)) [
  | inl t ↦ rw t (mod-eq_of_lt h)
  | inr f ↦
      let l = ltb-false a half f in
      let q : 2 * half - suc a < 2 * half = omega arith in
      let e : (2 * half - suc a) % (2 * half) ≡ 2 * half - suc a = mod-eq_of_lt q in
      rw (f, e) (omega arith)
]

-- ---- the graph's values are words

turn_pos : 0 < turn
turn_pos = lit< tt

pub sum_below : (a b : ℕ) → sum a b < turn
unfolding sum
sum_below a b = residue_below (pos a +ℤ pos b) turn turn_pos

pub difference_below : (a b : ℕ) → difference a b < turn
unfolding difference
difference_below a b = residue_below (pos a -ℤ pos b) turn turn_pos

pub scale_below : (k : ℤ) (a : ℕ) → scale k a < turn
unfolding scale
scale_below k a = residue_below (floor (signed half_turn a *ℤ k) whole_gain) turn turn_pos

-- the word that makes b a is their difference
pub difference_is : (a b r : ℕ) → r < turn → b < turn → (r + b) % turn ≡ a → r ≡ difference a b
unfolding difference residue up down
difference_is a b r hr hb e = by_sign (pos a -ℤ pos b) (difℤ (pos a) (pos b))
  where
    by_sign : (z : ℤ) → up z + (0 + b) ≡ down z + (a + 0) → r ≡ residue z turn
    by_sign (pos d) k = omega arith
    by_sign (negsuc d) k = omega arith
