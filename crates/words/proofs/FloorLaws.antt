-- Laws of the floor: it is the largest q with n q at most z, and what the machine's division and shift give is the floor.
-- Assumes nothing.
use Rattle.std.proofs.Common.{◌≡◌, ℕ, zero, suc, ◌*◌, ◌/◌, ◌<◌, ◌≤◌, ℤ, pos, negsuc, ◌-ℤ◌, ◌*ℤ◌, neg_ℤ, ◌≤ℤ◌, ◌<ℤ◌, refl, ap, ◌∙◌, le_trans, le_refl, lt_of_le_of_lt, mul_comm, div-lt_iff_lt-mul, le-div_iff_mul-le, div-le_self, arith, SFits}
use lib.Signed.{mag, quot_z, shr_z}
use mir.Syntax.{Width}
use Rattle.words.specs.Words.{floor}
use Rattle.words.proofs.FitLaws.{fits, fits_up}
use Rattle.words.proofs.Ints.{up, down, le_up, up_le, lt_up, up_eq, timesℤ, difℤ}

pub floor_up : (n : ℕ) → 0 < n → (q z : ℤ) → (pos n *ℤ q) ≤ℤ z → q ≤ℤ floor z n
unfolding floor up down
floor_up n h (pos q) (pos a) k =
    let k' : n * q ≤ a = omega (arith, le_up k) in
    let d : q ≤ a / n = (le-div_iff_mul-le h).1 (rw mul_comm k') in up_le (omega arith)
floor_up n h (pos q) (negsuc a) k = absurd (omega (arith, le_up k))
floor_up n h (negsuc q) (pos a) k = up_le (omega arith)
floor_up n h (negsuc q) (negsuc a) k =
    let k' : a < suc q * n = omega (arith, le_up k, (timesℤ n (negsuc q)).0, (timesℤ n (negsuc q)).1) in
    let d : a / n < suc q = (div-lt_iff_lt-mul h).1 k' in up_le (omega arith)

pub floor_down : (n : ℕ) → 0 < n → (q z : ℤ) → q ≤ℤ floor z n → (pos n *ℤ q) ≤ℤ z
unfolding floor up down
floor_down n h (pos q) (pos a) k =
    let d : q ≤ a / n = omega (arith, le_up k) in
    let k' : q * n ≤ a = (le-div_iff_mul-le h).0 d in up_le (omega arith)
floor_down n h (pos q) (negsuc a) k = absurd (omega (arith, le_up k))
floor_down n h (negsuc q) (pos a) k = up_le (omega (arith, (timesℤ n (negsuc q)).0, (timesℤ n (negsuc q)).1))
floor_down n h (negsuc q) (negsuc a) k =
    let d : a / n < suc q = omega (arith, le_up k) in
    let k' : a < suc q * n = (div-lt_iff_lt-mul h).0 d in up_le (omega (arith, (timesℤ n (negsuc q)).0, (timesℤ n (negsuc q)).1))

-- the floor is no further from 0 than z is
pub floor_size : (z : ℤ) (n : ℕ) → (up (floor z n) ≤ up z) × (down (floor z n) ≤ down z)
unfolding floor up down
floor_size (pos a) n = (div-le_self a n, omega arith)
floor_size (negsuc a) n = (omega arith, omega (arith, div-le_self a n))

pub floor_fits : {w : Width} (z : ℤ) (n : ℕ) → SFits w z → SFits w (floor z n)
floor_fits {w} z n f =
    let s = floor_size z n in
    let l = fits_up {w = w} z f in
    fits (floor z n) (lt_of_le_of_lt s.0 l.0) (le_trans s.1 l.1)

-- ---- the machine's steps

pub shift_floor : (z : ℤ) (n : ℕ) → shr_z z n ≡ floor z n
unfolding floor
shift_floor (pos a) n = refl
shift_floor (negsuc a) n = refl

-- −1 − z turns 0, 1, 2, .. into −1, −2, −3, .. and back
mirror_pos : (a : ℕ) → negsuc 0 -ℤ pos a ≡ negsuc a
unfolding up down
mirror_pos a = up_eq (omega (arith, difℤ (negsuc 0) (pos a)))

mirror_neg : (a : ℕ) → negsuc 0 -ℤ negsuc a ≡ pos a
unfolding up down
mirror_neg a = up_eq (omega (arith, difℤ (negsuc 0) (negsuc a)))

pub mag_mirror : (z : ℤ) → mag (negsuc 0 -ℤ z) ≤ mag z
mag_mirror (pos a) = rw (mirror_pos a) (le_refl a)
mag_mirror (negsuc a) = rw (mirror_neg a) (le_refl a)

mag_neg : (r a : ℕ) → r ≤ suc a → mag (neg_ℤ (pos r)) ≤ a
mag_neg zero a h = omega arith
mag_neg (suc r) a h = omega arith

pub mag_quot : (z : ℤ) (n : ℕ) → mag (quot_z z (pos n)) ≤ mag z
mag_quot (pos a) n = div-le_self a n
mag_quot (negsuc a) n = mag_neg (suc a / n) a (div-le_self (suc a) n)

pub quot_floor : (z : ℤ) (n : ℕ) → pos 0 ≤ℤ z → quot_z z (pos n) ≡ floor z n
unfolding floor
quot_floor (pos a) n h = refl
quot_floor (negsuc a) n h = absurd h.le

pub mirror_floor : (z : ℤ) (n : ℕ) → z <ℤ pos 0 → negsuc 0 -ℤ quot_z (negsuc 0 -ℤ z) (pos n) ≡ floor z n
unfolding floor up down
mirror_floor (pos a) n h = absurd (omega (arith, lt_up h))
mirror_floor (negsuc a) n h = ap (λ (y : ℤ). negsuc 0 -ℤ quot_z y (pos n)) (mirror_neg a) ∙ mirror_pos (a / n)
