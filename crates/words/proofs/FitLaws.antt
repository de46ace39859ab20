-- When a whole number fits a signed width, over the width: by its ups and downs, so that omega shows it. Assumes nothing.
use Rattle.std.proofs.Common.{◌≡◌, ℕ, zero, suc, ◌+◌, ◌*◌, ◌^◌, ◌<◌, ◌≤◌, ℤ, pos, negsuc, ◌+ℤ◌, ◌-ℤ◌, ◌*ℤ◌, neg_ℤ, nat_abs, refl, le_trans, lt_of_le_of_lt, mul-le-mul, arith, SFits}
use lib.Signed.{mag, nat_abs-le}
use mir.Syntax.{Width}
use mir.Val.{hbits}
use Rattle.words.proofs.Ints.{up, down, sumℤ, difℤ}

pub fits : {w : Width} (z : ℤ) → up z < 2 ^ hbits w → down z ≤ 2 ^ hbits w → SFits w z
unfolding up down
fits (pos n) h k = record { sfits = h }
fits (negsuc n) h k = record { sfits = k }

pub fits_up : {w : Width} (z : ℤ) → SFits w z → (up z < 2 ^ hbits w) × (down z ≤ 2 ^ hbits w)
unfolding up down
fits_up (pos n) f = (f.sfits, omega arith)
fits_up {w} (negsuc n) f = (omega (arith, f.sfits), f.sfits)

-- of up and down one is 0
one_side : (z : ℤ) (m n : ℕ) → up z + n ≡ down z + m → (up z ≤ m) × (down z ≤ n)
unfolding up down
one_side (pos a) m n e = (omega arith, omega arith)
one_side (negsuc a) m n e = (omega arith, omega arith)

pub sum_size : (a b : ℤ) → (up (a +ℤ b) ≤ up a + up b) × (down (a +ℤ b) ≤ down a + down b)
sum_size a b = one_side (a +ℤ b) (up a + up b) (down a + down b) (sumℤ a b)

pub dif_size : (a b : ℤ) → (up (a -ℤ b) ≤ up a + down b) × (down (a -ℤ b) ≤ down a + up b)
dif_size a b = one_side (a -ℤ b) (up a + down b) (down a + up b) (difℤ a b)

-- ---- products

abs_neg : (n : ℕ) → nat_abs (neg_ℤ (pos n)) ≡ n
abs_neg zero = refl
abs_neg (suc n) = refl

abs_times : (a b : ℤ) → nat_abs (a *ℤ b) ≡ nat_abs a * nat_abs b
abs_times (pos a) (pos b) = refl
abs_times (pos a) (negsuc b) = abs_neg (a * suc b)
abs_times (negsuc a) (pos b) = abs_neg (suc a * b)
abs_times (negsuc a) (negsuc b) = refl

mag_abs : (z : ℤ) → mag z ≤ nat_abs z
mag_abs (pos a) = omega arith
mag_abs (negsuc a) = omega arith

-- a product fits where the product of the factors' limits does
pub product_fits : {w : Width} (a b : ℤ) (m n : ℕ) → mag a < m → mag b < n → m * n < 2 ^ hbits w →
    SFits w (a *ℤ b)
product_fits a b m n ha hb h =
    let l : nat_abs a * nat_abs b ≤ m * n = mul-le-mul (nat_abs-le a ha) (nat_abs-le b hb) in
    record { sfits = lt_of_le_of_lt (le_trans (mag_abs (a *ℤ b)) (rw (abs_times a b) l)) h }
