-- Words of 32 bits and the graph's arithmetic. Every value is said over ℤ and made a word once, at the end. Assumes nothing.
use Rattle.std.specs.Prelude.{ℕ, suc, ◌-◌, ◌*◌, ◌/◌, ◌%◌, cond, ℤ, pos, negsuc, ◌+ℤ◌, ◌-ℤ◌, ◌*ℤ◌, nat_lt}

-- "Words have 32 bits; a full turn is 2^32."
abbrev pub turn : ℕ
turn = 4294967296

abbrev pub half_turn : ℕ
half_turn = 2147483648

-- the gain of K = 1: "times K, over 32,768"
abbrev pub whole_gain : ℕ
whole_gain = 32768

-- "D/N rounded towards minus infinity. So −1 with N=4 gives −1, −4 gives −1, −5 gives −2, 3 gives 0":
-- −(a + 1) over n is −(a / n + 1)
unfoldable pub floor : ℤ → ℕ → ℤ
floor (pos a) n = pos (a / n)
floor (negsuc a) n = negsuc (a / n)

-- z mod n, never below 0: −(a + 1) mod n is n − 1 − a mod n
unfoldable pub residue : ℤ → ℕ → ℕ
residue (pos a) n = a % n
residue (negsuc a) n = n - suc (a % n)

-- "read as signed", "as two's complement": a number below 2 * half
unfoldable pub signed : ℕ → ℕ → ℤ
signed half a = cond (nat_lt a half) (pos a) (negsuc (2 * half - suc a))

-- "input 0 + input 1, mod 2^32"
unfoldable pub sum : ℕ → ℕ → ℕ
sum a b = residue (pos a +ℤ pos b) turn

-- "input 0 − input 1, mod 2^32"
unfoldable pub difference : ℕ → ℕ → ℕ
difference a b = residue (pos a -ℤ pos b) turn

-- "input read as signed, times K, over 32,768 rounded towards minus infinity, mod 2^32"
unfoldable pub scale : ℤ → ℕ → ℕ
scale k a = residue (floor (signed half_turn a *ℤ k) whole_gain) turn
