-- Only passes between functions: masks of slots. "A unit's occupied slots are one u32 mask; its ones are counted for the idle figure,
-- clashes found by masks." Assumes nothing.
use Rattle.std.specs.Prelude.{ℕ, ◌/◌, ◌%◌, ◌^◌, Bool, ◌==◌, bit_or}

-- slot s is taken: bit s of m is 1
unfoldable pub in_mask : ℕ → ℕ → Bool
in_mask m s = m / 2 ^ s % 2 == 1

-- m with slot s taken
unfoldable pub with_slot : ℕ → ℕ → ℕ
with_slot m s = bit_or m (2 ^ s)
