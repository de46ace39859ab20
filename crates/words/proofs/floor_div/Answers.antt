-- `words::floor_div` meets its contract: −1 − d and its quotient are no further from 0 than d, so each step fits, and the
-- mirrored quotient is the floor. Assumes nothing.
use Rattle.std.proofs.Common.{◌≡◌, pos, negsuc, ◌-ℤ◌, arith, w32, SFits, to_z}
use lib.Signed.{quot_z}
use mir.ValLaws.{to_z-of_z, to_z_pos, sfits_le}
use Rattle.words.specs.Words.{floor}
use Rattle.words.proofs.Ints.{ints, up, down, ltZ_true, ltZ_false}
use Rattle.words.proofs.FloorLaws.{floor_fits, mag_mirror, mag_quot, quot_floor, mirror_floor}
use Rattle.words.proofs.floor_div.Goals as goal
use Rattle.words.proofs.floor_div.Goals.{After-divisor-m, Start}

read : (c : Start) → to_z w32 (mir.Val.of_z w32 c.args.d) ≡ c.args.d
read c = to_z-of_z w32 c.args.d c.ranges.d

whole : (c : After-divisor-m) → to_z w32 c.divisor-m.result ≡ pos c.args.n
whole c = rw c.divisor-m.ensures (to_z_pos w32 c.args.n (omega arith))

mirrored : (c : Start) → SFits w32 (negsuc 0 -ℤ c.args.d)
mirrored c = sfits_le (mag_mirror c.args.d) c.ranges.d

divided : (c : Start) → SFits w32 (quot_z (negsuc 0 -ℤ c.args.d) (pos c.args.n))
divided c = sfits_le (mag_quot (negsuc 0 -ℤ c.args.d) c.args.n) (mirrored c)

floored : (c : Start) → SFits w32 (floor c.args.d c.args.n)
floored c = floor_fits c.args.d c.args.n c.ranges.d

pub returns-then-below : goal.returns-then-below
unfolding up down
returns-then-below c =
    let s = c.before.before in
    let q = quot_z (negsuc 0 -ℤ s.args.d) (pos s.args.n) in
    let less = ltZ_true s.args.d _ (simp (read s) at c.if-below.true) in
    simp (
      read s,
      whole c.before,
      to_z-of_z w32 (negsuc 0 -ℤ s.args.d) (mirrored s),
      to_z-of_z w32 q (divided s),
      mirror_floor s.args.d s.args.n (omega ints),
      to_z-of_z w32 (floor s.args.d s.args.n) (floored s),
    )

pub returns-else-below : goal.returns-else-below
unfolding up down
returns-else-below c =
    let s = c.before.before in
    let more = ltZ_false s.args.d _ (simp (read s) at c.if-below.false) in
    simp (read s, whole c.before, quot_floor s.args.d s.args.n (omega ints), to_z-of_z w32 (floor s.args.d s.args.n) (floored s))
