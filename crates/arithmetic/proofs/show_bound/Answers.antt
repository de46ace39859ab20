-- `arithmetic::show_bound` meets its contract: a bound of bytes is far from the ends of 32 bits. Assumes nothing.
use Prim.Native.Nat.{ℕ, ◌+◌, ◌*◌, ◌<◌}
use native.Mathlib.Omega.{arith}
use lib.IntN.{pos, ◌-ℤ◌}
use mir.Syntax.{w32}
use mir.Val.{SFits}
use Rattle.words.specs.Words.{floor}
use Rattle.words.proofs.Ints.{up, down}
use Rattle.words.proofs.FitLaws.{fits, dif_size}
use Rattle.words.proofs.FloorLaws.{floor_size}
use Rattle.arithmetic.proofs.show_bound.Goals as goal

-- 0 less a bound of a small raw wait fits
against_zero : (x y : ℕ) → x < 65536 → y < 65536 → SFits w32 (pos 0 -ℤ floor (pos x -ℤ pos y) 4)
unfolding up down
against_zero x y h k =
    let raw = dif_size (pos x) (pos y) in
    let bound = floor_size (pos x -ℤ pos y) 4 in
    let less = dif_size (pos 0) (floor (pos x -ℤ pos y) 4) in
    fits (pos 0 -ℤ floor (pos x -ℤ pos y) 4) (omega (arith, raw, bound, less)) (omega (arith, raw, bound, less))

pub print_bound-requires : goal.print_bound-requires
print_bound-requires g c =
    let a = c.args in
    rw (c.bound.ensures, c.raw-wait.ensures) (against_zero (4 * a.delays + 0) (a.depth + 0) (omega arith) (omega arith))
