-- Equality and order of two times, the larger and the lesser of them, by their numbers; and the numbers of the constants. Assumes nothing.
use mathlib.Core.Path.{◌≡◌, refl}
use mathlib.Core.Bool.{cond}
use lib.Signed.{le_z, lt_z}
use Prim.Native.Nat.{ℕ}
use native.Mathlib.Omega.{arith}
use lib.Dec.{eqb}
use lib.IntN.{ℤ, pos, negsuc}
use Rattle.std.proofs.Common.{int_eq}
use Rattle.std.proofs.lemmas.Int.{ints}
use Rattle.std.specs.Ordering.{ord_max, ord_min, partial_lt}
use Rattle.times.specs.declared.Cycles.{Cycles}
use Rattle.times.specs.declared.Iterations.{Iterations}
use Rattle.times.specs.declared.TheConstants.Cycles.{ZERO as NO_WAIT}
use Rattle.times.specs.declared.TheConstants.Iterations.{ZERO as FIRST_START}
use Rattle.times.specs.contracts.CyclesOrd.TheImpl as C
use Rattle.times.specs.contracts.CyclesPartialEq.TheImpl as E
use Rattle.times.specs.contracts.IterationsOrd.TheImpl as I
use Rattle.times.specs.contracts.IterationsPartialOrd.TheImpl as P
use Rattle.times.specs.Times.{eqZ}

pub larger_is : (a b : Cycles) → (ord_max C.cmp-value.it a b).0 ≡ cond (le_z a.0 b.0) b.0 a.0
larger_is a b = grind (arith, ints)

pub lesser_is : (a b : Iterations) → (ord_min I.cmp-value.it a b).0 ≡ cond (le_z a.0 b.0) a.0 b.0
lesser_is a b = grind (arith, ints)

-- `<` of two starts
pub less_is : (a b : Iterations) → partial_lt P.partial_cmp-value.it a b ≡ lt_z a.0 b.0
less_is a b = grind (arith, ints)

-- numbers that are not below 0 are equal as natural numbers are
pub equal_pos : (m n : ℕ) → int_eq (pos m) (pos n) ≡ eqb m n
equal_pos m n = grind (arith, ints)

same_numbers : (x y : ℤ) → int_eq x y ≡ eqZ x y
same_numbers (pos m) (pos n) = equal_pos m n
same_numbers (pos m) (negsuc n) = refl
same_numbers (negsuc m) (pos n) = refl
same_numbers (negsuc m) (negsuc n) = grind (arith, ints)

-- `==` of two waits
pub same_is : (a b : Cycles) → E.eq-value.it a b ≡ eqZ a.0 b.0
same_is a b = same_numbers a.0 b.0

pub zero_wait : NO_WAIT.0 ≡ pos 0
zero_wait = refl

pub zero_start : FIRST_START.0 ≡ pos 0
zero_start = refl
