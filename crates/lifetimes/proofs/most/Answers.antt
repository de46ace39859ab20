-- `lifetimes::most` meets its contract: the largest so far is kept. Assumes nothing.
use mathlib.Core.Path.{refl}
use native.Mathlib.Numerals.{add-one}
use native.Mathlib.Omega.{arith}
use Rattle.words.specs.Loops.{largest}
use Rattle.lifetimes.proofs.most.Goals as goal

pub loop-t-init : goal.loop-t-init
unfolding largest
loop-t-init c = refl

pub loop-t-preserved : goal.loop-t-preserved
unfolding largest
loop-t-preserved c = rw (add-one c.loop-t.t) (omega (arith, c.max-top.ensures, c.loop-t.invariant))
