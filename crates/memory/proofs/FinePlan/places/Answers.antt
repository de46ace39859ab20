-- `memory::FinePlan::places` meets its contract: a unit has its depth and its line's length. Assumes nothing.
use native.Mathlib.Omega.{arith}
use mathlib.Core.Path.{ap, ◌∙◌}
use mathlib.Core.List.{List}
use Prim.Native.Nat.{ℕ}
use lib.IntN.{pos, nat_abs}
use Rattle.plans.specs.Plan.{unit_in, plan_read}
use Rattle.memory.proofs.FinePlan.places.Goals as goal

pub line-requires : goal.line-requires
line-requires c = rw c.whole.ensures.1 c.requires

pub returns-clause-is : goal.returns-clause-is
returns-clause-is c =
    let line = ap nat_abs (c.line.ensures.is ∙ ap (λ (b : List ℕ). pos (unit_in (plan_read b) c.args.q).line) c.whole.ensures.0) in
    omega (arith, c.places.ensures, c.depth.ensures.is, line)
