-- `judging::figures::unit_right` meets its contract: the two fields are compared with what they must be. Assumes nothing.
use mathlib.Core.Path.{ap₂, ◌∙◌}
use mathlib.Core.Bool.{Bool, ◌&&◌}
use Prim.Native.Nat.{ℕ, ◌-◌}
use native.Mathlib.Omega.{arith}
use lib.Dec.{eqb}
use Rattle.plans.specs.Plan.{plan_read}
use Rattle.plans.proofs.WholeLaws.{folds_so}
use Rattle.judging.proofs.FigureLaws.{ones_most, figures_so}
use Rattle.judging.proofs.figures.unit_right.Goals as goal

pub overflow_sub-idle : goal.overflow_sub-idle
overflow_sub-idle c = omega (arith, c.occupied.ensures, folds_so _ _ c.args.plan.now.whole, ones_most (plan_read c.args.plan.now.b.now) c.args.q c.args.tap.0 c.args.mask c.requires.unit_figures)

pub returns : goal.returns
returns c =
    ap₂ (λ (x : Bool) (k : ℕ). x && eqb c.idle.result (c.args.plan.now.head.fold - k)) c.eq.ensures c.occupied.ensures
    ∙ figures_so _ _ c.args.plan.now.whole c.args.q c.args.tap.0 c.line.result.0 c.args.mask c.idle.result c.requires.unit_figures c.line.ensures.is c.idle.ensures
