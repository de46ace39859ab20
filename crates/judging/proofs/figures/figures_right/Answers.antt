-- `judging::figures::figures_right` meets its contract: the units passed have the right figures. Assumes nothing.
use mathlib.Core.Path.{◌≡◌, refl, sym, ap, ◌∙◌}
use Prim.Native.Nat.{ℕ}
use native.Mathlib.Omega.{arith}
use lib.ListN.{length}
use Rattle.words.specs.Loops.{every}
use Rattle.words.proofs.LoopLaws.{every_more, every_stop}
use Rattle.plans.specs.Plan.{plan_read}
use Rattle.plans.specs.Judging.{figures_right}
use Rattle.plans.proofs.WholeLaws.{units_so}
use Rattle.judging.specs.Answers.{unit_right}
use Rattle.judging.proofs.FigureLaws.{figures_of}
use Rattle.judging.proofs.figures.figures_right.Goals as goal

pub loop-q-init : goal.loop-q-init
unfolding every
loop-q-init c = refl

pub unit_right-requires-clause-unit_figures : goal.unit_right-requires-clause-unit_figures
unit_right-requires-clause-unit_figures c =
    figures_of c.args.plan.now.b.now c.args.plan.now.head c.requires.held c.args.taps c.args.occupied.now c.requires.taps_of c.requires.occupied c.loop-q.q (omega arith)

pub returns-then-not-unit_right : goal.returns-then-not-unit_right
unfolding figures_right
returns-then-not-unit_right c = sym (every_stop _ c.loop-q.q (unit_right (plan_read c.args.plan.now.b.now)) (omega (arith, units_so _ _ c.requires.held.front.whole)) (sym c.unit_right.ensures ∙ c.if-not-unit_right.true))

pub loop-q-preserved : goal.loop-q-preserved
loop-q-preserved c = every_more _ _ c.loop-q.invariant (sym c.unit_right.ensures ∙ c.if-not-unit_right.false)

pub returns : goal.returns
unfolding figures_right
returns c =
    let l = c.loop-q in
    let all : l.q ≡ length (plan_read c.args.plan.now.b.now).units = omega (arith, units_so _ _ c.requires.held.front.whole) in
    sym (ap (λ (n : ℕ). every n (unit_right (plan_read c.args.plan.now.b.now))) (sym all) ∙ l.invariant)
