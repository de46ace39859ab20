-- `memory::FinePlan::lines` meets its contract: unit q begins where the units before it end. Assumes nothing.
use Prim.Native.Nat.{ℕ, suc}
use mathlib.Core.Path.{◌≡◌, refl, ap, ◌∙◌}
use native.Mathlib.Omega.{arith}
use lib.ListN.{length, length-set}
use Rattle.plans.specs.Plan.{plan_read}
use Rattle.memory.specs.Memory.{base, size}
use Rattle.plans.proofs.WholeLaws.{units_so}
use Rattle.memory.proofs.TakenLaws.{whole_taken, few_units}
use Rattle.memory.proofs.LineLaws.{lines_more}
use Rattle.memory.proofs.FinePlan.lines.Goals as goal

pub loop-q-init : goal.loop-q-init
unfolding base
loop-q-init c = (refl, (λ k h. absurd (omega arith)), omega arith, refl)

pub bounds-at-q : goal.bounds-at-q
bounds-at-q c = let p = c.args.self.now in omega (arith, few_units p.b.now p.head p.taken, c.loop-q-test.true)

pub loop-q-preserved : goal.loop-q-preserved
loop-q-preserved c =
    let p = c.args.self.now in
    let l = c.loop-q in
    let n = c.places-words in
    let more = lines_more p.b.now p.head p.taken l.q (omega arith) l.words n.result l.at l.invariant.3 l.invariant.0 n.ensures.is l.invariant.1 in
    (more.0, more.1, omega (arith, n.ensures.few, l.invariant.2), simp length-set l.invariant.3)

pub invariant_of-result : goal.invariant_of-result
unfolding size
invariant_of-result c =
    let p = c.args.self.now in
    let l = c.loop-q in
    let all : l.q ≡ length (plan_read p.b.now).units = omega (arith, l.auto.q-end, c.loop-q-test.false, c.from-q-end.ensures, units_so p.b.now p.head (whole_taken p.taken)) in
    record { placed = λ q h. l.invariant.1 q (omega arith); long = l.invariant.0 ∙ ap (λ (n : ℕ). suc (base (plan_read p.b.now) n)) all }
