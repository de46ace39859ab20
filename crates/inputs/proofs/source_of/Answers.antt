-- `inputs::source_of` meets its contract: the byte is the switch's source, which names a unit. Assumes nothing.
use native.Mathlib.Omega.{arith}
use Prim.Native.Nat.{ℕ, ◌<◌}
use mathlib.Core.Path.{sym, subst}
use Rattle.plans.proofs.WholeLaws.{switch_inside}
use Rattle.memory.proofs.TakenLaws.{whole_taken, few_units, few_nodes, few_wires}
use Rattle.inputs.proofs.InputLaws.{source_so}
use Rattle.inputs.proofs.source_of.Goals as goal

pub switch_place-requires : goal.switch_place-requires
switch_place-requires c = let p = c.args.plan.now in omega (arith, few_wires p.b.now p.head p.taken)

pub overflow_add-switch_place : goal.overflow_add-switch_place
overflow_add-switch_place c =
    let p = c.args.plan.now in
    omega (arith, c.switch_place.ensures, few_units p.b.now p.head p.taken, few_nodes p.b.now p.head p.taken, few_wires p.b.now p.head p.taken)

pub bounds-plan-switch_place : goal.bounds-plan-switch_place
bounds-plan-switch_place c =
    let p = c.args.plan.now in
    omega (arith, c.switch_place.ensures, switch_inside p.b.now p.head (whole_taken p.taken) c.args.e c.requires)

pub returns : goal.returns
returns c =
    let p = c.args.plan.now in
    let is = source_so p.b.now p.head p.taken c.args.e c.requires in
    rw (c.from.ensures, c.switch_place.ensures) (sym is.0, subst (λ (z : ℕ). z < p.head.units) is.0 is.1)
