-- `memory::FinePlan::depth` meets its contract: the byte is the unit's depth, which is not 0. Assumes nothing.
use native.Mathlib.Omega.{arith}
use Prim.Native.Nat.{ℕ, ◌<◌}
use mathlib.Core.Path.{sym, subst}
use Rattle.plans.proofs.WholeLaws.{unit_inside}
use Rattle.memory.proofs.TakenLaws.{whole_taken, few_units}
use Rattle.memory.proofs.LineLaws.{depth_so}
use Rattle.memory.proofs.FinePlan.depth.Goals as goal

pub unit_place-requires : goal.unit_place-requires
unit_place-requires c = let p = c.args.self.now in omega (arith, few_units p.b.now p.head p.taken)

pub bounds-self-unit_place : goal.bounds-self-unit_place
bounds-self-unit_place c =
    let p = c.args.self.now in
    omega (arith, c.unit_place.ensures, unit_inside p.b.now p.head (whole_taken p.taken) c.args.q c.requires)

pub returns-clause-is : goal.returns-clause-is
returns-clause-is c =
    let p = c.args.self.now in
    rw c.unit_place.ensures (sym (depth_so p.b.now p.head p.taken c.args.q c.requires).0)

pub returns-clause-deep : goal.returns-clause-deep
returns-clause-deep c =
    let p = c.args.self.now in
    let is = depth_so p.b.now p.head p.taken c.args.q c.requires in
    rw c.unit_place.ensures (subst (λ (z : ℕ). 0 < z) is.0 is.1)
