-- `moving::advance` meets its contract: the first q units have moved. Assumes nothing.
use mathlib.Core.Path.{refl, ◌∙◌}
use Prim.Native.Nat.{◌<◌, ◌≤◌}
use native.Mathlib.Omega.{arith}
use lib.ListN.{length, get_or}
use Rattle.plans.specs.Plan.{plan_read}
use Rattle.memory.specs.Memory.{size}
use Rattle.plans.proofs.WholeLaws.{units_so}
use Rattle.memory.proofs.TakenLaws.{whole_taken, few_units}
use Rattle.moving.proofs.MovingLaws.{moved_none, moved_more, moved_all, line_inside}
use Rattle.moving.proofs.advance.Goals as goal
use Rattle.moving.proofs.advance.Goals.{Start}

-- the plan's words have room in the memory
room : (c : Start) → size (plan_read c.args.lines.now.plan.b.now) ≤ length c.args.memory.now
room c = omega (arith, c.args.lines.now.long, c.requires.room)

pub loop-q-init : goal.loop-q-init
loop-q-init c = (moved_none (plan_read c.args.lines.now.plan.b.now) c.args.memory.now c.args.results.now (room (goal.at.loop-q-init c).Start), refl)

pub bounds-lines-q : goal.bounds-lines-q
bounds-lines-q c = let p = c.args.lines.now.plan in omega (arith, few_units p.b.now p.head p.taken)

pub shift-requires : goal.shift-requires
shift-requires c =
    let l = c.loop-q in
    let lines = c.args.lines.now in
    let p = lines.plan in
    let inside = line_inside p.b.now p.head p.taken lines.at lines.placed l.q c.places-n.result (omega arith) c.places-n.ensures.is in
    (inside.0, omega (arith, inside.1, room (goal.at.shift-requires c).Start, l.invariant.1))

pub loop-q-preserved : goal.loop-q-preserved
loop-q-preserved c =
    let l = c.loop-q in
    let lines = c.args.lines.now in
    let p = lines.plan in
    let has : l.q < length (plan_read p.b.now).units = omega (arith, c.loop-q-test.true, units_so p.b.now p.head (whole_taken p.taken)) in
    let more = moved_more (plan_read p.b.now) c.args.memory.now c.args.results.now (room (goal.at.loop-q-preserved c).Start) l.q has
    l.memory (get_or lines.at l.q 0) c.places-n.result (get_or c.args.results.now l.q 0) l.invariant.0 (lines.placed l.q has) c.places-n.ensures.is refl in
    (c.shift.ensures ∙ more, c.shift.auto.memory ∙ l.invariant.1)

pub returns : goal.returns
returns c =
    let l = c.loop-q in
    let p = c.args.lines.now.plan in
    moved_all (plan_read p.b.now) c.args.memory.now c.args.results.now (room (goal.at.returns c).Start) l.q l.memory
    (omega (arith, l.auto.q-end, c.loop-q-test.false, units_so p.b.now p.head (whole_taken p.taken))) l.invariant.0
