-- `moving::leave` meets its contract: place P − 1 of each unit goes to the head of the output. Assumes nothing.
use Prim.Native.Nat.{ℕ, ◌+◌, ◌-◌, ◌<◌}
use mathlib.Core.Path.{refl, ap}
use native.Mathlib.Omega.{arith}
use lib.ListN.{length, get_or, length-set}
use Rattle.records.specs.Records.{at}
use Rattle.plans.specs.Plan.{plan_read}
use Rattle.memory.specs.Memory.{reading}
use Rattle.plans.proofs.WholeLaws.{units_so}
use Rattle.memory.proofs.TakenLaws.{whole_taken, few_units}
use Rattle.moving.proofs.MovingLaws.{head_none, head_more, head_leaving, last_place}
use Rattle.moving.proofs.leave.Goals as goal
use Rattle.moving.proofs.leave.Goals.{After-depth}

pub loop-q-init : goal.loop-q-init
loop-q-init c = (head_none (λ q. reading (plan_read c.args.lines.now.plan.b.now) c.args.memory.now q 0) c.args.out.now, refl)

pub bounds-lines-q : goal.bounds-lines-q
bounds-lines-q c = let p = c.args.lines.now.plan in omega (arith, few_units p.b.now p.head p.taken)

-- the place that leaves lies in the memory
inside : (c : After-depth) → get_or c.args.lines.now.at c.loop-q.q 0 + (c.depth.result - 1) < length c.args.memory.now
inside c =
    let lines = c.args.lines.now in
    let p = lines.plan in
    let place = last_place p.b.now p.head p.taken lines.at lines.placed c.loop-q.q c.depth.result (omega arith) c.depth.ensures.is in
    omega (arith, place.1, c.requires.room, lines.long)

pub overflow_add-out : goal.overflow_add-out
overflow_add-out c = omega (arith, inside (goal.at.overflow_add-out c).After-depth)

pub offset_bounds-memory-from : goal.offset_bounds-memory-from
offset_bounds-memory-from c = omega (arith, inside (goal.at.offset_bounds-memory-from c).After-depth)

pub bounds-memory-from : goal.bounds-memory-from
bounds-memory-from c = omega (arith, inside (goal.at.bounds-memory-from c).After-depth)

pub loop-q-preserved : goal.loop-q-preserved
loop-q-preserved c =
    let l = c.loop-q in
    let lines = c.args.lines.now in
    let p = lines.plan in
    let place = last_place p.b.now p.head p.taken lines.at lines.placed l.q c.depth.result (omega arith) c.depth.ensures.is in
    let f : ℕ → ℕ = λ q. reading (plan_read p.b.now) c.args.memory.now q 0 in
    (head_more l.q f c.args.out.now l.out _ (omega arith) l.invariant.0 (ap (at c.args.memory.now) place.0), simp length-set l.invariant.1)

pub returns : goal.returns
returns c =
    let l = c.loop-q in
    let p = c.args.lines.now.plan in
    head_leaving (plan_read p.b.now) c.args.memory.now c.args.out.now l.out l.q (omega (arith, l.auto.q-end, c.loop-q-test.false, units_so p.b.now p.head (whole_taken p.taken))) l.invariant.0
