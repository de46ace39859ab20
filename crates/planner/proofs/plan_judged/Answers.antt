-- `planner::plan_judged` meets its contract: a short buffer, then a loop, then the plan. Assumes nothing.
use mathlib.Core.Path.{◌≡◌, sym, ◌∙◌, subst}
use mathlib.Core.List.{List}
use Prim.Native.Nat.{ℕ}
use native.Mathlib.Omega.{arith}
use Rattle.std.specs.Prelude.{Some, None}
use Rattle.drawing.specs.PlanOf.{plan_length}
use Rattle.drawing.proofs.WholePlan.{room_so}
use Rattle.rounds.specs.NetOf.{net_of}
use Rattle.planner.specs.Timed.{OfSheet}
use Rattle.planner.proofs.AnswerLaws.{planning_short, planning_loop, planning_done}
use Rattle.planner.proofs.NetLaws.{timed_sheet}
use Rattle.planner.proofs.plan_judged.Goals as goal
use Rattle.planner.proofs.plan_judged.Goals.{After-switch_place-size}

-- the size is the plan's length
sized : (c : After-switch_place-size) → c.switch_place-size.result ≡ plan_length c.args.sheet.now.b.now
sized c =
    let s = c.args.sheet.now in
    rw (c.plan_head.ensures, c.from.ensures) at c.switch_place-size.ensures ∙ sym (room_so s.b.now s.head s.fine)

pub returns-then-out-size : goal.returns-then-out-size
returns-then-out-size c =
    let s = c.args.sheet.now in
    planning_short s.b.now c.args.out.now s.fine.fine c.switch_place-size.result (sized (goal.at.returns-then-out-size c).After-switch_place-size) c.if-out-size.true

pub show_loop-requires : goal.show_loop-requires
show_loop-requires c =
    let s = c.args.sheet.now in
    let n = c.net_of-net in
    let here = n.ensures.over_them in
    let timed = timed_sheet s.b.now (net_of n.result) n.ensures.alike None c.in_default.ensures in
    let room = sized (goal.at.show_loop-requires c).After-switch_place-size in
    record { of_sheet = subst (λ (x : List ℕ). OfSheet x n.result) (sym here) n.ensures; does_not_fold = rw here (sym timed.settled); b_in_bounds = rw here (omega (arith, room)) }

pub returns-in_default : goal.returns-in_default
returns-in_default c =
    let s = c.args.sheet.now in
    let n = c.net_of-net in
    let shown = c.show_loop in
    let timed = timed_sheet s.b.now (net_of n.result) n.ensures.alike None c.in_default.ensures in
    let room = sized (goal.at.returns-in_default c).After-switch_place-size in
    planning_loop s.b.now c.args.out.now s.fine.fine (omega (arith, room)) (sym timed.settled) shown.result _ (rw n.ensures.over_them at shown.ensures)

pub write_plan-requires : goal.write_plan-requires
write_plan-requires c =
    let s = c.args.sheet.now in
    let n = c.net_of-net in
    let timed = timed_sheet s.b.now (net_of n.result) n.ensures.alike (Some c.in-Some.timed) c.in-Some.ensures in
    let room = sized (goal.at.write_plan-requires c).After-switch_place-size in
    record { started = timed.started; rounds_value = timed.rounds; b_in_bounds = omega (arith, room) }

pub returns : goal.returns
returns c =
    let s = c.args.sheet.now in
    let n = c.net_of-net in
    let timed = timed_sheet s.b.now (net_of n.result) n.ensures.alike (Some c.in-Some.timed) c.in-Some.ensures in
    let size = sized (goal.at.returns c).After-switch_place-size in
    planning_done s.b.now c.args.out.now s.fine.fine (omega (arith, size)) (sym timed.settled) c.switch_place-size.result size _ c.write_plan.ensures
