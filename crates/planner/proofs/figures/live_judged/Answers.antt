-- `planner::figures::live_judged` meets its contract: the slot's rest and the whole rounds are its live count. Assumes nothing.
use Prim.Native.Nat.{◌<◌}
use mathlib.Core.Path.{sym, ◌∙◌}
use native.Mathlib.Omega.{arith}
use Rattle.std.specs.Prelude.{Some, None}
use Rattle.sheets.specs.Sheet.{sheet_of}
use Rattle.rounds.specs.NetOf.{net_of}
use Rattle.waits.proofs.FineLaws.{fold_so}
use Rattle.lifetimes.proofs.LiveSums.{slot_so, slot_fits}
use Rattle.planner.proofs.FigureLaws.{beyond_none, unfolded_none, live_is}
use Rattle.planner.proofs.NetLaws.{timed_sheet}
use Rattle.planner.specs.Timed.{TimedSheet}
use Rattle.planner.proofs.figures.live_judged.Goals as goal
use Rattle.planner.proofs.figures.live_judged.Goals.{In-Some}

pub returns-then-sheet-slot : goal.returns-then-sheet-slot
returns-then-sheet-slot c =
    let s = c.args.sheet.now in
    beyond_none s.b.now c.args.slot (omega (arith, fold_so s.b.now s.head s.fine))

pub returns-in_default : goal.returns-in_default
returns-in_default c =
    let s = c.args.sheet.now in
    let n = c.net_of-net in
    let timed = timed_sheet s.b.now (net_of n.result) n.ensures.alike None c.in_default.ensures in
    unfolded_none s.b.now c.args.slot s.fine.fine (sym timed.settled)

-- what is known of the sheet's retiming
timed : (c : In-Some) → TimedSheet c.args.sheet.now.b.now (Some c.in-Some.timed)
timed c =
    let n = c.net_of-net in
    timed_sheet c.args.sheet.now.b.now (net_of n.result) n.ensures.alike (Some c.in-Some.timed) c.in-Some.ensures

pub waits-waited-requires : goal.waits-waited-requires
waits-waited-requires c = (timed (goal.at.waits-waited-requires c).In-Some).started

pub live_counts-live-requires : goal.live_counts-live-requires
live_counts-live-requires c =
    record { folds = sym (timed (goal.at.live_counts-live-requires c).In-Some).settled; longest = c.waits-waited.ensures.longest }

pub overflow_add-result : goal.overflow_add-result
overflow_add-result c =
    let s = c.args.sheet.now in
    let live = c.live_counts-live in
    let folds = sym (timed (goal.at.overflow_add-result c).In-Some).settled in
    rw c.from.ensures (omega (arith, slot_fits s.b.now s.head s.fine folds live.result live.ensures c.args.slot (omega (arith, fold_so s.b.now s.head s.fine))))

pub returns : goal.returns
returns c =
    let s = c.args.sheet.now in
    let live = c.live_counts-live in
    let folds = sym (timed (goal.at.returns c).In-Some).settled in
    let turn : c.args.slot < (sheet_of s.b.now).fold = omega (arith, fold_so s.b.now s.head s.fine) in
    rw c.from.ensures (slot_so s.b.now s.head s.fine folds live.result live.ensures c.args.slot turn ∙ live_is s.b.now c.args.slot s.fine.fine folds turn)
