-- `drawing::write_units` meets its contract: each turn lays one unit behind the last. Assumes nothing.
use mathlib.Core.Path.{refl}
use native.Mathlib.Omega.{arith}
use lib.IntN.{nat_abs}
use Rattle.times.specs.Times.{cycles_at}
use Rattle.sheets.specs.Sheet.{sheet_of}
use Rattle.plans.specs.Plan.{unit_bytes}
use Rattle.writing.proofs.RecordLaws.{laid_none, laid_more}
use Rattle.drawing.specs.PlanOf.{plan_unit}
use Rattle.drawing.specs.Laying.{starts_in}
use Rattle.drawing.proofs.UnitLaws.{mask_most, unit_figures}
use Rattle.drawing.proofs.write_units.Goals as goal

pub loop-q-init : goal.loop-q-init
loop-q-init c =
    let b = c.args.sheet.now.b.now in
    laid_none unit_bytes 7 (λ a. refl) (plan_unit (sheet_of b) (starts_in b)) c.args.out.now c.args.at

pub idle_of-idle-requires : goal.idle_of-idle-requires
idle_of-idle-requires c =
    let s = c.args.sheet.now in
    mask_most s.b.now s.head s.fine c.args.occupied c.requires.counted c.loop-q.q

pub loop-q-preserved : goal.loop-q-preserved
loop-q-preserved c =
    let s = c.args.sheet.now in
    let b = s.b.now in
    let l = c.loop-q in
    let unit = c.unit-unit in
    let idle = c.idle_of-idle in
    let lines = c.args.waited.now.lines in
    let is = unit_figures b s.head s.fine c.args.occupied c.requires.counted l.q lines c.requires.longest (omega arith) unit.result unit.ensures idle.result idle.ensures in
    laid_more unit_bytes 7 (λ a. refl) (plan_unit (sheet_of b) (starts_in b)) c.args.out.now c.args.at l.q l.out c.write_unit.new.out
    (record { unit = unit.result; line = nat_abs (cycles_at lines l.q); idle = idle.result }) l.invariant is c.write_unit.ensures
