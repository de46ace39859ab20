-- `drawing::write_plan` meets its contract: header, units, nodes and switches are laid one behind the other. Assumes nothing.
use native.Mathlib.Omega.{arith}
use Rattle.sheets.specs.Sheet.{sheet_of}
use Rattle.folding.proofs.FoldingLaws.{folds_well}
use Rattle.waits.proofs.FineLaws.{sound_so}
use Rattle.drawing.proofs.UnitLaws.{held_so, slots_counted}
use Rattle.drawing.proofs.WholePlan.{plan_laid}
use Rattle.drawing.proofs.write_plan.Goals as goal

pub invariant_of-slots : goal.invariant_of-slots
invariant_of-slots c =
    let s = c.args.sheet.now in
    record { held = rw (c.whole-whole.ensures.b_is, c.whole-whole.ensures.head_is) (held_so s.b.now s.head s.fine) }

pub write_units-requires-clause-counted : goal.write_units-requires-clause-counted
write_units-requires-clause-counted c =
    let s = c.args.sheet.now in
    slots_counted s.b.now s.head s.fine c.slots-slots.result (rw (c.whole-whole.ensures.b_is, c.whole-whole.ensures.head_is) at c.slots-slots.ensures)

pub returns : goal.returns
returns c =
    let s = c.args.sheet.now in
    let b = s.b.now in
    let is = c.plan_head-plan.ensures in
    let ok = folds_well (sheet_of b) (sound_so b s.head s.fine) c.requires.started.folds in
    plan_laid b s.head s.fine ok c.args.out.now c.registers.result c.args.rounds c.unit_place.result c.node_place.result c.switch_place.result
    c.registers.ensures c.requires.rounds_value c.requires.b_in_bounds (omega (arith, c.unit_place.ensures)) (omega (arith, rw is at c.node_place.ensures)) (omega (arith, rw is at c.switch_place.ensures))
    c.write_header.new.out c.write_units.new.out c.write_nodes.new.out c.write_switches.new.out
    (rw is at c.write_header.ensures) c.write_units.ensures c.write_nodes.ensures c.write_switches.ensures
