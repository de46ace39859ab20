-- `drawing::write_units` meets its contract: what its loop keeps.
use mathlib.Core.Path.{◌≡◌}
use Rattle.writing.specs.Laid.{laid}
use Rattle.drawing.specs.Laying.{unit_records}
use Rattle.drawing.proofs.write_units.Given as goal

abbrev pub invariant-loop-q : goal.invariant-loop-q
invariant-loop-q l = l.out ≡ laid l.initial.out l.at (unit_records l.sheet.b.now l.q)
