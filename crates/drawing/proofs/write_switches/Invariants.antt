-- `drawing::write_switches` meets its contract: what its loop keeps.
use mathlib.Core.Path.{◌≡◌}
use Rattle.writing.specs.Laid.{laid}
use Rattle.drawing.specs.Laying.{switch_records}
use Rattle.drawing.proofs.write_switches.Given as goal

abbrev pub invariant-loop-e : goal.invariant-loop-e
invariant-loop-e l = l.out ≡ laid l.initial.out l.at (switch_records l.sheet.b.now l.e)
