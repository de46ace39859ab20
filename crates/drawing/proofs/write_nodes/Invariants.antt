-- `drawing::write_nodes` meets its contract: what its loop keeps.
use mathlib.Core.Path.{◌≡◌}
use Rattle.writing.specs.Laid.{laid}
use Rattle.drawing.specs.Laying.{node_records}
use Rattle.drawing.proofs.write_nodes.Given as goal

abbrev pub invariant-loop-x : goal.invariant-loop-x
invariant-loop-x l = l.out ≡ laid l.initial.out l.at (node_records l.sheet.b.now l.x)
