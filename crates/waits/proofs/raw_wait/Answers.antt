-- `waits::raw_wait` meets its contract: it reads the wire, its two nodes and the unit that the first runs on. Assumes nothing.
use mathlib.Core.Path.{refl, ◌∙◌}
use Rattle.folding.specs.Folding.{raw}
use Rattle.waits.proofs.FineLaws.{fold_so}
use Rattle.waits.proofs.raw_wait.Goals as goal

pub returns : goal.returns
unfolding raw
returns c =
    let s = c.args.sheet.now in
    c.raw.ensures
    ∙ rw (
      fold_so s.b.now s.head s.fine,
      c.unit-unit.ensures,
      c.from-3.ensures,
      c.node-to.ensures.is,
      c.from-2.ensures,
      c.node-from.ensures.is,
      c.from.ensures,
      c.wire-wire.ensures.is,
    ) refl
