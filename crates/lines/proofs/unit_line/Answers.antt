-- `lines::unit_line` meets its contract: its fields one after the other are the unit's line. Assumes nothing.
use mathlib.Core.Path.{refl}
use borrow.Author.Tests.{leb-true}
use Rattle.lines.specs.Text.{unit_line}
use Rattle.numerals.proofs.WrittenLaws.{written_then, written_within}
use Rattle.lines.proofs.unit_line.Goals as goal

pub returns : goal.returns
unfolding unit_line
returns c =
    written_within 128 (leb-true _ 128 refl)
    (written_then c.field.ensures (written_then c.byte_field.ensures (written_then c.byte_field-2.ensures (written_then c.two_field.ensures (written_then c.byte_field-3.ensures c.line_feed.ensures)))))
