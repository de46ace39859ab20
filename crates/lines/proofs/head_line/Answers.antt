-- `lines::head_line` meets its contract: its fields one after the other are the header's line. Assumes nothing.
use mathlib.Core.Path.{refl}
use borrow.Author.Tests.{leb-true}
use Rattle.lines.specs.Text.{head_line}
use Rattle.numerals.proofs.WrittenLaws.{written_then, written_within}
use Rattle.lines.proofs.head_line.Goals as goal

pub returns : goal.returns
unfolding head_line
returns c =
    written_within 128 (leb-true _ 128 refl)
    (written_then c.byte_field.ensures (written_then c.byte_field-2.ensures (written_then c.byte_field-3.ensures (written_then c.byte_field-4.ensures (written_then c.two_field.ensures (written_then c.byte_field-5.ensures c.line_feed.ensures))))))
