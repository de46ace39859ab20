-- `lines::node_line` meets its contract: its fields one after the other are the node's line. Assumes nothing.
use mathlib.Core.Path.{refl}
use borrow.Author.Tests.{leb-true}
use Rattle.lines.specs.Text.{node_line}
use Rattle.numerals.proofs.WrittenLaws.{written_then, written_within}
use Rattle.lines.proofs.node_line.Goals as goal

pub returns : goal.returns
unfolding node_line
returns c =
    written_within 128 (leb-true _ 128 refl)
    (written_then c.field.ensures (written_then c.byte_field.ensures (written_then c.byte_field-2.ensures (written_then c.byte_field-3.ensures (written_then c.signed_field.ensures (written_then c.two_field.ensures c.line_feed.ensures))))))
