-- `text::refusals::refused_line` meets its contract: the number and the line feed. Assumes nothing.
use mathlib.Core.Path.{refl}
use borrow.Author.Rules.{rules}
use borrow.Author.Tests.{leb-true}
use Rattle.numerals.proofs.WrittenLaws.{written_then, written_within, written_out}
use Rattle.lines.specs.Text.{refused_text}
use Rattle.text.proofs.refusals.refused_line.Goals as goal

pub returns : goal.returns
unfolding refused_text
returns c =
    written_out c.new-text.ensures.begins (search rules) (written_within 128 (leb-true _ 128 refl) (written_then c.field.ensures c.line_feed.ensures))
