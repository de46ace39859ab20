-- `numerals::Text::signed_field` meets its contract: the name and then the number with its sign. Assumes nothing.
use Rattle.numerals.specs.Numerals.{signed_named}
use Rattle.numerals.proofs.WrittenLaws.{written_then}
use Rattle.numerals.proofs.Text.signed_field.Goals as goal

pub returns : goal.returns
unfolding signed_named
returns c = written_then c.word.ensures (rw c.two_at.ensures at c.signed.ensures)
