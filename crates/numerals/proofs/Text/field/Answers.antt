-- `numerals::Text::field` meets its contract: the name and then the number. Assumes nothing.
use Rattle.numerals.specs.Numerals.{named}
use Rattle.numerals.proofs.WrittenLaws.{written_then}
use Rattle.numerals.proofs.Text.field.Goals as goal

pub returns : goal.returns
unfolding named
returns c = written_then c.word.ensures c.number.ensures
