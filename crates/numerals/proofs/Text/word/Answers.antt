-- `numerals::Text::word` meets its contract: the bytes passed are laid. Assumes nothing.
use Rattle.numerals.proofs.WrittenLaws.{written_nothing, written_more}
use Rattle.numerals.proofs.Text.word.Goals as goal

pub loop-b-init : goal.loop-b-init
loop-b-init c = written_nothing _

pub loop-b-preserved : goal.loop-b-preserved
loop-b-preserved c = written_more _ c.loop-b-test.true c.loop-b.invariant c.put.ensures
