-- `numerals::Text::number` meets its contract: the measure is the number, which its tenth is below. Assumes nothing.
use Rattle.numerals.proofs.Text.+number.Given as goal

abbrev pub decreases-number : goal.decreases-number
decreases-number l = l.n
