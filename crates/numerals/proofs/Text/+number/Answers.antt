-- `numerals::Text::number` meets its contract: the tenth's digits, then the last one. Assumes nothing.
use Rattle.std.proofs.Common.{arith}
use Rattle.numerals.proofs.DigitLaws.{decimal_tenth}
use Rattle.numerals.proofs.NumberLaws.{number_one, number_more}
use Rattle.numerals.proofs.Text.+number.Goals as goal

pub returns-then-n-lt10 : goal.returns-then-n-lt10
returns-then-n-lt10 t c = number_one _ c.if-n-lt10.true c.put.ensures

pub put-requires-2 : goal.put-requires-2
put-requires-2 t c =
    omega (arith, c.number.ensures.wrote.next_is, c.requires, decimal_tenth c.args.n c.if-n-lt10.false c.ranges.n.fits)

pub returns : goal.returns
returns t c = number_more _ c.if-n-lt10.false c.ranges.n.fits c.number.ensures c.put-2.ensures
