-- `numerals::Text::signed` meets its contract: from 2^15 on a sign and what is missing to 2^16. Assumes nothing.
use Rattle.numerals.proofs.NumberLaws.{signed_up, signed_down}
use Rattle.numerals.proofs.Text.signed.Goals as goal

pub returns-then-n-lt32768 : goal.returns-then-n-lt32768
returns-then-n-lt32768 c = signed_up _ c.if-n-lt32768.true c.number.ensures

pub returns : goal.returns
returns c = signed_down _ c.if-n-lt32768.false c.ranges.field.fits c.put.ensures c.number-2.ensures
