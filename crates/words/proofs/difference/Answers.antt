-- `words::difference` meets its contract: the result is a word and with b gives a mod 2^32, and the difference alone does.
-- Assumes nothing.
use Rattle.std.proofs.Common.{arith}
use Rattle.words.proofs.WordLaws.{difference_is}
use Rattle.words.proofs.difference.Goals as goal

pub returns : goal.returns
returns c = difference_is c.args.a c.args.b _ (omega arith) (omega arith) (omega arith)
