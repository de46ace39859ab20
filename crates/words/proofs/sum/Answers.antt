-- `words::sum` meets its contract: a sum that wraps is the sum mod 2^32. Assumes nothing.
use Rattle.std.proofs.Common.{refl}
use Rattle.words.specs.Words.{sum, residue}
use Rattle.words.proofs.sum.Goals as goal

pub returns : goal.returns
unfolding sum residue
returns c = refl
