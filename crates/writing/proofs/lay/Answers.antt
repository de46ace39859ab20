-- `writing::lay` meets its contract: the part is put back where it was lent. Assumes nothing.
use Rattle.writing.proofs.LaidLaws.{laid_part}
use Rattle.writing.proofs.lay.Goals as goal

pub returns : goal.returns
returns c =
    laid_part c.args.out.now c.args.bytes.now c.copy_from_slice.new.self c.args.at c.requires c.copy_from_slice.ensures.after
