-- `moving::shift` meets its contract: the part is put back where it was lent. Assumes nothing.
use Rattle.moving.proofs.ShiftLaws.{shifted_part}
use Rattle.moving.proofs.shift.Goals as goal

pub returns : goal.returns
returns c = shifted_part c.args.memory.now c.push.new.line c.args.from c.args.n c.args.x c.requires.1 c.push.ensures
