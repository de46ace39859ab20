-- `words::masks::with_slot` meets its contract: the shifted one is 2 ^ slot. Assumes nothing.
use Rattle.words.specs.Masks.{with_slot}
use Rattle.words.proofs.MaskLaws.{shl_one}
use Rattle.words.proofs.masks.with_slot.Goals as goal

pub returns : goal.returns
unfolding with_slot
returns c = rw (shl_one c.args.slot c.requires)
