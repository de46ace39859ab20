-- `words::masks::has_slot` meets its contract: the lowest bit of the shifted mask is the slot's. Assumes nothing.
use Rattle.std.proofs.Common.{ℕ, ◌/◌, ◌^◌, eqb, ap}
use lib.Bits.{and_mask}
use Rattle.words.specs.Masks.{in_mask}
use Rattle.words.proofs.masks.has_slot.Goals as goal

pub returns : goal.returns
unfolding in_mask
returns c = ap (λ (n : ℕ). eqb n 1) (and_mask (c.args.mask / 2 ^ c.args.slot) 1)
