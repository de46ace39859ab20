-- `words::to_bytes16` meets its contract: the bits of a number that 16 bits hold are its residue. Assumes nothing.
use Rattle.std.proofs.Common.{◌≡◌, ◌∙◌, ◌<◌, ℤ, pos, negsuc, ap, arith, w16, of_z}
use lib.Signed.{mag}
use mir.ValLaws.{to_z-of_z}
use Rattle.words.specs.Words.{residue}
use Rattle.words.proofs.to_bytes16.Goals as goal

bits : (k : ℤ) → mag k < 32768 → of_z w16 k ≡ residue k 65536
unfolding residue
bits (pos n) h = omega arith
bits (negsuc n) h = omega arith

pub returns : goal.returns
returns c =
    c.cast_unsigned.ensures ∙ ap (of_z w16) (to_z-of_z w16 c.args.k c.ranges.k) ∙ bits c.args.k c.ranges.k.sfits
