-- `words::signed_word` meets its contract: the signed word fits 64 bits. Assumes nothing.
use Rattle.std.proofs.Common.{SFits, w32, w64}
use mir.Facts.{sfits_widen}
use mir.ValLaws.{to_z-of_z}
use Rattle.words.specs.Words.{signed}
use Rattle.words.proofs.signed_word.Goals as goal

pub returns : goal.returns
unfolding signed
returns c =
    let r = c.cast_signed.result in
    let f : SFits w32 r = record { sfits = c.cast_signed.type_inv } in
    simp (to_z-of_z w32 r f, to_z-of_z w64 r (sfits_widen tt f)) c.cast_signed.ensures
