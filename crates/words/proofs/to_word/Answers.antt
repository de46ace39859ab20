-- `words::to_word` meets its contract: the remainder that is never below 0 is the residue. Assumes nothing.
use Rattle.std.proofs.Common.{◌≡◌, ◌∙◌, ℤ, pos, negsuc, nat_abs, ap, arith, refl, w64, SFits}
use mir.ValLaws.{to_z-of_z}
use Rattle.std.specs.Int.{int_rem_euclid}
use Rattle.words.specs.Words.{turn, residue}
use Rattle.words.proofs.to_word.Goals as goal

remains : (z : ℤ) → int_rem_euclid z (pos turn) ≡ pos (residue z turn)
unfolding residue
remains (pos n) = refl
remains (negsuc n) = ap pos (omega arith)

pub returns : goal.returns
returns c =
    let z = c.args.z in
    let r = c.rem_euclid.result in
    let f : SFits w64 r = record { sfits = c.rem_euclid.type_inv } in
    let e : r ≡ pos (residue z turn) = c.rem_euclid.ensures.value ∙ ap (λ (y : ℤ). int_rem_euclid y (pos turn)) (to_z-of_z w64 z c.ranges.z) ∙ remains z in
    ap nat_abs (to_z-of_z w64 r f ∙ e)
