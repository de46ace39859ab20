-- `words::scale` meets its contract: the product of a word and K fits 64 bits, and the shift is the floor. Assumes nothing.
use Rattle.std.proofs.Common.{◌≡◌, ◌^◌, ℤ, ◌*ℤ◌, ap, ◌∙◌, arith, lit<, w16, w64, SFits, to_z, of_z}
use mir.Facts.{sfits_widen}
use mir.ValLaws.{to_z-of_z}
use Rattle.words.specs.Words.{turn, half_turn, whole_gain, floor, residue, signed, scale}
use Rattle.words.proofs.FitLaws.{product_fits}
use Rattle.words.proofs.FloorLaws.{floor_fits, shift_floor}
use Rattle.words.proofs.WordLaws.{mag_signed, signed_fits}
use Rattle.words.proofs.scale.Goals as goal
use Rattle.words.proofs.scale.Goals.{After-signed_word, Start}

gain : (c : Start) → to_z w16 (of_z w16 c.args.k) ≡ c.args.k
gain c = to_z-of_z w16 c.args.k c.ranges.k

wide : (c : Start) → SFits w64 c.args.k
wide c = sfits_widen tt c.ranges.k

product : (c : Start) → SFits w64 (signed half_turn c.args.a *ℤ c.args.k)
product c =
    let a = c.args.a in
    product_fits (signed half_turn a) c.args.k half_turn (2 ^ 15) (mag_signed half_turn a (omega arith)) c.ranges.k.sfits (lit< tt)

factors : (c : After-signed_word) →
    to_z w64 (of_z w64 c.signed_word.result) *ℤ to_z w64 (of_z w64 (to_z w16 (of_z w16 c.args.k)))
    ≡ signed half_turn c.args.a *ℤ c.args.k
factors c =
    let s = c.before in
    simp (
      c.signed_word.ensures,
      gain s,
      to_z-of_z w64 s.args.k (wide s),
      to_z-of_z w64 (signed half_turn s.args.a) (signed_fits half_turn s.args.a (omega arith) tt),
    )

pub overflow_mul-product : goal.overflow_mul-product
overflow_mul-product c = rw (factors c) (product c.before)

pub returns : goal.returns
unfolding scale
returns c =
    let s = c.before.before in
    let p = signed half_turn s.args.a *ℤ s.args.k in
    let f : SFits w64 (floor p whole_gain) = floor_fits p whole_gain (product s) in
    c.to_word.ensures
    ∙ ap (λ (z : ℤ). residue z turn)
    (simp (factors c.before, to_z-of_z w64 p (product s), shift_floor p whole_gain, to_z-of_z w64 (floor p whole_gain) f))
