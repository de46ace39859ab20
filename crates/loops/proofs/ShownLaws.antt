-- The part of a falling walk that closes first, turned to its lowest wire, is a loop. Assumes nothing.
use mathlib.Core.Path.{◌≡◌, refl, ap, subst}
use mathlib.Core.List.{List, ◌∷◌, ◌++◌}
use Rattle.std.specs.Prelude.{nat_lt, true, Option, Some, None, is_some, MatchOption}
use Rattle.std.specs.List.{IsFirstBest}
use Prim.Native.Nat.{ℕ, suc, ◌+◌, ◌-◌, ◌<◌, ◌≤◌}
use native.Mathlib.Numerals.{add-one}
use native.Mathlib.Omega.{arith}
use borrow.Author.Tests.{ltb-false}
use lib.ListN.{length, get_or, take, drop, length-drop}
use lib.Seq.{length-take-le, drop-cons, get_or-take, get_or-drop, split_at}
use Rattle.folding.specs.Walks.{Net, Loop}
use Rattle.folding.proofs.RoundLaws.{Closed}
use Rattle.loops.specs.declared.Span.{Span}
use Rattle.falls.specs.Choices.{Falling}
use Rattle.loops.specs.Shown.{New, FirstMet}
use Rattle.loops.proofs.RingLaws.{atleast_all, Ring, not_all_new, ring_of, turned_loop}

-- a ring turned to its lowest wire
pub record Turned (g : Net) (es : List ℕ) : Type 0 where
  pub first : ℕ
  pub rest : List ℕ
  pub wires : es ≡ first ∷ rest
  pub loop : Loop g first rest

-- the first of the lowest wires is no higher than any
pub least : (es : List ℕ) (low : ℕ) → IsFirstBest nat_lt es (length es) low → (p : ℕ) → p < length es → get_or es low 0 ≤ get_or es p 0
least es low best p h = ltb-false (get_or es p 0) (get_or es low 0) (best.1 p 0 h)

module _ (g : Net) where
  lowest_loop : (es : List ℕ) (low : ℕ) → Ring g es → low < length es → ((p : ℕ) → p < length es → get_or es low 0 ≤ get_or es p 0) →
      Turned g (drop low es ++ take low es)
  lowest_loop es low ring h lowest =
      let a = get_or es low 0 in
      let front = take low es in
      let back = drop (suc low) es in
      let front_long : length front ≡ low = length-take-le low es (omega arith) in
      let back_long = length-drop (suc low) es in
      record {
        first = a;
        rest = back ++ front;
        wires = ap (λ (l : List ℕ). l ++ front) (drop-cons es low 0 h);
        loop = turned_loop g front a back (subst (Ring g) (split_at es low 0 h) ring)
            (atleast_all a front (λ p k. rw (get_or-take low es p 0 (omega arith)) (lowest p (omega arith))))
            (atleast_all a back (λ p k. rw (get_or-drop (suc low) es p 0) (lowest (suc low + p) (omega arith))));
      }

  -- some part closes
  pub some_closes : (cl : Closed g) (es : List ℕ) (falling : Falling g es) (r : Option Span) →
      MatchOption r ((q : ℕ) → q < length es → New g es q) (FirstMet g es) → is_some r ≡ true
  some_closes cl es falling None new = absurd (not_all_new g cl es falling new)
  some_closes cl es falling (Some span) met = refl

  module _ (cl : Closed g) (es : List ℕ) (falling : Falling g es) (span : Span) (met : FirstMet g es span) where
    abbrev ring : List ℕ
    ring = take (span.last + 1 - span.first) (drop span.first es)

    -- the part that closes lies in the walk
    pub record Part : Type 0 where
      pub order : span.first ≤ span.last
      pub inside : span.last < g.nodes
      pub size : length ring ≡ span.last + 1 - span.first

    pub part : Part
    part =
        let h = met.within in
        let order = met.order in
        let rest = length-drop span.first es in
        record { order = order; inside = omega (arith, falling.long); size = length-take-le (span.last + 1 - span.first) (drop span.first es) (omega arith) }

    ring_closes : Ring g ring
    ring_closes =
        rw (add-one span.last)
        (ring_of g cl es falling span.first span.last met.order met.within met.found met.before)

    pub shown_loop : (low : ℕ) → low < length ring → ((p : ℕ) → p < length ring → get_or ring low 0 ≤ get_or ring p 0) →
        Turned g (drop low ring ++ take low ring)
    shown_loop low h lowest = lowest_loop ring low ring_closes h lowest
