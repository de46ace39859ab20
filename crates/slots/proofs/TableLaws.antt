-- A table of masks filled entry by entry: entry x, where it counts, puts slot x into mask number `line x`. Nodes fill the masks of
-- occupied slots and of channels so, and wires or switches the masks of inputs fed. Assumes nothing.
use mathlib.Core.Path.{◌≡◌, refl, sym, ap, ◌∙◌}
use mathlib.Core.Bool.{Bool, true, false, ◌&&◌, ◌||◌, or_comm, or-false}
use mathlib.Core.List.{List}
use Prim.Native.Nat.{ℕ, zero, suc, ◌+◌, ◌^◌, ◌<◌}
use native.Mathlib.Numerals.{add-one}
use native.Mathlib.Omega.{arith}
use lib.Dec.{eqb}
use lib.ListN.{length, get_or, set, replicate}
use lib.Seq.{get_or-set_same, get_or-set_other}
use borrow.Author.Tests.{eqb-true, eqb-false}
use Rattle.words.specs.Loops.{some_of}
use Rattle.words.specs.Masks.{in_mask, with_slot}
use Rattle.words.proofs.LoopLaws.{some_of_cong, some_and}
use Rattle.words.proofs.MaskLaws.{in_none, in_with, with_below}

pub empty_at : (n q : ℕ) → ◌≡◌ {A = ℕ} (get_or (replicate n 0) q 0) 0
empty_at zero q = refl
empty_at (suc n) zero = refl
empty_at (suc n) (suc q) = empty_at n q

module _ (on : ℕ → Bool) (line slot : ℕ → ℕ) where
  -- after n entries
  pub record Filled (n : ℕ) (masks : List ℕ) : Type 0 where
    pub held : (q v : ℕ) → in_mask (get_or masks q 0) v ≡ some_of n (λ x. on x && (eqb (line x) q && eqb (slot x) v))
    pub small : (q : ℕ) → get_or masks q 0 < 2 ^ 32

  pub filled_none : (masks : List ℕ) → ((q : ℕ) → get_or masks q 0 ≡ 0) → Filled 0 masks
  unfolding some_of
  filled_none masks e = record {
    held = λ q v. ap (λ (m : ℕ). in_mask m v) (e q) ∙ in_none v;
    small = λ q. rw (e q) (omega arith);
  }

  -- the next entry's slot is taken where an earlier entry has it
  pub filled_met : (n : ℕ) (masks : List ℕ) → Filled n masks →
      some_of n (λ x. (on x && on n) && (eqb (line x) (line n) && eqb (slot x) (slot n))) ≡ (on n && in_mask (get_or masks (line n) 0) (slot n))
  filled_met n masks f =
      some_of_cong n _ _ (λ x l. turned (on x) (on n) (eqb (line x) (line n) && eqb (slot x) (slot n)))
      ∙ some_and n (on n) (λ x. on x && (eqb (line x) (line n) && eqb (slot x) (slot n)))
      ∙ ap (λ (b : Bool). on n && b) (sym (f.held (line n) (slot n)))
    where
      turned : (a b c : Bool) → ((a && b) && c) ≡ (b && (a && c))
      turned true true c = refl
      turned true false c = refl
      turned false true c = refl
      turned false false c = refl

  -- one entry more
  more : ℕ → List ℕ → List ℕ
  more n masks = set masks (line n) (with_slot (get_or masks (line n) 0) (slot n))

  module _ (n : ℕ) (masks : List ℕ) (f : Filled n masks) (fits : line n < length masks) (room : slot n < 32) where
    counted : (q v : ℕ) (same : Bool) → eqb (line n) q ≡ same →
        in_mask (get_or (more n masks) q 0) v ≡ (some_of n (λ x. on x && (eqb (line x) q && eqb (slot x) v)) || (same && eqb (slot n) v))
    unfolding more
    counted q v true e =
        let e' = eqb-true (line n) q e in
        rw (← e', get_or-set_same masks (line n) (with_slot (get_or masks (line n) 0) (slot n)) 0 fits, in_with, f.held (line n) v) (or_comm (eqb (slot n) v) _)
    counted q v false e =
        rw (get_or-set_other masks (line n) q (with_slot (get_or masks (line n) 0) (slot n)) 0 (λ h. eqb-false (line n) q e (sym h)), f.held q v) (sym (or-false _))

    below : (q : ℕ) (same : Bool) → eqb (line n) q ≡ same → get_or (more n masks) q 0 < 2 ^ 32
    unfolding more
    below q true e =
        let e' = eqb-true (line n) q e in
        rw (← e', get_or-set_same masks (line n) (with_slot (get_or masks (line n) 0) (slot n)) 0 fits) (with_below 32 (get_or masks (line n) 0) (slot n) (f.small (line n)) room)
    below q false e =
        rw (get_or-set_other masks (line n) q (with_slot (get_or masks (line n) 0) (slot n)) 0 (λ h. eqb-false (line n) q e (sym h))) (f.small q)

    pub filled_on : on n ≡ true → Filled (n + 1) (set masks (line n) (with_slot (get_or masks (line n) 0) (slot n)))
    unfolding more some_of
    filled_on e = record {
      held = λ q v. counted q v (eqb (line n) q) refl ∙ rw (add-one, e) refl;
      small = λ q. below q (eqb (line n) q) refl;
    }

  pub filled_off : (n : ℕ) (masks : List ℕ) → Filled n masks → on n ≡ false → Filled (n + 1) masks
  unfolding some_of
  filled_off n masks f e = record {
    held = λ q v. f.held q v ∙ rw (add-one, e) (sym (or-false _));
    small = f.small;
  }
