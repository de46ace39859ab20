-- Wires or switches taken into the masks of inputs fed one by one, and that the masks' test by units is 01's: every input of every
-- node is fed by one. Assumes nothing.
use mathlib.Core.Path.{◌≡◌, refl, sym, ap₂, ◌∙◌}
use mathlib.Core.Bool.{Bool, true, false, ◌&&◌, ◌||◌}
use mathlib.Core.List.{List}
use Prim.Native.Nat.{ℕ, ◌+◌, ◌*◌, ◌<◌}
use native.Mathlib.Numerals.{add-one}
use native.Mathlib.Omega.{arith}
use lib.Dec.{eqb}
use lib.ListN.{length, get_or, length-set}
use borrow.Author.Tests.{eqb-true, eq-eqb}
use Rattle.words.specs.Loops.{every, some_of}
use Rattle.words.proofs.LoopLaws.{bool_ext, and_split, and_join, every_more, every_stop, some_of_cong}
use Rattle.records.specs.declared.Unit.{Unit}
use Rattle.slots.specs.declared.feeding.Input.{Input}
use Rattle.records.specs.Records.{most_units}
use Rattle.slots.specs.Feeding.{most_inputs, InputMasked, mask_of, feeds_in, same_input, none_fed, with_fed, FedOf, unit_fed, units_fed}
use Rattle.slots.specs.declared.feeding.Fed.{Fed}
use Rattle.slots.proofs.TableLaws.{Filled, empty_at, filled_none, filled_met, filled_on}

-- ---- a loop over the units

module _ (unit : ℕ → Unit) (occupied masks : List ℕ) where
  pub units_none : units_fed 0 unit occupied masks ≡ true
  unfolding units_fed every
  units_none = refl

  pub units_more : (q : ℕ) → units_fed q unit occupied masks ≡ true →
      unit_fed (unit q).kind (get_or occupied q 0) (get_or masks (most_inputs * q) 0) (get_or masks (most_inputs * q + 1) 0) ≡ true →
      units_fed (q + 1) unit occupied masks ≡ true
  unfolding units_fed
  units_more q h k = every_more q _ h k

  pub units_stop : (n q : ℕ) → q < n →
      unit_fed (unit q).kind (get_or occupied q 0) (get_or masks (most_inputs * q) 0) (get_or masks (most_inputs * q + 1) 0) ≡ false →
      units_fed n unit occupied masks ≡ false
  unfolding units_fed
  units_stop n q l k = every_stop n q _ l k

-- ---- inputs taken one by one

module _ (to : ℕ → Input) where
  -- what is known after w wires or switches
  pub record Feeding (w : ℕ) (f : Fed) : Type 0 where
    pub twice_is : f.twice ≡ some_of w (λ e. some_of e (λ d. same_input (to d) (to e)))
    pub wide : length f.masks ≡ most_inputs * most_units
    pub by_input : Filled (λ e. true) (λ e. mask_of (to e)) (λ e. (to e).slot) w f.masks

  pub feeding_none : Feeding 0 none_fed
  unfolding some_of
  feeding_none = record { twice_is = refl; wide = refl; by_input = filled_none _ _ _ none_fed.masks (empty_at 16) }

  pub feeding_more : (w : ℕ) (f : Fed) → Feeding w f → InputMasked (to w) → Feeding (w + 1) (with_fed f (to w))
  unfolding some_of
  feeding_more w f h m = record {
    twice_is = ap₂ (λ (a b : Bool). a || b) h.twice_is (sym (filled_met _ _ _ w f.masks h.by_input)) ∙ rw add-one refl;
    wide = simp length-set h.wide;
    by_input = filled_on _ _ _ w f.masks h.by_input (omega (arith, h.wide, m.on_unit, m.one_of)) m.in_turn refl;
  }

  -- a mask's number and slot say which input it is
  input_test : (q v i : ℕ) (t : Input) → t.input < most_inputs → i < most_inputs →
      (eqb (mask_of t) (most_inputs * q + i) && eqb t.slot v) ≡ feeds_in q v i t
  input_test q v i t h l =
      bool_ext _ _
      (λ a. let s = and_split (eqb (mask_of t) (most_inputs * q + i)) (eqb t.slot v) a in
      let e = eqb-true (mask_of t) (most_inputs * q + i) s.0 in
      and_join _ _ (and_join _ _ (eq-eqb t.unit q (omega arith)) s.1) (eq-eqb t.input i (omega arith)))
      (λ a. let s = and_split (eqb t.unit q && eqb t.slot v) (eqb t.input i) a in
      let r = and_split (eqb t.unit q) (eqb t.slot v) s.0 in
      let e = eqb-true t.unit q r.0 in
      let g = eqb-true t.input i s.1 in
      and_join _ _ (eq-eqb (mask_of t) (most_inputs * q + i) (omega arith)) r.1)

  pub feeding_fed : (w : ℕ) (f : Fed) → ((e : ℕ) → e < w → InputMasked (to e)) → Feeding w f → FedOf w to f
  feeding_fed w f m h = record {
    twice_is = h.twice_is;
    fed = λ q v i l. h.by_input.held (most_inputs * q + i) v ∙ some_of_cong w _ _ (λ e k. input_test q v i (to e) (m e k).one_of l);
    small = h.by_input.small;
  }
