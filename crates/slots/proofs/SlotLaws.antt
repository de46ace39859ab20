-- Nodes taken into the masks one by one: their clashes are found, and the ones of a unit's mask are its occupied slots. Assumes nothing.
use mathlib.Core.Path.{◌≡◌, refl, sym, ap, ap₂, subst⁻¹, ◌∙◌}
use mathlib.Core.Bool.{Bool, true, false, cond, ◌&&◌, ◌||◌, and-false, or_assoc}
use mathlib.Core.List.{List, [], ◌∷◌}
use Prim.Native.Nat.{ℕ, ◌+◌, ◌<◌, ◌≤◌}
use native.Mathlib.Numerals.{add-one}
use native.Mathlib.Omega.{arith}
use lib.Count.{ones}
use lib.Dec.{eqb}
use lib.IntN.{nat_abs}
use lib.ListN.{length, get_or, set, length-set}
use borrow.Author.Tests.{eqb-true, ne_eqb}
use Rattle.words.specs.Loops.{some_of}
use Rattle.words.specs.Masks.{in_mask, with_slot}
use Rattle.words.proofs.LoopLaws.{some_none, some_or, some_of_cong}
use Rattle.words.proofs.CountLaws.{count_most, count_short}
use Rattle.words.proofs.MaskLaws.{ones_are}
use Rattle.records.specs.declared.Node.{Node}
use Rattle.slots.specs.declared.Slots.{Slots}
use Rattle.records.specs.Units.{op_port}
use Rattle.records.specs.Answers.{channel_of}
use Rattle.records.proofs.NodeLaws.{port_k}
use Rattle.records.specs.Records.{most_fold, most_units, clash, clashes, runs_in, occupied}
use Rattle.slots.specs.Slots.{Masked, SlotsOf}
use Rattle.slots.proofs.TableLaws.{empty_at, Filled, filled_none, filled_met, filled_on, filled_off}

-- ---- nodes taken one by one

module _ (node : ℕ → Node) where
  -- what is known after n nodes
  pub record Taken (n : ℕ) (c : Bool) (slots : List ℕ) (ports : ℕ) : Type 0 where
    pub clash_is : c ≡ clashes n node
    pub wide : length slots ≡ most_units
    pub by_slot : Filled (λ x. true) (λ x. (node x).unit) (λ x. (node x).slot) n slots
    pub by_channel : Filled (λ x. eqb (node x).op op_port) (λ x. 0) (λ x. nat_abs (node x).k) n (ports ∷ [])

  pub taken_none : (slots : List ℕ) → length slots ≡ most_units → ((q : ℕ) → get_or slots q 0 ≡ 0) → Taken 0 false slots 0
  unfolding clashes some_of
  taken_none slots l e = record {
    clash_is = refl;
    wide = l;
    by_slot = filled_none _ _ _ slots e;
    by_channel = filled_none _ _ _ (0 ∷ []) (empty_at 1);
  }

  module _ (n : ℕ) (c : Bool) (slots : List ℕ) (ports : ℕ) (t : Taken n c slots ports) (m : Masked (node n)) where
    -- a port's slot in the mask of channels
    channel_is : (b : Bool) → eqb (node n).op op_port ≡ b → (b && in_mask ports (channel_of (node n))) ≡ (b && in_mask ports (nat_abs (node n).k))
    channel_is true e = rw e refl
    channel_is false e = refl

    met : some_of n (λ x. clash (node x) (node n))
        ≡ (in_mask (get_or slots (node n).unit 0) (node n).slot || (eqb (node n).op op_port && in_mask ports (channel_of (node n))))
    met =
        some_or n _ _
        ∙ ap₂ (λ (a b : Bool). a || b) (filled_met _ _ _ n slots t.by_slot)
        (filled_met _ _ _ n (ports ∷ []) t.by_channel ∙ sym (channel_is (eqb (node n).op op_port) refl))

    ports_more : (b : Bool) → eqb (node n).op op_port ≡ b →
        Filled (λ x. eqb (node x).op op_port) (λ x. 0) (λ x. nat_abs (node x).k) (n + 1) (cond b (with_slot ports (channel_of (node n))) ports ∷ [])
    ports_more true e =
        let k = port_k (node n).op (node n).k (eqb-true (node n).op op_port e) m.of_op in
        rw e (filled_on _ _ _ n (ports ∷ []) t.by_channel (omega arith) (rw k.1 (omega (arith, k.2))) e)
    ports_more false e = filled_off _ _ _ n (ports ∷ []) t.by_channel e

    taken_more : Taken (n + 1)
        (c || in_mask (get_or slots (node n).unit 0) (node n).slot || (eqb (node n).op op_port && in_mask ports (channel_of (node n))))
        (set slots (node n).unit (with_slot (get_or slots (node n).unit 0) (node n).slot))
        (cond (eqb (node n).op op_port) (with_slot ports (channel_of (node n))) ports)
    unfolding clashes some_of
    taken_more = record {
      clash_is = or_assoc c _ _ ∙ ap₂ (λ (a b : Bool). a || b) t.clash_is (sym met) ∙ rw add-one refl;
      wide = simp length-set t.wide;
      by_slot = filled_on _ _ _ n slots t.by_slot (omega (arith, t.wide, m.on_unit)) m.in_turn refl;
      by_channel = ports_more (eqb (node n).op op_port) refl;
    }

    -- the same, as a loop's turn says it of the node that it read
    pub taken_next : (x : Node) → x ≡ node n → (a b : Bool) (mask p : ℕ) → a ≡ in_mask (get_or slots x.unit 0) x.slot →
        b ≡ (eqb x.op op_port && in_mask ports (channel_of x)) → mask ≡ with_slot (get_or slots x.unit 0) x.slot →
        p ≡ cond (eqb x.op op_port) (with_slot ports (channel_of x)) ports → Taken (n + 1) (c || a || b) (set slots x.unit mask) p
    taken_next x e a b mask p ea eb em ep =
        rw (ea, eb, em, ep)
        (subst⁻¹
        (λ (x : Node). Taken (n + 1)
        (c || in_mask (get_or slots x.unit 0) x.slot || (eqb x.op op_port && in_mask ports (channel_of x)))
        (set slots x.unit (with_slot (get_or slots x.unit 0) x.slot))
        (cond (eqb x.op op_port) (with_slot ports (channel_of x)) ports)) e taken_more)

-- ---- the ones of a unit's mask are its occupied slots

pub occupied_ones : (fold n : ℕ) (node : ℕ → Node) (s : Slots) (q : ℕ) → SlotsOf n node s → fold ≤ most_fold → ((x : ℕ) → x < n → (node x).slot < fold) →
    ones (get_or s.occupied q 0) ≡ occupied fold n node q
unfolding occupied
occupied_ones fold n node s q t h turn =
    ones_are most_fold (get_or s.occupied q 0) (λ v. some_of n (λ x. runs_in q v (node x))) (t.small q) (λ v l. t.taken q v)
    ∙ count_short most_fold fold (λ v. some_of n (λ x. runs_in q v (node x))) h (λ v l. some_none n _ (λ x k. beyond v l x k))
  where
    beyond : (v : ℕ) → fold ≤ v → (x : ℕ) → x < n → runs_in q v (node x) ≡ false
    beyond v l x k = rw (ne_eqb (node x).slot v (λ e. let u = turn x k in omega arith)) (and-false (eqb (node x).unit q))

-- at most all N slots are
pub occupied_most : (fold n : ℕ) (node : ℕ → Node) (q : ℕ) → occupied fold n node q ≤ fold
unfolding occupied
occupied_most fold n node q = count_most fold (λ v. some_of n (λ x. runs_in q v (node x)))

-- ---- nodes read in two ways

pub slots_same : (n : ℕ) (node node' : ℕ → Node) (s : Slots) → ((x : ℕ) → x < n → node x ≡ node' x) → SlotsOf n node s → SlotsOf n node' s
unfolding clashes
slots_same n node node' s h t = record {
  clash_is = t.clash_is ∙ some_of_cong n _ _ (λ y l. some_of_cong y _ _ (λ x k. ap₂ clash (h x (omega arith)) (h y l)));
  taken = λ q v. t.taken q v ∙ some_of_cong n _ _ (λ x l. ap (runs_in q v) (h x l));
  small = t.small;
}
