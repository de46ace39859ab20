-- The masks' test by units is 01's rule: every input of every node is fed by one wire or switch. Assumes nothing.
use mathlib.Core.Path.{◌≡◌, refl, sym, ap, ◌∙◌}
use mathlib.Core.Logic.{inl, inr}
use mathlib.Core.Bool.{Bool, true, false, not, ◌&&◌, ◌||◌, true≢false}
use Prim.Native.Nat.{ℕ, zero, suc, ◌+◌, ◌*◌, ◌<◌}
use native.Mathlib.Nat.{add-zero}
use native.Mathlib.Decide.{ℕ_discrete}
use native.Mathlib.Omega.{arith}
use lib.Dec.{ltb, leb, eqb}
use lib.ListN.{get_or}
use borrow.Author.Tests.{ltb-true, ltb-false, leb-false, lt-leb, eqb-true, eq-eqb, not-true}
use Rattle.words.specs.Loops.{some_of, count}
use Rattle.words.specs.Masks.{in_mask}
use Rattle.words.proofs.LoopLaws.{passed?, bool_ext, and_split, and_join, every_at, every_all, some_of_hit}
use Rattle.words.proofs.CountLaws.{some_found, count_one, count_two, count_found}
use Rattle.words.proofs.FaultLaws.{none_of}
use Rattle.words.proofs.MaskLaws.{mask_same}
use Rattle.records.specs.declared.Unit.{Unit}
use Rattle.records.specs.declared.Node.{Node}
use Rattle.slots.specs.declared.Slots.{Slots}
use Rattle.slots.specs.declared.feeding.Input.{Input}
use Rattle.slots.specs.declared.feeding.Fed.{Fed}
use Rattle.records.specs.Units.{kind_of, inputs, inputs_of}
use Rattle.records.specs.Records.{runs_in, fed_once}
use Rattle.slots.specs.Slots.{SlotsOf}
use Rattle.slots.specs.Feeding.{most_inputs, mask_of, feeds_in, FedOf, unit_fed, units_fed}
use Rattle.records.proofs.NodeLaws.{inputs_few}

-- ---- a unit's test, input by input

or_true : (a b : Bool) → a ≡ false → (a || b) ≡ true → b ≡ true
or_true a b e h = rw e at h

fed_first : (kind occupied a b : ℕ) → unit_fed kind occupied a b ≡ true → 0 < inputs kind → a ≡ occupied
fed_first kind occupied a b h l =
    let t = and_split (leb (inputs kind) 0 || eqb a occupied) (leb (inputs kind) 1 || eqb b occupied) h in
    eqb-true a occupied (or_true (leb (inputs kind) 0) (eqb a occupied) (lt-leb (inputs kind) 0 l) t.0)

fed_second : (kind occupied a b : ℕ) → unit_fed kind occupied a b ≡ true → 1 < inputs kind → b ≡ occupied
fed_second kind occupied a b h l =
    let t = and_split (leb (inputs kind) 0 || eqb a occupied) (leb (inputs kind) 1 || eqb b occupied) h in
    eqb-true b occupied (or_true (leb (inputs kind) 1) (eqb b occupied) (lt-leb (inputs kind) 1 l) t.1)

either : (i kind occupied a : ℕ) → (i < inputs kind → a ≡ occupied) → (leb (inputs kind) i || eqb a occupied) ≡ true
either i kind occupied a h = by_test (leb (inputs kind) i) refl
  where
    by_test : (t : Bool) → leb (inputs kind) i ≡ t → (t || eqb a occupied) ≡ true
    by_test true e = refl
    by_test false e = eq-eqb a occupied (h (leb-false (inputs kind) i e))

module _
    (n : ℕ) (node : ℕ → Node) (w : ℕ) (to : ℕ → Input) (feeds : ℕ → ℕ → ℕ → Bool) (units : ℕ) (unit : ℕ → Unit) (s : Slots) (f : Fed)
    (slots : SlotsOf n node s)
    (fed : FedOf w to f)
    (on_unit : (x : ℕ) → x < n → (node x).unit < units)
    (of_kind : (x : ℕ) → x < n → (unit (node x).unit).kind ≡ kind_of (node x).op)
    (meets : (e : ℕ) → e < w → (x : ℕ) × (x < n) × ((to e).unit ≡ (node x).unit) × ((to e).slot ≡ (node x).slot) × ((to e).input < inputs_of (node x).op))
    (feeds_is : (x i e : ℕ) → x < n → e < w → feeds x i e ≡ feeds_in (node x).unit (node x).slot i (to e))
  where
    -- mask 2q + i and mask q of the occupied slots
    mask : ℕ → ℕ → ℕ
    mask q i = get_or f.masks (most_inputs * q + i) 0

    occ : ℕ → ℕ
    occ q = get_or s.occupied q 0

    parts : (q v i : ℕ) (t : Input) → feeds_in q v i t ≡ true → (t.unit ≡ q) × (t.slot ≡ v) × (t.input ≡ i)
    parts q v i t h =
        let a = and_split (eqb t.unit q && eqb t.slot v) (eqb t.input i) h in
        let b = and_split (eqb t.unit q) (eqb t.slot v) a.0 in
        (eqb-true t.unit q b.0, eqb-true t.slot v b.1, eqb-true t.input i a.1)

    joined : (q v i : ℕ) (t : Input) → t.unit ≡ q → t.slot ≡ v → t.input ≡ i → feeds_in q v i t ≡ true
    joined q v i t a b c = and_join _ _ (and_join _ _ (eq-eqb t.unit q a) (eq-eqb t.slot v b)) (eq-eqb t.input i c)

    -- a node has the inputs of its unit's kind
    inputs_is : (x q : ℕ) → x < n → (node x).unit ≡ q → inputs (unit q).kind ≡ inputs_of (node x).op
    inputs_is x q l e = ap (λ (k : ℕ). inputs (unit k).kind) (sym e) ∙ ap inputs (of_kind x l)

    -- ---- from the masks to 01's rule

    module _ (test : units_fed units unit s.occupied f.masks ≡ true) (once : f.twice ≡ false) where
      same_mask : (q : ℕ) → q < units → (i : ℕ) → i < inputs (unit q).kind → mask q i ≡ occ q
      unfolding units_fed mask occ
      same_mask q l zero h =
          ap (λ (k : ℕ). get_or f.masks k 0) (add-zero (most_inputs * q)) ∙ fed_first (unit q).kind _ _ _ (every_at units _ test q l) h
      same_mask q l (suc zero) h = fed_second (unit q).kind _ _ _ (every_at units _ test q l) h
      same_mask q l (suc (suc i)) h = absurd (let m = inputs_few (unit q).kind in omega arith)

      -- no two feed one input
      apart : (x i d e : ℕ) → x < n → d < e → e < w → feeds x i d ≡ true → feeds x i e ≡ true → ⊥
      apart x i d e hx l he p r =
          let none = none_of e _ (none_of w _ (sym fed.twice_is ∙ once) e he) d l in
          let a = parts (node x).unit (node x).slot i (to d) (sym (feeds_is x i d hx (omega arith)) ∙ p) in
          let b = parts (node x).unit (node x).slot i (to e) (sym (feeds_is x i e hx he) ∙ r) in
          true≢false (sym (and_join _ _ (eq-eqb (mask_of (to d)) (mask_of (to e)) (omega arith)) (eq-eqb (to d).slot (to e).slot (omega arith))) ∙ none)

      counted : (x : ℕ) → x < n → (i : ℕ) → i < inputs_of (node x).op → count w (feeds x i) ≡ 1
      unfolding mask occ
      counted x hx i h =
          let q = (node x).unit in
          let v = (node x).slot in
          let k = inputs_is x q hx refl in
          let m = inputs_few (kind_of (node x).op) in
          let runs : runs_in q v (node x) ≡ true = and_join _ _ (eq-eqb q q refl) (eq-eqb v v refl) in
          let bit : some_of w (λ e. feeds_in q v i (to e)) ≡ true =
          sym (fed.fed q v i (omega arith)) ∙ ap (λ (m : ℕ). in_mask m v) (same_mask q (on_unit x hx) i (omega arith)) ∙ slots.taken q v
          ∙ some_of_hit n (λ x. runs_in q v (node x)) x hx runs in
          let e = some_found w _ bit in
          let hit : feeds x i e.0 ≡ true = feeds_is x i e.0 hx e.1 ∙ e.2 in
          count_one w (feeds x i) e.0 e.1 hit (λ j l t. elim (ℕ_discrete j e.0) [
            | yes g ↦ g
            | no g ↦ elim (passed? (ltb j e.0)) [
              | inl y ↦ absurd (apart x i j e.0 hx (ltb-true j e.0 y) e.1 t hit)
              | inr z ↦ absurd (apart x i e.0 j hx (let o = ltb-false j e.0 z in omega arith) l hit t)
            ]
          ])

      rule : fed_once n node w feeds ≡ true
      unfolding fed_once
      rule = every_all n _ (λ x hx. every_all (inputs_of (node x).op) _ (λ i h. eq-eqb (count w (feeds x i)) 1 (counted x hx i h)))

    -- ---- from 01's rule to the masks

    module _ (rule : fed_once n node w feeds ≡ true) where
      one : (x : ℕ) → x < n → (i : ℕ) → i < inputs_of (node x).op → count w (feeds x i) ≡ 1
      unfolding fed_once
      one x hx i h = eqb-true (count w (feeds x i)) 1 (every_at (inputs_of (node x).op) _ (every_at n _ rule x hx) i h)

      input_most : (e : ℕ) → e < w → (to e).input < most_inputs
      input_most e l = let m = meets e l in let k = inputs_few (kind_of (node m.0).op) in omega (arith, m.4)

      twice_not : f.twice ≡ false
      twice_not = elim (passed? f.twice) [
        | inr z ↦ z
        | inl t ↦
            let a = some_found w _ (sym fed.twice_is ∙ t) in
            let e = a.0 in
            let b = some_found e _ a.2 in
            let d = b.0 in
            let c = and_split (eqb (mask_of (to d)) (mask_of (to e))) (eqb (to d).slot (to e).slot) b.2 in
            let g = eqb-true (mask_of (to d)) (mask_of (to e)) c.0 in
            let v = eqb-true (to d).slot (to e).slot c.1 in
            let m = meets e a.1 in
            let x = m.0 in
            let i = (to e).input in
            let hd : d < w = omega (arith, a.1, b.1) in
            let p = input_most d hd in
            let q = input_most e a.1 in
            let fe : feeds x i e ≡ true = feeds_is x i e m.1 a.1 ∙ joined (node x).unit (node x).slot i (to e) m.2 m.3 refl in
            let fd : feeds x i d ≡ true =
            feeds_is x i d m.1 hd ∙ joined (node x).unit (node x).slot i (to d) (omega (arith, m.2)) (omega (arith, m.3)) (omega arith) in
            absurd (omega (arith, count_two w (feeds x i) d e b.1 a.1 fd fe, one x m.1 i m.4))
      ]

      bits : (q v i : ℕ) → i < inputs (unit q).kind → some_of w (λ e. feeds_in q v i (to e)) ≡ some_of n (λ x. runs_in q v (node x))
      bits q v i h =
          bool_ext _ _
          (λ t. let e = some_found w _ t in
          let p = parts q v i (to e.0) e.2 in
          let m = meets e.0 e.1 in
          some_of_hit n _ m.0 m.1 (and_join _ _ (eq-eqb (node m.0).unit q (sym m.2 ∙ p.0)) (eq-eqb (node m.0).slot v (sym m.3 ∙ p.1))))
          (λ t. let x = some_found n _ t in
          let r = and_split (eqb (node x.0).unit q) (eqb (node x.0).slot v) x.2 in
          let a = eqb-true (node x.0).unit q r.0 in
          let b = eqb-true (node x.0).slot v r.1 in
          let k = inputs_is x.0 q x.1 a in
          let e = some_found w _ (count_found w (feeds x.0 i) (one x.0 x.1 i (omega arith))) in
          let p = parts (node x.0).unit (node x.0).slot i (to e.0) (sym (feeds_is x.0 i e.0 x.1 e.1) ∙ e.2) in
          some_of_hit w _ e.0 e.1 (joined q v i (to e.0) (p.0 ∙ a) (p.1 ∙ b) p.2))

      filled : (q i : ℕ) → i < inputs (unit q).kind → mask q i ≡ occ q
      unfolding mask occ
      filled q i h =
          let m = inputs_few (unit q).kind in
          mask_same 32 _ _ (fed.small (most_inputs * q + i)) (slots.small q) (λ v l. fed.fed q v i (omega arith) ∙ bits q v i h ∙ sym (slots.taken q v))

      test : units_fed units unit s.occupied f.masks ≡ true
      unfolding units_fed mask occ
      test =
          every_all units _
          (λ q l. and_join _ _
          (either 0 (unit q).kind _ _ (λ h. ap (λ (k : ℕ). get_or f.masks k 0) (sym (add-zero (most_inputs * q))) ∙ filled q 0 h))
          (either 1 (unit q).kind _ _ (filled q 1)))

    pub fed_right : (units_fed units unit s.occupied f.masks && not f.twice) ≡ fed_once n node w feeds
    fed_right =
        bool_ext _ _
        (λ t. let a = and_split (units_fed units unit s.occupied f.masks) (not f.twice) t in rule a.0 (not-true f.twice a.1))
        (λ t. and_join _ _ (test t) (rw (twice_not t) refl))
