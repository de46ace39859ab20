-- What a plan without fault has passed, and that whatever passes all of it has no fault. Assumes nothing.
use mathlib.Core.Path.{◌≡◌, refl, sym, ap, ◌∙◌, subst}
use mathlib.Core.Logic.{◌⊎◌, inl, inr}
use mathlib.Core.Bool.{Bool, true, false, not, cond, ◌&&◌}
use mathlib.Core.List.{List}
use Prim.Native.Nat.{ℕ, ◌<◌, ◌≤◌}
use native.Mathlib.Omega.{arith}
use lib.Dec.{ltb, leb, eqb}
use lib.ListN.{length}
use borrow.Author.Tests.{ltb-true, eq-eqb}
use Rattle.words.specs.Loops.{some_of, largest, unless, ◌then◌}
use Rattle.words.proofs.LoopLaws.{passed?, and_split, largest_ge}
use Rattle.words.proofs.CountLaws.{some_found}
use Rattle.words.proofs.FaultLaws.{then_split, then_join, then_one, then_le, unless_true, unless_ok, unless_le, not_true}
use Rattle.records.specs.Units.{unit_fits, inputs_of}
use Rattle.records.specs.Records.{counts_fit, reading_fault, node_fits, clashes, runs_in, fed_once}
use Rattle.records.proofs.ReadingLaws.{Read, read, faultless, reading_le}
use Rattle.plans.specs.Plan.{Plan, Switch, unit_in, node_in, switch_in, plan_format}
use Rattle.plans.specs.Judging.{most_chain, switch_fits, plan_feeds, longest_tap, figures_right, plan_faults}

abbrev pub head_test : List ℕ → Plan → Bool
head_test b p = counts_fit b && leb p.chain most_chain

abbrev pub unit_test : Plan → ℕ → Bool
unit_test p i = unit_fits (unit_in p i).unit

abbrev pub node_test : Plan → ℕ → Bool
node_test p i = node_fits p.fold (length p.units) (λ q. (unit_in p q).unit) (node_in p i).node

abbrev pub switch_test : Plan → ℕ → Bool
switch_test p i = switch_fits p (switch_in p i)

abbrev pub plan_clashes : Plan → Bool
plan_clashes p = clashes (length p.nodes) (λ x. (node_in p x).node)

abbrev pub plan_fed : Plan → Bool
plan_fed p = fed_once (length p.nodes) (λ x. (node_in p x).node) (length p.switches) (plan_feeds p)

pub record Judged (b : List ℕ) (p : Plan) : Type 0 where
  pub records : Read plan_format b (head_test b p) (unit_test p) (node_test p) (switch_test p)
  pub apart : plan_clashes p ≡ false
  pub fed : plan_fed p ≡ true
  pub figures : figures_right p ≡ true

module _ (b : List ℕ) (p : Plan) where
  reading : ℕ
  reading = reading_fault plan_format b (head_test b p) (unit_test p) (node_test p) (switch_test p)

  up_to_clash : ℕ
  up_to_clash = reading then unless (not (plan_clashes p)) 4

  up_to_fed : ℕ
  up_to_fed = up_to_clash then unless (plan_fed p) 5

  pub judged : plan_faults b p ≡ 0 → Judged b p
  unfolding plan_faults reading up_to_clash up_to_fed
  judged h =
      let t9 = then_split up_to_fed (unless (figures_right p) 9) h in
      let t5 = then_split up_to_clash (unless (plan_fed p) 5) t9.0 in
      let t4 = then_split reading (unless (not (plan_clashes p)) 4) t5.0 in
      record {
        records = read plan_format b (head_test b p) (unit_test p) (node_test p) (switch_test p) t4.0;
        apart = not_true (plan_clashes p) (unless_true (not (plan_clashes p)) 3 t4.1);
        fed = unless_true (plan_fed p) 4 t5.1;
        figures = unless_true (figures_right p) 8 t9.1;
      }

  pub plan_faultless : Judged b p → plan_faults b p ≡ 0
  unfolding plan_faults reading up_to_clash up_to_fed
  plan_faultless j =
      then_join up_to_fed (unless (figures_right p) 9)
      (then_join up_to_clash (unless (plan_fed p) 5)
      (then_join reading (unless (not (plan_clashes p)) 4)
      (faultless plan_format b (head_test b p) (unit_test p) (node_test p) (switch_test p) j.records)
      (unless_ok (not (plan_clashes p)) 4 (ap not j.apart)))
      (unless_ok (plan_fed p) 5 j.fed))
      (unless_ok (figures_right p) 9 j.figures)

  -- a plan's fault is one of 0 to 5, or 9
  pub plan_faults_one : (plan_faults b p ≤ 5) ⊎ (plan_faults b p ≡ 9)
  unfolding plan_faults reading up_to_clash up_to_fed
  plan_faults_one =
      let r = reading_le plan_format b (head_test b p) (unit_test p) (node_test p) (switch_test p) in
      let low : up_to_fed ≤ 5 = then_le up_to_clash _ 5 (then_le reading _ 5 (omega arith) (unless_le (not (plan_clashes p)) 4 5 (omega arith))) (unless_le (plan_fed p) 5 5 (omega arith)) in
      elim (then_one up_to_fed (unless (figures_right p) 9)) [
        | inl e ↦ inl (subst (λ (z : ℕ). z ≤ 5) (sym e) low)
        | inr e ↦ elim (passed? (figures_right p)) [
          | inl t ↦ inl (let z : up_to_fed then unless (figures_right p) 9 ≡ 0 = e ∙ unless_ok (figures_right p) 9 t in omega arith)
          | inr f ↦ inr (e ∙ ap (λ (z : Bool). unless z 9) f)
        ]
      ]

-- no tap passes the line that it reads
pub longest_tap_ge : (n : ℕ) (w : ℕ → Switch) (e : ℕ) → e < n → (w e).tap ≤ longest_tap n w (w e).source
unfolding longest_tap
longest_tap_ge n w e h =
    let a = largest_ge n (λ i. cond (eqb (w i).source (w e).source) (w i).tap 0) e h in
    subst (λ (b : Bool). cond b (w e).tap 0 ≤ largest n (λ i. cond (eqb (w i).source (w e).source) (w i).tap 0)) (eq-eqb (w e).source (w e).source refl) a

-- a switch names a unit, a source, and an input of a node that runs there
pub record SwitchFits (p : Plan) (w : Switch) : Type 0 where
  pub on_unit : w.unit < length p.units
  pub in_turn : w.slot < p.fold
  pub from_unit : w.source < length p.units
  pub node : ℕ
  pub is_node : node < length p.nodes
  pub runs : runs_in w.unit w.slot (node_in p node).node ≡ true
  pub input_fits : w.input < inputs_of (node_in p node).node.op

pub switch_split : (p : Plan) (w : Switch) → switch_fits p w ≡ true → SwitchFits p w
switch_split p w h =
    let a = ltb w.unit (length p.units) in
    let b = ltb w.slot p.fold in
    let c = ltb w.source (length p.units) in
    let here : ℕ → Bool = λ x. runs_in w.unit w.slot (node_in p x).node && ltb w.input (inputs_of (node_in p x).node.op) in
    let t3 = and_split (a && b && c) (some_of (length p.nodes) here) h in
    let t2 = and_split (a && b) c t3.0 in
    let t1 = and_split a b t2.0 in
    let f = some_found (length p.nodes) here t3.1 in
    let n = (node_in p f.0).node in
    let both = and_split (runs_in w.unit w.slot n) (ltb w.input (inputs_of n.op)) f.2 in
    record {
      on_unit = ltb-true w.unit (length p.units) t1.0;
      in_turn = ltb-true w.slot p.fold t1.1;
      from_unit = ltb-true w.source (length p.units) t2.1;
      node = f.0;
      is_node = f.1;
      runs = both.0;
      input_fits = ltb-true w.input (inputs_of n.op) both.1;
    }
