-- The plan of a passed sheet, with any starts whose taps are the waits, has no fault of the machine's. Assumes nothing.
use mathlib.Core.Path.{◌≡◌, refl, sym, ap, ap₂, ◌∙◌}
use mathlib.Core.Bool.{Bool, true, false, cond, ◌&&◌}
use mathlib.Core.List.{List}
use Prim.Native.Nat.{ℕ, ◌-◌, ◌<◌, ◌≤◌}
use native.Mathlib.Omega.{arith}
use lib.Dec.{ltb, leb, eqb, lit<}
use lib.ListN.{length}
use borrow.Author.Tests.{lt-ltb, le-leb, eq-eqb}
use Rattle.words.specs.Loops.{every, some_of, largest, count}
use Rattle.words.proofs.LoopLaws.{and_join, every_all, every_cong, some_of_hit, some_of_cong, count_cong, largest_cong}
use Rattle.records.specs.declared.Node.{Node}
use Rattle.records.specs.Units.{inputs_of}
use Rattle.records.specs.Records.{at, clash, clashes, runs_in, occupied, fed_once, unit_place, node_place, wire_place, counts_fit}
use Rattle.records.proofs.ReadingLaws.{counts_join}
use Rattle.records.proofs.ByteLaws.{marked_ok}
use Rattle.sheets.specs.Sheet.{Sheet, sheet_of, node_of, wire_of, feeds}
use Rattle.sheets.proofs.SheetLaws.{Passed, counts_of, wire_parts, sound, fold_is, units_is, nodes_is, wires_is}
use Rattle.folding.specs.Walks.{chain}
use Rattle.folding.specs.Folding.{net}
use Rattle.plans.specs.Plan.{Plan, PlanUnit, PlanNode, Switch, unit_in, node_in, switch_in, plan_format, plan_bytes}
use Rattle.plans.specs.Judging.{most_chain, switched, plan_feeds, longest_tap, idle_slots, figures_right}
use Rattle.plans.proofs.PlanBytes.{length_plan, whole_plan, head_fold, head_units, head_nodes, head_wires, unit_byte, node_byte, switch_byte}
use Rattle.plans.proofs.JudgingLaws.{head_test, unit_test, node_test, switch_test, plan_clashes, plan_fed, Judged}
use Rattle.drawing.specs.PlanOf.{plan_switch, plan_with}
use Rattle.drawing.specs.Folds.{Folds}
use Rattle.drawing.proofs.PlanLaws.{unit_is, node_is, switch_is, units_as, nodes_as, wires_as, Waits, with_folds}
use Rattle.drawing.proofs.FoldsLaws.{runs_in_is, switched_is}

module _ (b : List ℕ) (passed : Passed b) (r : ℕ → ℕ) (waits : Waits (sheet_of b) r) (few : chain (net (sheet_of b)) ≤ length (sheet_of b).nodes - 1) where
  abbrev s : Sheet
  s = sheet_of b

  abbrev p : Plan
  p = plan_with (sheet_of b) r

  folds : Folds (sheet_of b) (plan_with (sheet_of b) r)
  folds = with_folds (sheet_of b) r (sound b passed) waits

  units_fit : (q : ℕ) → q < length (sheet_of b).units → unit_test (plan_with (sheet_of b) r) q ≡ true
  units_fit q h = rw (unit_is s r q h) (passed.records.unit_ok q (omega (arith, units_is b)))

  nodes_fit : (x : ℕ) → x < length (sheet_of b).nodes → node_test (plan_with (sheet_of b) r) x ≡ true
  nodes_fit x h =
      rw (node_is s r x h, units_as s r, unit_is s r (node_of s x).unit ((sound b passed).on_unit x h)) (passed.records.node_ok x (omega (arith, nodes_is b)))

  switches_fit : (e : ℕ) → e < length (sheet_of b).wires → switch_test (plan_with (sheet_of b) r) e ≡ true
  switches_fit e h =
      let x = (wire_of s e).to in
      let y = (wire_of s e).from in
      let n = node_of s x in
      let ok = sound b passed in
      let hx = ok.meets e h in
      let hy = ok.leaves e h in
      let A = length p.units in
      let here : ℕ → Bool = λ z. runs_in n.unit n.slot (node_in p z).node && ltb (wire_of s e).input (inputs_of (node_in p z).node.op) in
      let found : here x ≡ true =
      and_join (runs_in n.unit n.slot (node_in p x).node) (ltb (wire_of s e).input (inputs_of (node_in p x).node.op))
      (runs_in_is s p ok folds x x hx hx ∙ eq-eqb x x refl)
      (ap (λ (o : PlanNode). ltb (wire_of s e).input (inputs_of o.node.op)) (node_is s r x hx)
      ∙ lt-ltb (wire_of s e).input (inputs_of n.op) (wire_parts b passed e h).input_fits) in
      rw (switch_is s r e h)
      (and_join (ltb n.unit A && ltb n.slot p.fold && ltb (node_of s y).unit A) (some_of (length p.nodes) here)
      (and_join (ltb n.unit A && ltb n.slot p.fold) (ltb (node_of s y).unit A)
      (and_join (ltb n.unit A) (ltb n.slot p.fold)
      (lt-ltb n.unit A (omega (arith, units_as s r, ok.on_unit x hx)))
      (lt-ltb n.slot p.fold (ok.in_turn x hx)))
      (lt-ltb (node_of s y).unit A (omega (arith, units_as s r, ok.on_unit y hy))))
      (some_of_hit (length p.nodes) here x (omega (arith, nodes_as s r)) found))

  no_clash : plan_clashes (plan_with (sheet_of b) r) ≡ false
  unfolding clashes
  no_clash =
      rw (nodes_as s r)
      (some_of_cong (length s.nodes) (λ y. some_of y (λ x. clash (node_in p x).node (node_in p y).node)) (λ y. some_of y (λ x. clash (node_of s x) (node_of s y)))
      (λ y hy. some_of_cong y (λ x. clash (node_in p x).node (node_in p y).node) (λ x. clash (node_of s x) (node_of s y))
      (λ x hx. ap₂ clash (folds.node x (omega arith)) (folds.node y hy)))
      ∙ passed.apart)

  all_fed : plan_fed (plan_with (sheet_of b) r) ≡ true
  unfolding fed_once
  all_fed =
      rw (nodes_as s r, wires_as s r)
      (every_cong (length s.nodes)
      (λ x. every (inputs_of (node_in p x).node.op) (λ i. eqb (count (length s.wires) (plan_feeds p x i)) 1))
      (λ x. every (inputs_of (node_of s x).op) (λ i. eqb (count (length s.wires) (feeds s x i)) 1))
      (λ x hx.
      ap (λ (n : Node). every (inputs_of n.op) (λ i. eqb (count (length s.wires) (switched p n.unit n.slot i)) 1)) (folds.node x hx)
      ∙ every_cong (inputs_of (node_of s x).op) (λ i. eqb (count (length s.wires) (switched p (node_of s x).unit (node_of s x).slot i)) 1)
      (λ i. eqb (count (length s.wires) (feeds s x i)) 1)
      (λ i hi. ap (λ (c : ℕ). eqb c 1)
      (count_cong (length s.wires) (switched p (node_of s x).unit (node_of s x).slot i) (feeds s x i) (λ e he. switched_is s p (sound b passed) folds x i e hx he))))
      ∙ passed.fed)

  line_right : (q : ℕ) → q < length (sheet_of b).units → (unit_in (plan_with (sheet_of b) r) q).line ≡ longest_tap (length (plan_with (sheet_of b) r).switches) (switch_in (plan_with (sheet_of b) r)) q
  unfolding longest_tap
  line_right q h =
      ap (λ (u : PlanUnit). u.line) (unit_is s r q h)
      ∙ sym (ap (λ (n : ℕ). largest n (λ e. cond (eqb (switch_in p e).source q) (switch_in p e).tap 0)) (wires_as s r)
      ∙ largest_cong (length s.wires) (λ e. cond (eqb (switch_in p e).source q) (switch_in p e).tap 0) (λ e. cond (eqb (plan_switch s r e).source q) (plan_switch s r e).tap 0)
      (λ e he. ap (λ (w : Switch). cond {A = ℕ} (eqb w.source q) w.tap 0) (switch_is s r e he)))

  idle_right : (q : ℕ) → q < length (sheet_of b).units → (unit_in (plan_with (sheet_of b) r) q).idle ≡ idle_slots (plan_with (sheet_of b) r) q
  unfolding occupied
  idle_right q h =
      ap (λ (u : PlanUnit). u.idle) (unit_is s r q h)
      ∙ ap (λ (n : ℕ). s.fold - n)
      (sym (ap (λ (n : ℕ). count s.fold (λ v. some_of n (λ x. runs_in q v (node_in p x).node))) (nodes_as s r)
      ∙ count_cong s.fold (λ v. some_of (length s.nodes) (λ x. runs_in q v (node_in p x).node)) (λ v. some_of (length s.nodes) (λ x. runs_in q v (node_of s x)))
      (λ v hv. some_of_cong (length s.nodes) (λ x. runs_in q v (node_in p x).node) (λ x. runs_in q v (node_of s x)) (λ x hx. ap (runs_in q v) (folds.node x hx)))))

  figures_ok : figures_right (plan_with (sheet_of b) r) ≡ true
  unfolding figures_right
  figures_ok =
      every_all (length p.units) (λ q. eqb (unit_in p q).line (longest_tap (length p.switches) (switch_in p) q) && eqb (unit_in p q).idle (idle_slots p q))
      (λ q hq.
      let h : q < length s.units = omega (arith, units_as s r) in
      and_join _ _ (eq-eqb (unit_in p q).line (longest_tap (length p.switches) (switch_in p) q) (line_right q h)) (eq-eqb (unit_in p q).idle (idle_slots p q) (idle_right q h)))

  head_ok : head_test (plan_bytes (plan_with (sheet_of b) r)) (plan_with (sheet_of b) r) ≡ true
  head_ok =
      let B = plan_bytes p in
      let c = counts_of b passed in
      and_join (counts_fit B) (leb p.chain most_chain)
      (counts_join B (record {
        fold_least = omega (arith, c.fold_least, head_fold p, fold_is b);
        fold_most = omega (arith, c.fold_most, head_fold p, fold_is b);
        units_least = omega (arith, c.units_least, head_units p, units_as s r, units_is b);
        units_most = omega (arith, c.units_most, head_units p, units_as s r, units_is b);
        nodes_least = omega (arith, c.nodes_least, head_nodes p, nodes_as s r, nodes_is b);
        nodes_most = omega (arith, c.nodes_most, head_nodes p, nodes_as s r, nodes_is b);
        wires_most = omega (arith, c.wires_most, head_wires p, wires_as s r, wires_is b);
      }))
      (le-leb p.chain most_chain (omega (arith, few, c.nodes_most, nodes_is b)))

  -- the plan's bytes pass every test of the machine
  pub judged_well : Judged (plan_bytes (plan_with (sheet_of b) r)) (plan_with (sheet_of b) r)
  judged_well =
      let B = plan_bytes p in
      let hu : (i : ℕ) → i < at B 3 → i < length p.units = λ i h. omega (arith, head_units p) in
      let hn : (i : ℕ) → i < at B 4 → i < length p.nodes = λ i h. omega (arith, head_nodes p) in
      let hw : (i : ℕ) → i < at B 5 → i < length p.switches = λ i h. omega (arith, head_wires p) in
      record {
        records = record {
          long = omega (arith, length_plan p);
          head_marked = unfold plan_bytes in refl;
          in_ranges = head_ok;
          whole = whole_plan p;
          unit_marked = λ i h. marked_ok B (unit_place plan_format B i) plan_format.unit_mark (unit_byte p i 0 (hu i h) (lit< tt)) (unit_byte p i 1 (hu i h) (lit< tt));
          unit_ok = λ i h. units_fit i (omega (arith, hu i h, units_as s r));
          node_marked = λ i h. marked_ok B (node_place plan_format B i) plan_format.node_mark (node_byte p i 0 (hn i h) (lit< tt)) (node_byte p i 1 (hn i h) (lit< tt));
          node_ok = λ i h. nodes_fit i (omega (arith, hn i h, nodes_as s r));
          wire_marked = λ i h. marked_ok B (wire_place plan_format B i) plan_format.wire_mark (switch_byte p i 0 (hw i h) (lit< tt)) (switch_byte p i 1 (hw i h) (lit< tt));
          wire_ok = λ i h. switches_fit i (omega (arith, hw i h, wires_as s r));
        };
        apart = no_clash;
        fed = all_fed;
        figures = figures_ok;
      }
