-- The plan of a passed sheet that folds: it fits its fields, is read back from its bytes, and passes the machine's judging.
-- Assumes nothing.
use mathlib.Core.Path.{◌≡◌, ◌∙◌}
use mathlib.Core.Logic.{inl, inr}
use mathlib.Core.Bool.{cond}
use mathlib.Core.List.{List, ◌++◌}
use Prim.Native.Nat.{ℕ, ◌+◌, ◌*◌, ◌<◌}
use native.Mathlib.Omega.{arith}
use lib.Dec.{eqb, lit<}
use lib.ListN.{length}
use Rattle.words.specs.Words.{residue}
use Rattle.words.proofs.LoopLaws.{passed?, largest_le}
use Rattle.records.specs.Units.{kind_of}
use Rattle.records.proofs.NodeLaws.{k_narrow, inputs_few}
use Rattle.records.proofs.ByteLaws.{low_below, high_below}
use Rattle.sheets.specs.Sheet.{Sheet, sheet_of, node_of, wire_of}
use Rattle.sheets.proofs.SheetLaws.{Passed, counts_of, unit_parts, node_parts, wire_parts, sound, fold_is, units_is, nodes_is, wires_is}
use Rattle.folding.specs.Walks.{start}
use Rattle.folding.specs.Folding.{net, tap}
use Rattle.folding.proofs.FoldingLaws.{Foldable}
use Rattle.folding.proofs.SizeLaws.{small_of, start_le, tap_fits, registers_fit}
use Rattle.plans.specs.Plan.{Plan, no_unit, no_node, no_switch, unit_bytes, node_bytes, switch_bytes, header_bytes, concat, plan_bytes, plan_read}
use Rattle.plans.specs.Judging.{longest_tap, plan_fault}
use Rattle.plans.proofs.ConcatLaws.{AllBytes, bytes_append, bytes_concat}
use Rattle.plans.proofs.PlanBytes.{Narrow, plan_back, length_plan}
use Rattle.plans.proofs.JudgingLaws.{plan_faultless}
use Rattle.drawing.specs.PlanOf.{plan_unit, plan_node, plan_switch, plan_with, plan_of, plan_length}
use Rattle.drawing.proofs.PlanLaws.{unit_is, node_is, switch_is, units_as, nodes_as, wires_as}
use Rattle.drawing.proofs.PlanPasses.{judged_well}

module _ (b : List ℕ) (passed : Passed b) (ok : Foldable (sheet_of b)) where
  abbrev s : Sheet
  s = sheet_of b

  abbrev r : ℕ → ℕ
  r = start (net (sheet_of b))

  abbrev p : Plan
  p = plan_with (sheet_of b) (start (net (sheet_of b)))

  line_fits : (q : ℕ) → longest_tap (length (sheet_of b).wires) (plan_switch (sheet_of b) (start (net (sheet_of b)))) q < 65536
  unfolding longest_tap
  line_fits q =
      let l = largest_le (length s.wires) (λ e. cond (eqb (plan_switch s r e).source q) (tap s r e) 0) 65535
      (λ e h. elim (passed? (eqb (plan_switch s r e).source q)) [
        | inl t ↦ rw t (omega (arith, tap_fits s (sound b passed) (small_of b passed) ok e h))
        | inr f ↦ rw f (omega arith)
      ]) in
      omega arith

  pub narrow : Narrow (plan_of (sheet_of b))
  unfolding plan_of
  narrow =
      let sn = sound b passed in
      let sm = small_of b passed in
      record {
        line = λ q h. rw (unit_is s r q (omega (arith, units_as s r))) (line_fits q);
        k = λ x h.
            let hx : x < length s.nodes = omega (arith, nodes_as s r) in
            let n = node_of s x in
            rw (node_is s r x hx) (k_narrow n.op n.k (node_parts b passed x hx).k_least_le (node_parts b passed x hx).k_most_ge);
        start = λ x h. let hx : x < length s.nodes = omega (arith, nodes_as s r) in rw (node_is s r x hx) (omega (arith, start_le s sn sm x hx));
        tap = λ e h. let he : e < length s.wires = omega (arith, wires_as s r) in rw (switch_is s r e he) (tap_fits s sn sm ok e he);
        registers = registers_fit s sn sm ok;
      }

  pub reads_back : plan_read (plan_bytes (plan_of (sheet_of b))) ≡ plan_of (sheet_of b)
  reads_back = plan_back (plan_of (sheet_of b)) narrow

  -- the plan's bytes pass every test of the machine
  pub passes : plan_fault (plan_bytes (plan_of (sheet_of b))) ≡ 0
  unfolding plan_of
  passes = rw reads_back (plan_faultless (plan_bytes p) p (judged_well b passed r ok.tap_is ok.chain_is.few))

  -- the bytes written are as many as the header asks for
  pub length_written : length (plan_bytes (plan_of (sheet_of b))) ≡ plan_length b
  unfolding plan_of
  length_written = length_plan p ∙ (let e : 9 + 7 * length p.units + 9 * length p.nodes + 8 * length p.switches ≡ plan_length b =
      omega (arith, units_as s r, nodes_as s r, wires_as s r, units_is b, nodes_is b, wires_is b) in e)

  -- ---- every byte is below 256

  unit_small : (q : ℕ) → q < length (sheet_of b).units → AllBytes (unit_bytes (plan_unit (sheet_of b) (start (net (sheet_of b))) q))
  unit_small q h =
      let u = unit_parts b passed q h in
      let line = (plan_unit s r q).line in
      (lit< tt, (lit< tt, (omega (arith, u.kind_most), (omega (arith, u.depth_most), (low_below line, (high_below line, (omega (arith, (counts_of b passed).fold_most, fold_is b), tt)))))))

  node_small : (x : ℕ) → x < length (sheet_of b).nodes → AllBytes (node_bytes (plan_node (sheet_of b) (start (net (sheet_of b))) x))
  node_small x h =
      let n = node_parts b passed x h in
      let c = counts_of b passed in
      let k = residue (node_of s x).k 65536 in (lit< tt, (lit< tt, (omega (arith, n.on_unit, c.units_most, units_is b), (omega (arith, n.in_turn, c.fold_most, fold_is b), (omega (arith, n.op_most), (low_below k, (high_below k, (low_below (r x), (high_below (r x), tt)))))))))

  switch_small : (e : ℕ) → e < length (sheet_of b).wires → AllBytes (switch_bytes (plan_switch (sheet_of b) (start (net (sheet_of b))) e))
  switch_small e h =
      let w = wire_parts b passed e h in
      let c = counts_of b passed in
      let to = node_parts b passed (wire_of s e).to w.meets in
      let from = node_parts b passed (wire_of s e).from w.leaves in (lit< tt, (lit< tt, (omega (arith, to.on_unit, c.units_most, units_is b), (omega (arith, w.input_fits, inputs_few (kind_of (node_of s (wire_of s e).to).op)), (omega (arith, to.in_turn, c.fold_most, fold_is b), (omega (arith, from.on_unit, c.units_most, units_is b), (low_below (tap s r e), (high_below (tap s r e), tt))))))))

  pub plan_small : AllBytes (plan_bytes (plan_of (sheet_of b)))
  unfolding plan_of plan_bytes
  plan_small =
      let c = counts_of b passed in
      let U = concat unit_bytes p.units in
      let X = concat node_bytes p.nodes in
      let W = concat switch_bytes p.switches in
      bytes_append (header_bytes p) (U ++ (X ++ W)) (lit< tt, (lit< tt, (omega (arith, c.fold_most, fold_is b), (omega (arith, c.units_most, units_is b, units_as s r), (omega (arith, c.nodes_most, nodes_is b, nodes_as s r), (omega (arith, c.wires_most, wires_is b, wires_as s r), (low_below p.registers, (high_below p.registers, (omega (arith, ok.chain_is.few, c.nodes_most, nodes_is b), tt)))))))))
      (bytes_append U (X ++ W)
      (bytes_concat unit_bytes p.units no_unit (λ q h. let hq : q < length s.units = omega (arith, units_as s r) in rw (unit_is s r q hq) (unit_small q hq)))
      (bytes_append X W
      (bytes_concat node_bytes p.nodes no_node (λ x h. let hx : x < length s.nodes = omega (arith, nodes_as s r) in rw (node_is s r x hx) (node_small x hx)))
      (bytes_concat switch_bytes p.switches no_switch (λ e h. let he : e < length s.wires = omega (arith, wires_as s r) in rw (switch_is s r e he) (switch_small e he)))))
