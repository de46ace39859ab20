-- Nodes and wires in their ranges have room in the masks. Assumes nothing.
use mathlib.Core.Bool.{◌&&◌}
use mathlib.Core.List.{List}
use Prim.Native.Nat.{ℕ, ◌<◌}
use native.Mathlib.Omega.{arith}
use lib.Dec.{ltb, leb, eqb}
use lib.ListN.{length}
use Rattle.words.proofs.LoopLaws.{and_split}
use Rattle.records.specs.Units.{last_op, kind_of, k_fits}
use Rattle.slots.specs.Slots.{Masked}
use Rattle.slots.specs.Feeding.{InputMasked}
use Rattle.records.proofs.ReadingLaws.{Counts, counts_split}
use Rattle.records.proofs.NodeLaws.{NodeFits, node_split, inputs_few}
use Rattle.sheets.specs.declared.Sheet.{Sheet as Header}
use Rattle.sheets.specs.Sheet.{unit_of, node_of, wire_of, sheet_of}
use Rattle.sheets.specs.Answers.{input_of, Held}
use Rattle.sheets.proofs.SheetLaws.{fold_is, units_is, nodes_is, wires_is, WireFits, wire_split}

module _ (b : List ℕ) (s : Header) (h : Held b s) where
  counts_of : Counts b
  counts_of = counts_split b h.counts

  -- the bytes of the node x of the sheet
  pub node_fit : (x : ℕ) → x < length (sheet_of b).nodes → NodeFits (sheet_of b).fold (length (sheet_of b).units) (unit_of (sheet_of b)) (node_of (sheet_of b) x)
  node_fit x l = node_split _ _ _ (node_of (sheet_of b) x) (h.node_ok x (omega (arith, nodes_is b)))

  pub wire_fit : (e : ℕ) → e < length (sheet_of b).wires → WireFits (sheet_of b) e
  wire_fit e l = wire_split (sheet_of b) e (h.wire_ok e (omega (arith, wires_is b)))

  pub node_masked : (x : ℕ) → x < length (sheet_of b).nodes → Masked (node_of (sheet_of b) x)
  node_masked x l =
      let n = node_of (sheet_of b) x in
      let f = node_fit x l in
      let t = and_split (ltb n.unit (length (sheet_of b).units) && ltb n.slot (sheet_of b).fold && leb n.op last_op && eqb (unit_of (sheet_of b) n.unit).kind (kind_of n.op)) (k_fits n.op n.k) (h.node_ok x (omega (arith, nodes_is b))) in
      record {
        on_unit = omega (arith, f.on_unit, units_is b, counts_of.units_most);
        in_turn = omega (arith, f.in_turn, fold_is b, counts_of.fold_most);
        of_op = t.1;
      }

  pub input_masked : (e : ℕ) → e < length (sheet_of b).wires → InputMasked (input_of (sheet_of b) e)
  input_masked e l =
      let f = wire_fit e l in
      let n = node_of (sheet_of b) (wire_of (sheet_of b) e).to in
      let m = node_masked (wire_of (sheet_of b) e).to f.meets in
      record { on_unit = m.on_unit; in_turn = m.in_turn; one_of = omega (arith, f.input_fits, inputs_few (kind_of n.op)) }
