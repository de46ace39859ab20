-- A sheet's inputs are fed once exactly where the masks say so: each wire feeds the node that it meets. Assumes nothing.
use mathlib.Core.Path.{◌≡◌, refl, sym, ap, subst, ◌∙◌}
use mathlib.Core.Bool.{Bool, false, not, ◌&&◌}
use mathlib.Core.List.{List}
use Prim.Native.Nat.{ℕ, ◌<◌}
use native.Mathlib.Omega.{arith}
use lib.Dec.{eqb}
use lib.ListN.{length}
use Rattle.words.proofs.LoopLaws.{pair_test}
use Rattle.records.specs.declared.Unit.{Unit}
use Rattle.slots.specs.declared.Slots.{Slots}
use Rattle.slots.specs.declared.feeding.Fed.{Fed}
use Rattle.records.specs.declared.reading.Run.{Run}
use Rattle.records.specs.Records.{clashes, fed_once}
use Rattle.records.specs.Answers.{unit_run, units_in_run}
use Rattle.slots.specs.Slots.{SlotsOf}
use Rattle.slots.specs.Feeding.{feeds_in, FedOf, units_fed}
use Rattle.records.proofs.NodeLaws.{clash_apart}
use Rattle.slots.proofs.FedLaws.{fed_right}
use Rattle.sheets.specs.declared.Sheet.{Sheet as Header}
use Rattle.sheets.specs.Sheet.{node_of, wire_of, sheet_format, sheet_of, feeds}
use Rattle.sheets.specs.Answers.{input_of, Held}
use Rattle.sheets.proofs.SheetLaws.{units_is, nodes_is, wires_is}
use Rattle.sheets.proofs.HeldLaws.{units_said, nodes_said, wires_said, unit_got}
use Rattle.sheets.proofs.MaskedLaws.{node_fit, wire_fit}

module _ (b : List ℕ) (s : Header) (h : Held b s) where
  pub nodes_counted : s.nodes ≡ length (sheet_of b).nodes
  nodes_counted = nodes_said b s h.whole ∙ sym (nodes_is b)

  pub wires_counted : s.wires ≡ length (sheet_of b).wires
  wires_counted = wires_said b s h.whole ∙ sym (wires_is b)

  pub clash_counted : (sl : Slots) → SlotsOf s.nodes (node_of (sheet_of b)) sl → clashes (length (sheet_of b).nodes) (node_of (sheet_of b)) ≡ sl.clash
  clash_counted sl t = sym (t.clash_is ∙ ap (λ (n : ℕ). clashes n (node_of (sheet_of b))) nodes_counted)

  module _ (free : clashes (length (sheet_of b).nodes) (node_of (sheet_of b)) ≡ false) where
    -- a wire feeds node x where it feeds the unit and slot of x
    feeds_is : (x i e : ℕ) → x < length (sheet_of b).nodes → e < length (sheet_of b).wires →
        feeds (sheet_of b) x i e ≡ feeds_in (node_of (sheet_of b) x).unit (node_of (sheet_of b) x).slot i (input_of (sheet_of b) e)
    feeds_is x i e hx he =
        let y = (wire_of (sheet_of b) e).to in
        let node = node_of (sheet_of b) in
        ap (λ (t : Bool). t && eqb (wire_of (sheet_of b) e).input i)
        (sym (pair_test (node y).unit (node x).unit (node y).slot (node x).slot y x
        (λ g. (ap (λ (k : ℕ). (node k).unit) g, ap (λ (k : ℕ). (node k).slot) g))
        (λ u v. clash_apart (length (sheet_of b).nodes) node free y x (wire_fit b s h e he).meets hx u v)))

    pub fed_by_masks : (sl : Slots) (f : Fed) (r : Run) → r ≡ unit_run sheet_format s.units →
        SlotsOf s.nodes (node_of (sheet_of b)) sl → FedOf s.wires (input_of (sheet_of b)) f →
        (units_fed r.count (units_in_run b r) sl.occupied f.masks && not f.twice)
        ≡ fed_once (length (sheet_of b).nodes) (node_of (sheet_of b)) (length (sheet_of b).wires) (feeds (sheet_of b))
    fed_by_masks sl f r e slots fed =
        let node = node_of (sheet_of b) in
        let n = ap (λ (r : Run). r.count) e in
        let below : (x : ℕ) → x < length (sheet_of b).nodes → (node x).unit < s.units =
        λ x l. omega (arith, (node_fit b s h x l).on_unit, units_is b, units_said b s h.whole) in
        fed_right (length (sheet_of b).nodes) node (length (sheet_of b).wires) (input_of (sheet_of b)) (feeds (sheet_of b)) r.count (units_in_run b r) sl f
        (subst (λ (k : ℕ). SlotsOf k node sl) nodes_counted slots)
        (subst (λ (k : ℕ). FedOf k (input_of (sheet_of b)) f) wires_counted fed)
        (λ x l. omega (arith, below x l))
        (λ x l. ap (λ (u : Unit). u.kind) (unit_got b s h.whole r e (node x).unit (below x l)) ∙ (node_fit b s h x l).of_kind)
        (λ e l. ((wire_of (sheet_of b) e).to, (wire_fit b s h e l).meets, refl, refl, (wire_fit b s h e l).input_fits))
        feeds_is
