-- A sheet's records stand in the bytes where its header says, and what is read there is the sheet's. Assumes nothing.
use mathlib.Core.Path.{◌≡◌, refl, sym, ap, ◌∙◌}
use mathlib.Core.List.{List}
use Prim.Native.Nat.{ℕ, ◌<◌}
use native.Mathlib.Omega.{arith}
use lib.ListN.{length}
use Rattle.records.specs.declared.reading.Run.{Run}
use Rattle.records.specs.Records.{fold_in, units_in, nodes_in, wires_in, wire_place, marked}
use Rattle.records.specs.Answers.{unit_part, node_part, place, mark_of, unit_run, node_run, wire_run, Inside, units_in_run, nodes_in_run}
use Rattle.records.proofs.AnswerLaws.{units_inside, nodes_inside}
use Rattle.sheets.specs.declared.Sheet.{Sheet as Header}
use Rattle.sheets.specs.Sheet.{unit_of, node_of, wire_of, sheet_format, wire_at, sheet_of}
use Rattle.sheets.specs.Answers.{header_of, Whole}
use Rattle.sheets.proofs.SheetLaws.{units_is, nodes_is, wires_is, unit_read, node_read, wire_read}

-- ---- what the header says

module _ (b : List ℕ) (s : Header) (e : s ≡ header_of b) where
  pub said_fold : s.fold ≡ fold_in b
  said_fold = ap (λ (s : Header). s.fold) e

  pub said_units : s.units ≡ units_in b
  said_units = ap (λ (s : Header). s.units) e

  pub said_nodes : s.nodes ≡ nodes_in b
  said_nodes = ap (λ (s : Header). s.nodes) e

  pub said_wires : s.wires ≡ wires_in b
  said_wires = ap (λ (s : Header). s.wires) e

-- ---- where the records stand

module _ (b : List ℕ) (s : Header) (w : Whole b s) where
  pub units_said : s.units ≡ units_in b
  units_said = said_units b s w.said

  pub nodes_said : s.nodes ≡ nodes_in b
  nodes_said = said_nodes b s w.said

  pub wires_said : s.wires ≡ wires_in b
  wires_said = said_wires b s w.said

  long : length b ≡ place (wire_run sheet_format s.units s.nodes s.wires) s.wires
  long = w.long ∙ rw (units_said, nodes_said, wires_said) refl

  pub unit_room : (r : Run) → r ≡ unit_run sheet_format s.units → Inside unit_part r (length b)
  unit_room r e = rw (e, long) (units_inside sheet_format s.units s.nodes s.wires unit_part (omega arith))

  pub node_room : (r : Run) → r ≡ node_run sheet_format s.units s.nodes → Inside node_part r (length b)
  node_room r e = rw (e, long) (nodes_inside sheet_format s.units s.nodes s.wires node_part (omega arith))

  pub unit_got : (r : Run) → r ≡ unit_run sheet_format s.units → (q : ℕ) → q < s.units → units_in_run b r q ≡ unit_of (sheet_of b) q
  unit_got r e q l = rw e (sym (unit_read b q (omega (arith, units_is b, units_said))))

  pub node_got : (r : Run) → r ≡ node_run sheet_format s.units s.nodes → (x : ℕ) → x < s.nodes → nodes_in_run b r x ≡ node_of (sheet_of b) x
  node_got r e x l = rw (e, units_said) (sym (node_read b x (omega (arith, nodes_is b, nodes_said))))

  pub wire_got : (r : Run) → r ≡ wire_run sheet_format s.units s.nodes s.wires → (e : ℕ) → e < s.wires → wire_at b (place r e) ≡ wire_of (sheet_of b) e
  wire_got r h e l = rw (h, units_said, nodes_said) (sym (wire_read b e (omega (arith, wires_is b, wires_said))))

  pub wire_marked : (r : Run) → r ≡ wire_run sheet_format s.units s.nodes s.wires → (e : ℕ) →
      marked b (place r e) (mark_of r) ≡ marked b (wire_place sheet_format b e) sheet_format.wire_mark
  wire_marked r h e = rw (h, units_said, nodes_said) refl
