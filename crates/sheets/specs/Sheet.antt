-- A folding sheet, its reading from bytes, and the first fault of any bytes: 01, "Sheet bytes" and refusals 1 to 5. Assumes nothing.
use Rattle.std.specs.Prelude.{Bool, not, ◌&&◌, List, [], ◌∷◌, ℕ, ◌+◌, ltb, leb, eqb, length, get_or, pos}
use Rattle.words.specs.Loops.{tab, unless, ◌then◌}
use Rattle.records.specs.declared.Unit.{Unit}
use Rattle.records.specs.declared.Node.{Node}
use Rattle.records.specs.Units.{unit_fits, inputs_of}
use Rattle.records.specs.Records.{at, Format, fold_in, units_in, nodes_in, wires_in, counts_fit, unit_place, node_place, wire_place, unit_at, node_at, reading_fault, node_fits, clashes, fed_once}
use Rattle.sheets.specs.declared.Wire.{Wire}

-- "a data-flow graph with its folding sets and pipeline depths"
pub record Sheet : Type 0 where
  pub fold : ℕ
  pub units : List Unit
  pub nodes : List Node
  pub wires : List Wire

abbrev pub unit_of : Sheet → ℕ → Unit
unit_of s q = get_or s.units q (record { kind = 0; depth = 0 })

abbrev pub node_of : Sheet → ℕ → Node
node_of s x = get_or s.nodes x (record { unit = 0; slot = 0; op = 0; k = pos 0 })

abbrev pub wire_of : Sheet → ℕ → Wire
wire_of s e = get_or s.wires e (record { from = 0; to = 0; input = 0; delays = 0 })

-- ---- bytes

-- "`FH` N, units, nodes, wires (6 bytes)", "`FU` kind, depth (4)", "`FN` unit, slot, op, K (7)", "`FE` from, to, input, delays (6)"
abbrev pub sheet_format : Format
sheet_format = record {
  header_mark = 70 ∷ 72 ∷ [];
  unit_mark = 70 ∷ 85 ∷ [];
  node_mark = 70 ∷ 78 ∷ [];
  wire_mark = 70 ∷ 69 ∷ [];
  header_length = 6;
  unit_length = 4;
  node_length = 7;
  wire_length = 6;
}

abbrev pub wire_at : List ℕ → ℕ → Wire
wire_at b o = record { from = at b (o + 2); to = at b (o + 3); input = at b (o + 4); delays = at b (o + 5) }

-- the sheet that the bytes say
unfoldable pub sheet_of : List ℕ → Sheet
sheet_of b = record {
  fold = fold_in b;
  units = tab (units_in b) (λ i. unit_at b (unit_place sheet_format b i));
  nodes = tab (nodes_in b) (λ i. node_at b (node_place sheet_format b i));
  wires = tab (wires_in b) (λ i. wire_at b (wire_place sheet_format b i));
}

-- ---- faults

-- "delays 0 to 63"
abbrev pub most_delays : ℕ
most_delays = 63

-- "a number naming nothing", "an input the node hasn't got"
abbrev pub wire_fits : Sheet → Wire → Bool
wire_fits s w =
    ltb w.from (length s.nodes) && ltb w.to (length s.nodes)
    && ltb w.input (inputs_of (node_of s w.to).op) && leb w.delays most_delays

-- wire e feeds input i of node x
abbrev pub feeds : Sheet → ℕ → ℕ → ℕ → Bool
feeds s x i e = eqb (wire_of s e).to x && eqb (wire_of s e).input i

-- the first fault of bytes b that say the sheet s: 0, or the refusal's number from 1 to 5
unfoldable pub sheet_faults : List ℕ → Sheet → ℕ
sheet_faults b s =
    reading_fault sheet_format b (counts_fit b)
    (λ i. unit_fits (unit_of s i))
    (λ i. node_fits s.fold (length s.units) (unit_of s) (node_of s i))
    (λ i. wire_fits s (wire_of s i))
    then unless (not (clashes (length s.nodes) (node_of s))) 4
    then unless (fed_once (length s.nodes) (node_of s) (length s.wires) (feeds s)) 5

abbrev pub sheet_fault : List ℕ → ℕ
sheet_fault b = sheet_faults b (sheet_of b)
