-- Only passes between functions: what reading a sheet answers, and what its wires feed. Assumes nothing.
use Rattle.std.specs.Prelude.{◌≡◌, true, not, List, ℕ, ◌<◌, length, Result}
use Rattle.words.specs.Loops.{first, unless, ◌then◌}
use Rattle.records.specs.declared.reading.Reason.{Reason}
use Rattle.slots.specs.declared.feeding.Input.{Input}
use Rattle.records.specs.Records.{fold_in, units_in, nodes_in, wires_in, counts_fit, wire_place, whole_length, record_fault, node_fits, clashes, fed_once}
use Rattle.records.specs.Answers.{answered, header_fault, front_fault}
use Rattle.sheets.specs.declared.Sheet.{Sheet as Header}
use Rattle.sheets.specs.declared.Wire.{Wire}
use Rattle.sheets.specs.Sheet.{Sheet, unit_of, node_of, wire_of, sheet_format, sheet_of, wire_fits, feeds, sheet_fault}

-- ---- the whole reading

-- what the header says
abbrev pub header_of : List ℕ → Header
header_of b = record { fold = fold_in b; units = units_in b; nodes = nodes_in b; wires = wires_in b }

-- "Each call ends in its result or one numbered refusal": the sheet that the header says, or the reason of the first fault
unfoldable pub sheet_answer : List ℕ → Result Header Reason
sheet_answer b = answered (header_of b) (sheet_fault b)

-- ---- its parts, in 01's order

-- the header
abbrev pub head_fault : List ℕ → ℕ
head_fault b = header_fault b sheet_format.header_length sheet_format.header_mark

unfoldable pub header_answer : List ℕ → Result Header Reason
header_answer b = answered (header_of b) (head_fault b)

-- the wires
unfoldable pub wire_fault : List ℕ → ℕ → ℕ
wire_fault b e = record_fault b (wire_place sheet_format b e) sheet_format.wire_mark (wire_fits (sheet_of b) (wire_of (sheet_of b) e))

abbrev pub wire_answer : List ℕ → ℕ → Result Wire Reason
wire_answer b e = answered (wire_of (sheet_of b) e) (wire_fault b e)

abbrev pub wires_fault : List ℕ → ℕ
wires_fault b = first (wires_in b) (wire_fault b)

-- the total length and the records
abbrev pub records_fault : List ℕ → ℕ
records_fault b = front_fault sheet_format b then wires_fault b

-- 4 and 5
abbrev pub nodes_fault : Sheet → ℕ
nodes_fault s =
    unless (not (clashes (length s.nodes) (node_of s))) 4 then unless (fed_once (length s.nodes) (node_of s) (length s.wires) (feeds s)) 5

-- the input that wire e feeds
abbrev pub input_of : Sheet → ℕ → Input
input_of s e = record { unit = (node_of s (wire_of s e).to).unit; slot = (node_of s (wire_of s e).to).slot; input = (wire_of s e).input }

-- ---- what the readers ask

-- the header is what the bytes say, N and the numbers in their ranges
pub record HeaderSaid (b : List ℕ) (s : Header) : Type 0 where
  pub said : s ≡ header_of b
  pub counts : counts_fit b ≡ true

-- the header is what the bytes say, and they are as long as it says
pub record Whole (b : List ℕ) (s : Header) : Type 0 where
  pub said : s ≡ header_of b
  pub long : length b ≡ whole_length sheet_format b

-- and every node and wire lies in its ranges
pub record Held (b : List ℕ) (s : Header) : Type 0 where
  pub whole : Whole b s
  pub counts : counts_fit b ≡ true
  pub node_ok : (x : ℕ) → x < nodes_in b → node_fits (sheet_of b).fold (length (sheet_of b).units) (unit_of (sheet_of b)) (node_of (sheet_of b) x) ≡ true
  pub wire_ok : (e : ℕ) → e < wires_in b → wire_fits (sheet_of b) (wire_of (sheet_of b) e) ≡ true
