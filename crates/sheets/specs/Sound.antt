-- What the theorems on folding ask of a sheet. Every well-formed sheet is so (`sound` in proofs/SheetLaws.antt). Assumes nothing.
use Rattle.std.specs.Prelude.{◌≡◌, ℕ, ◌<◌, length}
use Rattle.sheets.specs.Sheet.{Sheet, unit_of, node_of, wire_of}

-- its numbers name something, its depths are not 0, no two nodes share a slot of a unit
pub record Sound (s : Sheet) : Type 0 where
  pub turns : 0 < s.fold
  pub some_node : 0 < length s.nodes
  pub on_unit : (x : ℕ) → x < length s.nodes → (node_of s x).unit < length s.units
  pub in_turn : (x : ℕ) → x < length s.nodes → (node_of s x).slot < s.fold
  pub leaves : (e : ℕ) → e < length s.wires → (wire_of s e).from < length s.nodes
  pub meets : (e : ℕ) → e < length s.wires → (wire_of s e).to < length s.nodes
  pub deep : (q : ℕ) → q < length s.units → 0 < (unit_of s q).depth
  pub apart : (x y : ℕ) → x < length s.nodes → y < length s.nodes →
      (node_of s x).unit ≡ (node_of s y).unit → (node_of s x).slot ≡ (node_of s y).slot → x ≡ y
