-- A plan, its bytes and its reading from bytes: 01, "Plan bytes". Assumes nothing.
use Rattle.std.specs.Prelude.{List, [], ◌∷◌, ◌++◌, ℕ, ◌+◌, ◌*◌, ◌/◌, length, get_or, pos}
use Rattle.words.specs.Loops.{tab}
use Rattle.words.specs.Words.{residue}
use Rattle.records.specs.declared.Unit.{Unit}
use Rattle.records.specs.declared.Node.{Node}
use Rattle.records.specs.Records.{at, two, low, high, Format, fold_in, units_in, nodes_in, wires_in, unit_place, node_place, wire_place, unit_at, node_at}

-- "`PU` kind, depth, line length in two bytes, idle slots"
pub record PlanUnit : Type 0 where
  pub unit : Unit
  pub line : ℕ
  pub idle : ℕ

-- "`PN` unit, slot, op, K in two, start in two"
pub record PlanNode : Type 0 where
  pub node : Node
  pub start : ℕ

-- "`PS` unit, input, slot, source unit, tap in two": "in that slot the unit's input reads the source's line at that tap"
pub record Switch : Type 0 where
  pub unit : ℕ
  pub input : ℕ
  pub slot : ℕ
  pub source : ℕ
  pub tap : ℕ

-- "`PH` N, units, nodes, wires, registers in two bytes, chain"; the number of wires is that of the switches
pub record Plan : Type 0 where
  pub fold : ℕ
  pub units : List PlanUnit
  pub nodes : List PlanNode
  pub switches : List Switch
  pub registers : ℕ
  pub chain : ℕ

abbrev pub no_unit : PlanUnit
no_unit = record { unit = record { kind = 0; depth = 0 }; line = 0; idle = 0 }

abbrev pub no_node : PlanNode
no_node = record { node = record { unit = 0; slot = 0; op = 0; k = pos 0 }; start = 0 }

abbrev pub no_switch : Switch
no_switch = record { unit = 0; input = 0; slot = 0; source = 0; tap = 0 }

abbrev pub unit_in : Plan → ℕ → PlanUnit
unit_in p q = get_or p.units q no_unit

abbrev pub node_in : Plan → ℕ → PlanNode
node_in p x = get_or p.nodes x no_node

abbrev pub switch_in : Plan → ℕ → Switch
switch_in p e = get_or p.switches e no_switch

-- ---- bytes

-- `PH` of 9 bytes, `PU` of 7, `PN` of 9, `PS` of 8
abbrev pub plan_format : Format
plan_format = record {
  header_mark = 80 ∷ 72 ∷ [];
  unit_mark = 80 ∷ 85 ∷ [];
  node_mark = 80 ∷ 78 ∷ [];
  wire_mark = 80 ∷ 83 ∷ [];
  header_length = 9;
  unit_length = 7;
  node_length = 9;
  wire_length = 8;
}

abbrev pub unit_bytes : PlanUnit → List ℕ
unit_bytes u = plan_format.unit_mark ++ (u.unit.kind ∷ u.unit.depth ∷ low u.line ∷ high u.line ∷ u.idle ∷ [])

abbrev pub node_bytes : PlanNode → List ℕ
node_bytes x =
    let n = x.node in
    let k = residue n.k 65536 in
    plan_format.node_mark ++ (n.unit ∷ n.slot ∷ n.op ∷ low k ∷ high k ∷ low x.start ∷ high x.start ∷ [])

abbrev pub switch_bytes : Switch → List ℕ
switch_bytes w =
    plan_format.wire_mark ++ (w.unit ∷ w.input ∷ w.slot ∷ w.source ∷ low w.tap ∷ high w.tap ∷ [])

abbrev pub head_bytes : ℕ → ℕ → ℕ → ℕ → ℕ → ℕ → List ℕ
head_bytes fold units nodes wires registers chain =
    plan_format.header_mark ++ (fold ∷ units ∷ nodes ∷ wires ∷ low registers ∷ high registers ∷ chain ∷ [])

abbrev pub header_bytes : Plan → List ℕ
header_bytes p = head_bytes p.fold (length p.units) (length p.nodes) (length p.switches) p.registers p.chain

-- the records' bytes one after the other
unfoldable pub concat {ℓ} : {A : Type ℓ} → (A → List ℕ) → List A → List ℕ
concat f [] = []
concat f (a ∷ l) = f a ++ concat f l

unfoldable pub plan_bytes : Plan → List ℕ
plan_bytes p = header_bytes p ++ (concat unit_bytes p.units ++ (concat node_bytes p.nodes ++ concat switch_bytes p.switches))

-- "`PW` and a wire number (3 bytes) for each wire of one closed loop"
abbrev pub loop_mark : List ℕ
loop_mark = 80 ∷ 87 ∷ []

abbrev pub loop_length : ℕ
loop_length = 3

abbrev pub loop_wire_bytes : ℕ → List ℕ
loop_wire_bytes e = loop_mark ++ (e ∷ [])

unfoldable pub loop_bytes : List ℕ → List ℕ
loop_bytes = concat loop_wire_bytes

-- the wire numbers of the loop in the first `len` bytes of b
abbrev pub loop_read : ℕ → List ℕ → List ℕ
loop_read len b = tab (len / loop_length) (λ i. at b (loop_length * i + 2))

-- ---- the plan that bytes say

abbrev pub plan_unit_at : List ℕ → ℕ → PlanUnit
plan_unit_at b o = record { unit = unit_at b o; line = two b (o + 4); idle = at b (o + 6) }

abbrev pub plan_node_at : List ℕ → ℕ → PlanNode
plan_node_at b o = record { node = node_at b o; start = two b (o + 7) }

abbrev pub switch_at : List ℕ → ℕ → Switch
switch_at b o = record { unit = at b (o + 2); input = at b (o + 3); slot = at b (o + 4); source = at b (o + 5); tap = two b (o + 6) }

unfoldable pub plan_read : List ℕ → Plan
plan_read b = record {
  fold = fold_in b;
  units = tab (units_in b) (λ i. plan_unit_at b (unit_place plan_format b i));
  nodes = tab (nodes_in b) (λ i. plan_node_at b (node_place plan_format b i));
  switches = tab (wires_in b) (λ i. switch_at b (wire_place plan_format b i));
  registers = two b 6;
  chain = at b 8;
}
