-- The bytes of a record, and the judging that sheets and plans share: first fault wins. Assumes nothing.
use Rattle.std.specs.Prelude.{Bool, ◌&&◌, ◌||◌, List, ◌++◌, ℕ, ◌+◌, ◌*◌, ◌/◌, ◌%◌, ltb, leb, eqb, length, get_or, drop, nat_abs}
use Rattle.words.specs.Loops.{every, some_of, count, first, unless, ◌then◌}
use Rattle.words.specs.Words.{signed}
use Rattle.records.specs.declared.Unit.{Unit}
use Rattle.records.specs.declared.Node.{Node}
use Rattle.records.specs.Units.{op_port, last_op, kind_of, inputs_of, k_fits}

-- ---- bytes

-- byte i
abbrev pub at : List ℕ → ℕ → ℕ
at b i = get_or b i 0

-- "two-byte fields are little-endian"
abbrev pub two : List ℕ → ℕ → ℕ
two b i = at b i + 256 * at b (i + 1)

abbrev pub low : ℕ → ℕ
low n = n % 256

abbrev pub high : ℕ → ℕ
high n = n / 256 % 256

-- w at the head of the lent slice l; "their rest is kept"
abbrev pub over : List ℕ → List ℕ → List ℕ
over w l = w ++ drop (length w) l

-- ---- what a header says, of a sheet and of a plan: "N, units, nodes, wires" after its mark

abbrev pub fold_in : List ℕ → ℕ
fold_in b = at b 2

abbrev pub units_in : List ℕ → ℕ
units_in b = at b 3

abbrev pub nodes_in : List ℕ → ℕ
nodes_in b = at b 4

abbrev pub wires_in : List ℕ → ℕ
wires_in b = at b 5

-- "Ranges: N 1 to 32, units 1 to 8, nodes 1 to 48, wires 0 to 96"
abbrev pub most_fold : ℕ
most_fold = 32

abbrev pub most_units : ℕ
most_units = 8

abbrev pub most_nodes : ℕ
most_nodes = 48

abbrev pub most_wires : ℕ
most_wires = 96

abbrev pub between : ℕ → ℕ → ℕ → Bool
between lo x hi = leb lo x && leb x hi

abbrev pub counts_fit : List ℕ → Bool
counts_fit b =
    between 1 (fold_in b) most_fold && between 1 (units_in b) most_units && between 1 (nodes_in b) most_nodes && leb (wires_in b) most_wires

-- ---- where records stand: "Order: header, units, nodes, wires"

-- the marks of the four sorts of record, and their lengths in bytes
pub record Format : Type 0 where
  pub header_mark : List ℕ
  pub unit_mark : List ℕ
  pub node_mark : List ℕ
  pub wire_mark : List ℕ
  pub header_length : ℕ
  pub unit_length : ℕ
  pub node_length : ℕ
  pub wire_length : ℕ

-- where record i of each sort begins; "numbers are places from 0"
abbrev pub unit_place : Format → List ℕ → ℕ → ℕ
unit_place f b i = f.header_length + f.unit_length * i

abbrev pub node_place : Format → List ℕ → ℕ → ℕ
node_place f b i = unit_place f b (units_in b) + f.node_length * i

abbrev pub wire_place : Format → List ℕ → ℕ → ℕ
wire_place f b i = node_place f b (nodes_in b) + f.wire_length * i

-- the length that the header says
abbrev pub whole_length : Format → List ℕ → ℕ
whole_length f b = wire_place f b (wires_in b)

-- "kind, depth", and "unit, slot, op, K in two bytes as two's complement", behind the mark
abbrev pub unit_at : List ℕ → ℕ → Unit
unit_at b o = record { kind = at b (o + 2); depth = at b (o + 3) }

abbrev pub node_at : List ℕ → ℕ → Node
node_at b o = record { unit = at b (o + 2); slot = at b (o + 3); op = at b (o + 4); k = signed 32768 (two b (o + 5)) }

-- ---- faults of records

-- "A two-byte mark opens every record"
abbrev pub marked : List ℕ → ℕ → List ℕ → Bool
marked b o m = eqb (at b o) (at m 0) && eqb (at b (o + 1)) (at m 1)

-- "mark before range"
abbrev pub record_fault : List ℕ → ℕ → List ℕ → Bool → ℕ
record_fault b o m fits = unless (marked b o m) 2 then unless fits 3

-- "header length, mark, ranges; then total length; then each record in file order, mark before range, first fault wins".
-- `ranges` is the header's own test, `unit i`, `node i` and `wire i` those of the records
unfoldable pub reading_fault : Format → List ℕ → Bool → (ℕ → Bool) → (ℕ → Bool) → (ℕ → Bool) → ℕ
reading_fault f b ranges unit node wire =
    unless (leb f.header_length (length b)) 1
    then record_fault b 0 f.header_mark ranges
    then unless (eqb (length b) (whole_length f b)) 1
    then first (units_in b) (λ i. record_fault b (unit_place f b i) f.unit_mark (unit i))
    then first (nodes_in b) (λ i. record_fault b (node_place f b i) f.node_mark (node i))
    then first (wires_in b) (λ i. record_fault b (wire_place f b i) f.wire_mark (wire i))

-- ---- a node's own ranges, among `units` units of which number q is `unit q`

-- "a field out of range, a number naming nothing, op against unit kind"
abbrev pub node_fits : ℕ → ℕ → (ℕ → Unit) → Node → Bool
node_fits fold units unit n =
    ltb n.unit units && ltb n.slot fold && leb n.op last_op && eqb (unit n.unit).kind (kind_of n.op) && k_fits n.op n.k

-- ---- n nodes of which number x is `node x`

-- "two nodes in one slot of a unit, or two port nodes of one channel"
abbrev pub clash : Node → Node → Bool
clash m n =
    (eqb m.unit n.unit && eqb m.slot n.slot)
    || (eqb m.op op_port && eqb n.op op_port && eqb (nat_abs m.k) (nat_abs n.k))

-- some node clashes with an earlier one
unfoldable pub clashes : ℕ → (ℕ → Node) → Bool
clashes n node = some_of n (λ y. some_of y (λ x. clash (node x) (node y)))

-- a node runs on unit q in slot v
abbrev pub runs_in : ℕ → ℕ → Node → Bool
runs_in q v n = eqb n.unit q && eqb n.slot v

-- the unit's occupied slots: those below N in which some node runs on it
unfoldable pub occupied : ℕ → ℕ → (ℕ → Node) → ℕ → ℕ
occupied fold n node q = count fold (λ v. some_of n (λ x. runs_in q v (node x)))

-- "a node's input fed by no wire (in a plan, no switch) or by more than one" is 5: of w wires or switches
-- `feeds x i e` says that e feeds input i of node x
unfoldable pub fed_once : ℕ → (ℕ → Node) → ℕ → (ℕ → ℕ → ℕ → Bool) → Bool
fed_once n node w feeds = every n (λ x. every (inputs_of (node x).op) (λ i. eqb (count w (feeds x i)) 1))
