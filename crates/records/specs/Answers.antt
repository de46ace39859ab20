-- Only passes between functions: what the readers of records answer, the first fault as its reason. Assumes nothing.
use Rattle.std.specs.Prelude.{◌≡◌, Bool, cond, ◌&&◌, List, [], ◌∷◌, ℕ, zero, suc, ◌+◌, ◌*◌, ◌<◌, ◌≤◌, leb, eqb, length, nat_abs, Result, Ok, Err, ⊤}
use Rattle.words.specs.Loops.{first, unless, ◌then◌}
use Rattle.records.specs.declared.Unit.{Unit}
use Rattle.records.specs.declared.Node.{Node}
use Rattle.records.specs.declared.reading.Reason.{Reason}
use Rattle.records.specs.declared.reading.Reason.TheVariants.{Length, Mark, Range, Clash, Unfed, Figures}
use Rattle.records.specs.declared.reading.Header.{Header}
use Rattle.records.specs.declared.reading.Run.{Run}
use Rattle.records.specs.Numbers.{number_of, reason_number}
use Rattle.records.specs.Units.{op_port, unit_fits}
use Rattle.records.specs.Records.{at, Format, fold_in, units_in, nodes_in, wires_in, most_fold, most_units, most_nodes, most_wires, between, counts_fit, whole_length, unit_at, node_at, record_fault, node_fits}

-- ---- "Each call ends in its result or one numbered refusal": reasons and 01's numbers

-- the reason with that number
unfoldable pub reason_of : ℕ → Reason
reason_of n =
    cond (eqb n 1) Length (cond (eqb n 2) Mark (cond (eqb n 3) Range (cond (eqb n 4) Clash (cond (eqb n 5) Unfed Figures))))

-- what is answered at a first fault, of which 0 is none: what was got, or the fault's reason
abbrev pub answered : {A : Type 0} → A → ℕ → Result A Reason
answered got zero = Ok got
answered got (suc n) = Err (reason_of (suc n))

-- a part of the bytes is judged: there is nothing to get
abbrev pub judged : ℕ → Result ⊤ Reason
judged = answered tt

-- 01's number for an answer, 0 for what was got
abbrev pub answer_number : {A : Type 0} → Result A Reason → ℕ
answer_number = number_of reason_number

-- the first refusal of n reads, or none; `read i r` says that read i may answer r
pub record FirstRefused {A : Type 0} (read : ℕ → Result A Reason → Type 0) (n : ℕ) (r : Result ⊤ Reason) : Type 0 where
  pub passed : r ≡ Ok tt → (i : ℕ) → i < n → (got : A) × read i (Ok got)
  pub refused : (why : Reason) → r ≡ Err why → (i : ℕ) × (i < n) × ((j : ℕ) → j < i → (got : A) × read j (Ok got)) × read i (Err why)

-- ---- the bytes of a mark, a header, a unit and a node that sheets and plans share

abbrev pub mark_part : ℕ
mark_part = 2

abbrev pub header_part : ℕ
header_part = 6

abbrev pub unit_part : ℕ
unit_part = 4

abbrev pub node_part : ℕ
node_part = 7

-- ---- the header, n bytes long and with the mark m

abbrev pub header_in : List ℕ → Header
header_in b = record { fold = fold_in b; units = units_in b; nodes = nodes_in b; wires = wires_in b }

abbrev pub header_fits : Header → Bool
header_fits h =
    between 1 h.fold most_fold && between 1 h.units most_units && between 1 h.nodes most_nodes && leb h.wires most_wires

abbrev pub header_fault : List ℕ → ℕ → List ℕ → ℕ
header_fault b n m = unless (leb n (length b)) 1 then record_fault b 0 m (counts_fit b)

unfoldable pub header_answer : List ℕ → ℕ → List ℕ → Result Header Reason
header_answer b n m = answered (header_in b) (header_fault b n m)

-- ---- a run of records of one sort

-- where record i begins
abbrev pub place : Run → ℕ → ℕ
place r i = r.at + r.size * i

abbrev pub mark_of : Run → List ℕ
mark_of r = r.first ∷ r.second ∷ []

-- the run of c records of n bytes each with the mark m, from place o on
abbrev pub run_at : ℕ → ℕ → ℕ → List ℕ → Run
run_at o n c m = record { at = o; size = n; count = c; first = at m 0; second = at m 1 }

-- "Order: header, units, nodes, wires"
abbrev pub unit_run : Format → ℕ → Run
unit_run f u = run_at f.header_length f.unit_length u f.unit_mark

abbrev pub node_run : Format → ℕ → ℕ → Run
node_run f u n = run_at (f.header_length + f.unit_length * u) f.node_length n f.node_mark

abbrev pub wire_run : Format → ℕ → ℕ → ℕ → Run
wire_run f u n w = run_at (f.header_length + f.unit_length * u + f.node_length * n) f.wire_length w f.wire_mark

-- the run ends in a length, n bytes at least to each record
pub record Inside (n : ℕ) (r : Run) (whole : ℕ) : Type 0 where
  pub wide : n ≤ r.size
  pub ends : place r r.count ≤ whole

abbrev pub units_in_run : List ℕ → Run → ℕ → Unit
units_in_run b r q = unit_at b (place r q)

abbrev pub nodes_in_run : List ℕ → Run → ℕ → Node
nodes_in_run b r x = node_at b (place r x)

-- units
unfoldable pub unit_fault : List ℕ → Run → ℕ → ℕ
unit_fault b r i = record_fault b (place r i) (mark_of r) (unit_fits (units_in_run b r i))

abbrev pub unit_answer : List ℕ → Run → ℕ → Result Unit Reason
unit_answer b r i = answered (units_in_run b r i) (unit_fault b r i)

abbrev pub units_fault : List ℕ → Run → ℕ
units_fault b r = first r.count (unit_fault b r)

-- nodes among those units
unfoldable pub node_fault : List ℕ → ℕ → Run → Run → ℕ → ℕ
node_fault b fold us r i = record_fault b (place r i) (mark_of r) (node_fits fold us.count (units_in_run b us) (nodes_in_run b r i))

abbrev pub node_answer : List ℕ → ℕ → Run → Run → ℕ → Result Node Reason
node_answer b fold us r i = answered (nodes_in_run b r i) (node_fault b fold us r i)

abbrev pub nodes_fault : List ℕ → ℕ → Run → Run → ℕ
nodes_fault b fold us r = first r.count (node_fault b fold us r)

-- "then total length; then each record in file order": up to the nodes, of bytes that should be so long
abbrev pub parts_fault : List ℕ → ℕ → ℕ → Run → Run → ℕ
parts_fault b whole fold us r = unless (eqb (length b) whole) 1 then units_fault b us then nodes_fault b fold us r

-- the same of bytes in a format, by what their header says
unfoldable pub front_fault : Format → List ℕ → ℕ
front_fault f b = parts_fault b (whole_length f b) (fold_in b) (unit_run f (units_in b)) (node_run f (units_in b) (nodes_in b))

-- ---- ports

-- "channel 0 to 15": a port's channel is its K; any other node has none, and 0 stands for it
abbrev pub channel_of : Node → ℕ
channel_of n = cond (eqb n.op op_port) (nat_abs n.k) 0
