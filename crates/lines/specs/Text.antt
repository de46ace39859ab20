-- The text of a plan and of a refusal: 01, "Sheets worked by hand", its end. "Fields are the plan's, in plan order." Every line ends with a
-- line feed. Assumes nothing.
use Rattle.std.specs.Prelude.{List, ◌++◌, ℕ, length}
use Rattle.words.specs.Loops.{joined}
use Rattle.records.specs.Records.{at}
use Rattle.plans.specs.Plan.{Plan, PlanUnit, PlanNode, Switch, unit_in, node_in, switch_in}
use Rattle.numerals.specs.Numerals.{ascii, field, signed_field, line_feed}

-- ---- the lines of a plan

-- "fold 4 units 2 nodes 2 wires 2 registers 1 chain 1"
unfoldable pub head_line : ℕ → ℕ → ℕ → ℕ → ℕ → ℕ → List ℕ
head_line fold units nodes wires registers chain =
    field "fold " fold
    ++ (field " units " units
    ++ (field " nodes " nodes
    ++ (field " wires " wires
    ++ (field " registers " registers
    ++ (field " chain " chain
    ++ line_feed)))))

abbrev pub header_line : Plan → List ℕ
header_line p = head_line p.fold (length p.units) (length p.nodes) (length p.switches) p.registers p.chain

-- "unit 0 kind 2 depth 1 line 0 idle 3"
unfoldable pub unit_line : ℕ → PlanUnit → List ℕ
unit_line i u =
    field "unit " i
    ++ (field " kind " u.unit.kind
    ++ (field " depth " u.unit.depth
    ++ (field " line " u.line
    ++ (field " idle " u.idle
    ++ line_feed))))

-- "node 1 unit 1 slot 1 op 3 k -32768 start 0"
unfoldable pub node_line : ℕ → PlanNode → List ℕ
node_line i n =
    field "node " i
    ++ (field " unit " n.node.unit
    ++ (field " slot " n.node.slot
    ++ (field " op " n.node.op
    ++ (signed_field " k " n.node.k
    ++ (field " start " n.start
    ++ line_feed)))))

-- "switch 0 unit 1 input 0 slot 1 source 0 tap 0"
unfoldable pub switch_line : ℕ → Switch → List ℕ
switch_line i w =
    field "switch " i
    ++ (field " unit " w.unit
    ++ (field " input " w.input
    ++ (field " slot " w.slot
    ++ (field " source " w.source
    ++ (field " tap " w.tap
    ++ line_feed)))))

abbrev pub unit_lines : Plan → ℕ → List ℕ
unit_lines p i = unit_line i (unit_in p i)

abbrev pub node_lines : Plan → ℕ → List ℕ
node_lines p i = node_line i (node_in p i)

abbrev pub switch_lines : Plan → ℕ → List ℕ
switch_lines p i = switch_line i (switch_in p i)

-- no line of a plan is longer
abbrev pub line_most : ℕ
line_most = 128

-- the whole print of a plan
unfoldable pub plan_text : Plan → List ℕ
plan_text p =
    header_line p
    ++ (joined (length p.units) (unit_lines p)
    ++ (joined (length p.nodes) (node_lines p)
    ++ joined (length p.switches) (switch_lines p)))

-- ---- refusals

-- "other refusals print `refused` and the number"
unfoldable pub refused_text : ℕ → List ℕ
refused_text number = field "refused " number ++ line_feed

-- "refused 6 wires 0 1": the loop's wires in walking order
unfoldable pub loop_text : List ℕ → List ℕ
loop_text wires = field "refused " 6 ++ (ascii " wires" ++ (joined (length wires) (λ i. field " " (at wires i)) ++ line_feed))
