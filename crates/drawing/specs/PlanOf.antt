-- The plan of a sheet: 01, "Plan bytes" over "The folding rules". Assumes nothing.
use Rattle.std.specs.Prelude.{List, ℕ, ◌-◌, length, get_or}
use Rattle.words.specs.Loops.{tab}
use Rattle.records.specs.Records.{occupied, whole_length}
use Rattle.sheets.specs.Sheet.{Sheet, unit_of, node_of, wire_of}
use Rattle.folding.specs.Walks.{starts, chain}
use Rattle.folding.specs.Folding.{net, tap}
use Rattle.folding.specs.Lifetime.{registers}
use Rattle.plans.specs.Plan.{PlanUnit, PlanNode, Switch, Plan, plan_format}
use Rattle.plans.specs.Judging.{longest_tap}

-- node x with its start
abbrev pub plan_node : Sheet → (ℕ → ℕ) → ℕ → PlanNode
plan_node s r x = record { node = node_of s x; start = r x }

-- "One `PS` for each wire, in sheet order": U→V switches V's unit in V's slot, at the wire's input, to U's unit; "tap = the wire's wait"
abbrev pub plan_switch : Sheet → (ℕ → ℕ) → ℕ → Switch
plan_switch s r e =
    let w = wire_of s e in
    let to = node_of s w.to in
    record { unit = to.unit; input = w.input; slot = to.slot; source = (node_of s w.from).unit; tap = tap s r e }

-- unit q with "the largest tap that reads the unit, else 0" and "N less the unit's occupied slots"
abbrev pub plan_unit : Sheet → (ℕ → ℕ) → ℕ → PlanUnit
plan_unit s r q = record {
  unit = unit_of s q;
  line = longest_tap (length s.wires) (plan_switch s r) q;
  idle = s.fold - occupied s.fold (length s.nodes) (node_of s) q;
}

-- the plan with starts r
abbrev pub plan_with : Sheet → (ℕ → ℕ) → Plan
plan_with s r = record {
  fold = s.fold;
  units = tab (length s.units) (plan_unit s r);
  nodes = tab (length s.nodes) (plan_node s r);
  switches = tab (length s.wires) (plan_switch s r);
  registers = registers s r;
  chain = chain (net s);
}

-- the plan with the latest retiming's starts
unfoldable pub plan_of : Sheet → Plan
plan_of s = let r = starts (net s) in plan_with s (λ u. get_or r u 0)

-- the length of the plan that a sheet's header asks for
abbrev pub plan_length : List ℕ → ℕ
plan_length b = whole_length plan_format b
