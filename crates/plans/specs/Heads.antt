-- Only passes between functions: what a plan's header and a switch's joint are, as the code holds them, and what bytes of the right
-- length are. Assumes nothing.
use Rattle.std.specs.Prelude.{◌≡◌, List, ℕ, ◌+◌, ◌<◌, length}
use Rattle.records.specs.Records.{at, fold_in, units_in, nodes_in, wires_in, whole_length}
use Rattle.plans.specs.declared.Plan.{Plan}
use Rattle.plans.specs.declared.Joint.{Joint}
use Rattle.plans.specs.Plan.{plan_format}

-- "`PH` N, units, nodes, wires"
abbrev pub plan_head : List ℕ → Plan
plan_head b = record { fold = fold_in b; units = units_in b; nodes = nodes_in b; wires = wires_in b }

-- "`PS` unit, input, slot, source unit"
abbrev pub joint_at : List ℕ → ℕ → Joint
joint_at b o = record { unit = at b (o + 2); input = at b (o + 3); slot = at b (o + 4); source = at b (o + 5) }

-- p is the header that the bytes say, and they are as long as it says
pub record Whole (b : List ℕ) (p : Plan) : Type 0 where
  pub said : p ≡ plan_head b
  pub long : length b ≡ whole_length plan_format b

-- a header's counts are bytes
pub record Counted (p : Plan) : Type 0 where
  pub few_units : p.units < 256
  pub few_nodes : p.nodes < 256
  pub few_wires : p.wires < 256
