-- Only passes between functions: the bytes of the first records of each sort in a sheet's plan. Assumes nothing.
use Rattle.std.specs.Prelude.{◌≡◌, List, ℕ, length, get_or}
use Rattle.std.specs.Int.Count.{ones}
use Rattle.words.specs.Loops.{tab}
use Rattle.records.specs.Records.{occupied}
use Rattle.sheets.specs.Sheet.{Sheet, node_of, wire_of, sheet_of}
use Rattle.folding.specs.Walks.{start}
use Rattle.folding.specs.Folding.{net}
use Rattle.plans.specs.declared.Joint.{Joint}
use Rattle.plans.specs.Plan.{unit_bytes, node_bytes, switch_bytes, concat}
use Rattle.drawing.specs.PlanOf.{plan_unit, plan_node, plan_switch}

-- the ones of each unit's mask are as many as its occupied slots
abbrev pub Counted : List ℕ → List ℕ → Type 0
Counted b masks = (q : ℕ) → ones (get_or masks q 0) ≡ occupied (sheet_of b).fold (length (sheet_of b).nodes) (node_of (sheet_of b)) q

-- what wire e's switch joins
abbrev pub joint_of : Sheet → ℕ → Joint
joint_of s e =
    let w = wire_of s e in
    record { unit = (node_of s w.to).unit; input = w.input; slot = (node_of s w.to).slot; source = (node_of s w.from).unit }

-- the starts of the sheet that the bytes say
abbrev pub starts_in : List ℕ → ℕ → ℕ
starts_in b = start (net (sheet_of b))

abbrev pub unit_records : List ℕ → ℕ → List ℕ
unit_records b n = concat unit_bytes (tab n (plan_unit (sheet_of b) (starts_in b)))

abbrev pub node_records : List ℕ → ℕ → List ℕ
node_records b n = concat node_bytes (tab n (plan_node (sheet_of b) (starts_in b)))

abbrev pub switch_records : List ℕ → ℕ → List ℕ
switch_records b n = concat switch_bytes (tab n (plan_switch (sheet_of b) (starts_in b)))
