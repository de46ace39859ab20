-- The first fault of any bytes as a plan: 01, refusals 1 to 5 and 9. Assumes nothing.
use Rattle.std.specs.Prelude.{Bool, not, cond, ◌&&◌, List, ℕ, ◌-◌, ltb, leb, eqb, length}
use Rattle.words.specs.Loops.{every, some_of, largest, unless, ◌then◌}
use Rattle.records.specs.Units.{unit_fits, inputs_of}
use Rattle.records.specs.Records.{counts_fit, reading_fault, node_fits, clashes, runs_in, occupied, fed_once}
use Rattle.plans.specs.Plan.{Plan, Switch, unit_in, node_in, switch_in, plan_format, plan_read}

-- "its chain must be 0 to 47"
abbrev pub most_chain : ℕ
most_chain = 47

-- a unit to read, an input of the node in its slot, and "a switch into an empty slot" is 3
abbrev pub switch_fits : Plan → Switch → Bool
switch_fits p w =
    ltb w.unit (length p.units) && ltb w.slot p.fold && ltb w.source (length p.units)
    && some_of (length p.nodes) (λ x. runs_in w.unit w.slot (node_in p x).node && ltb w.input (inputs_of (node_in p x).node.op))

-- switch e feeds input i of unit q in slot v
abbrev pub switched : Plan → ℕ → ℕ → ℕ → ℕ → Bool
switched p q v i e = eqb (switch_in p e).unit q && eqb (switch_in p e).slot v && eqb (switch_in p e).input i

-- switch e feeds input i of node x
abbrev pub plan_feeds : Plan → ℕ → ℕ → ℕ → Bool
plan_feeds p x i e = switched p (node_in p x).node.unit (node_in p x).node.slot i e

-- "Line length is the largest tap that reads the unit, else 0", of n switches
unfoldable pub longest_tap : ℕ → (ℕ → Switch) → ℕ → ℕ
longest_tap n switch q = largest n (λ e. cond (eqb (switch e).source q) (switch e).tap 0)

-- "Idle slots are N less the unit's occupied slots."
abbrev pub idle_slots : Plan → ℕ → ℕ
idle_slots p q = p.fold - occupied p.fold (length p.nodes) (λ x. (node_in p x).node) q

-- "a plan's line length or idle count isn't as above" is 9
unfoldable pub figures_right : Plan → Bool
figures_right p =
    every (length p.units)
    (λ q. eqb (unit_in p q).line (longest_tap (length p.switches) (switch_in p) q) && eqb (unit_in p q).idle (idle_slots p q))

-- "They check the plan's header and records in the same way, then 4, 5, 9": the first fault of bytes b that say the plan p
unfoldable pub plan_faults : List ℕ → Plan → ℕ
plan_faults b p =
    reading_fault plan_format b (counts_fit b && leb p.chain most_chain)
    (λ i. unit_fits (unit_in p i).unit)
    (λ i. node_fits p.fold (length p.units) (λ q. (unit_in p q).unit) (node_in p i).node)
    (λ i. switch_fits p (switch_in p i))
    then unless (not (clashes (length p.nodes) (λ x. (node_in p x).node))) 4
    then unless (fed_once (length p.nodes) (λ x. (node_in p x).node) (length p.switches) (plan_feeds p)) 5
    then unless (figures_right p) 9

abbrev pub plan_fault : List ℕ → ℕ
plan_fault b = plan_faults b (plan_read b)
