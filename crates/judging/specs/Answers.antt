-- Only passes between functions: what judging bytes as a plan answers, part by part, and what its parts ask. Assumes nothing.
use Rattle.std.specs.Prelude.{◌≡◌, Bool, true, not, ◌&&◌, List, ℕ, ◌^◌, ◌<◌, ltb, leb, eqb, length, get_or, ℤ, pos, Result, Ok, Err}
use Rattle.std.specs.Int.Count.{ones}
use Rattle.times.specs.declared.Cycles.{Cycles}
use Rattle.words.specs.Loops.{some_of, first, unless, ◌then◌}
use Rattle.words.specs.Masks.{in_mask}
use Rattle.records.specs.Units.{inputs}
use Rattle.records.specs.declared.reading.Reason.{Reason}
use Rattle.slots.specs.declared.feeding.Input.{Input}
use Rattle.slots.specs.Feeding.{FedOf}
use Rattle.records.specs.Records.{at, nodes_in, wires_in, counts_fit, wire_place, record_fault, node_fits, clashes, runs_in, occupied, fed_once}
use Rattle.records.specs.Answers.{answered, judged, header_fault}
use Rattle.plans.specs.declared.Plan.{Plan as Header}
use Rattle.plans.specs.declared.Joint.{Joint}
use Rattle.plans.specs.Plan.{Plan, Switch, unit_in, node_in, switch_in, plan_format, plan_read}
use Rattle.plans.specs.Heads.{plan_head, joint_at, Whole}
use Rattle.plans.specs.Judging.{most_chain, switch_fits, plan_feeds, longest_tap, idle_slots, figures_right, plan_fault}
use Rattle.judging.specs.declared.switches.Joined.{Joined}

-- ---- the whole judging

-- "Each call ends in its result or one numbered refusal": the plan that the header says, or the reason of the first fault
unfoldable pub plan_answer : List ℕ → Result Header Reason
plan_answer b = answered (plan_head b) (plan_fault b)

-- ---- its parts, in 01's order

-- N and the counts, then the chain
abbrev pub head_fault : List ℕ → ℕ
head_fault b = header_fault b plan_format.header_length plan_format.header_mark then unless (leb (at b 8) most_chain) 3

unfoldable pub header_answer : List ℕ → Result Header Reason
header_answer b = answered (plan_head b) (head_fault b)

-- the switches; none of their tests looks at the tap
abbrev pub as_switch : Joint → Switch
as_switch j = record { unit = j.unit; input = j.input; slot = j.slot; source = j.source; tap = 0 }

unfoldable pub switch_fault : List ℕ → ℕ → ℕ
switch_fault b e = record_fault b (wire_place plan_format b e) plan_format.wire_mark (switch_fits (plan_read b) (switch_in (plan_read b) e))

abbrev pub switch_answer : List ℕ → ℕ → Result Joint Reason
switch_answer b e = answered (joint_at b (wire_place plan_format b e)) (switch_fault b e)

abbrev pub switches_fault : List ℕ → ℕ
switches_fault b = first (wires_in b) (switch_fault b)

-- 4, 5 and 9
unfoldable pub clash_fault : Plan → ℕ
clash_fault p = unless (not (clashes (length p.nodes) (λ x. (node_in p x).node))) 4

unfoldable pub fed_fault : Plan → ℕ
fed_fault p = unless (fed_once (length p.nodes) (λ x. (node_in p x).node) (length p.switches) (plan_feeds p)) 5

unfoldable pub figures_fault : Plan → ℕ
figures_fault p = unless (figures_right p) 9

abbrev pub nodes_fault : Plan → ℕ
nodes_fault p = clash_fault p then (fed_fault p then figures_fault p)

-- ---- what the parts ask

-- the header is what the bytes say, N and the numbers in their ranges
pub record HeaderSaid (b : List ℕ) (p : Header) : Type 0 where
  pub said : p ≡ plan_head b
  pub counts : counts_fit b ≡ true

-- they are as long as it says, and every node lies in its ranges
pub record Fronted (b : List ℕ) (p : Header) : Type 0 where
  pub whole : Whole b p
  pub counts : counts_fit b ≡ true
  pub node_ok : (x : ℕ) → x < nodes_in b → node_fits (plan_read b).fold (length (plan_read b).units) (λ q. (unit_in (plan_read b) q).unit) (node_in (plan_read b) x).node ≡ true

-- and so does every switch
pub record Held (b : List ℕ) (p : Header) : Type 0 where
  pub front : Fronted b p
  pub switch_ok : (e : ℕ) → e < wires_in b → switch_fits (plan_read b) (switch_in (plan_read b) e) ≡ true

-- bit v of mask q says that a node runs on unit q in slot v
pub record Occupied (p : Plan) (masks : List ℕ) : Type 0 where
  pub taken : (q v : ℕ) → in_mask (get_or masks q 0) v ≡ some_of (length p.nodes) (λ x. runs_in q v (node_in p x).node)
  pub small : (q : ℕ) → get_or masks q 0 < 2 ^ 32
  pub eight : length masks ≡ 8

-- how many inputs each of the first n units has
abbrev pub InputsOf : Plan → ℕ → List ℕ → Type 0
InputsOf p n l = (q : ℕ) → q < n → get_or l q 0 ≡ inputs (unit_in p q).unit.kind

-- a switch's ranges, by the masks of occupied slots and the numbers of inputs
abbrev pub fits_by : Header → List ℕ → List ℕ → Joint → Bool
fits_by p masks few j =
    ltb j.unit p.units && ltb j.slot p.fold && (ltb j.source p.units && ltb j.input (get_or few j.unit 0) && in_mask (get_or masks j.unit 0) j.slot)

-- the input that switch e feeds
abbrev pub input_of : Plan → ℕ → Input
input_of p e = record { unit = (switch_in p e).unit; slot = (switch_in p e).slot; input = (switch_in p e).input }

-- the largest taps that read the units, of the first n switches
abbrev pub no_cycles : Cycles
no_cycles = record { 0 = pos 0 }

abbrev pub TapsOf : Plan → ℕ → List Cycles → Type 0
TapsOf p n l = (q : ℕ) → q < 8 → (get_or l q no_cycles).0 ≡ pos (longest_tap n (switch_in p) q)

-- what n switches join: the inputs that they feed, and the largest taps
pub record Joins (p : Plan) (n : ℕ) (r : Joined) : Type 0 where
  pub fed_so : FedOf n (input_of p) r.fed
  pub taps_so : TapsOf p n r.taps

-- the reason of the switches' first fault, or what they join where there is none
pub record JoinedBy (b : List ℕ) (n : ℕ) (r : Result Joined Reason) : Type 0 where
  pub refused : (why : Reason) → r ≡ Err why → judged (switches_fault b) ≡ Err why
  pub joins : (j : Joined) → r ≡ Ok j → (switches_fault b ≡ 0) × Joins (plan_read b) n j

-- the largest tap that reads unit q, and a mask with a one for each of its occupied slots
pub record UnitFigures (p : Plan) (q : ℕ) (tap : ℤ) (mask : ℕ) : Type 0 where
  pub tap_is : tap ≡ pos (longest_tap (length p.switches) (switch_in p) q)
  pub ones_are : ones mask ≡ occupied p.fold (length p.nodes) (λ x. (node_in p x).node) q

-- a unit's line and idle figures are right
abbrev pub unit_right : Plan → ℕ → Bool
unit_right p q = eqb (unit_in p q).line (longest_tap (length p.switches) (switch_in p) q) && eqb (unit_in p q).idle (idle_slots p q)
