-- Each theorem with hypotheses has an instance with all of them met: demands 2 and 3 on case 9's sheet and on one with a port, demand
-- 2's refused half on case 10. Assumes nothing.
use mathlib.Core.Path.{◌≡◌, refl, sym, ap}
use mathlib.Core.List.{List, [], ◌∷◌}
use Prim.Native.Nat.{ℕ, zero, suc, ◌<◌, ◌≤◌}
use native.Mathlib.Omega.{arith}
use lib.ListN.{length, take, replicate}
use Rattle.words.specs.Loops
use Rattle.words.specs.Words
use Rattle.records.specs.Units
use Rattle.records.specs.Records
use Rattle.sheets.specs.Sheet
use Rattle.folding.specs.Walks
use Rattle.folding.specs.Folding
use Rattle.folding.specs.Lifetime
use Rattle.plans.specs.Plan
use Rattle.plans.specs.Judging
use Rattle.drawing.specs.PlanOf
use Rattle.planner.specs.Planning
use Rattle.words.specs.Loops.{tab}
use Rattle.records.specs.Units.{channels}
use Rattle.records.specs.Records.{over}
use Rattle.sheets.specs.Sheet.{sheet_of}
use Rattle.plans.specs.Plan.{plan_bytes, loop_bytes, plan_read, loop_read}
use Rattle.drawing.specs.PlanOf.{plan_of}
use Rattle.planner.specs.Planning.{plan_number, Planning}
use Rattle.memory.specs.Memory
use Rattle.memory.specs.Memory.{size}
use Rattle.demands.specs.Cases
use Rattle.demands.specs.Cases.{loop_of_two, port_and_scale}
use Rattle.demands.specs.Running.{Handed, last_cycle, Run, Admitted, Runs}
use Rattle.demands.specs.Demands.{WellPlanned, LoopProves}
use Rattle.demands.proofs.Worked.{loop_10}
use Rattle.demands.proofs.WrongPrograms.{room, case_9_number}
use Rattle.demands.proofs.DemandTwo.{demand_2}
use Rattle.demands.proofs.DemandThree.{demand_3}

-- a sheet that the planner passes, with the room its plan needs
passed_result : (b before : List ℕ) → plan_number b (length before) ≡ 0 → Planning b before 0 (PlanOf.plan_length b) (over (plan_bytes (plan_of (sheet_of b))) before)
passed_result b before h = record { number_is = sym h; fixed = λ six. (refl, refl); shown = λ six. absurd (omega arith) }

-- ---- case 9

abbrev pub after_9 : List ℕ
after_9 = over (plan_bytes (plan_of (sheet_of (loop_of_two 1)))) room

pub planned_9 : Planning (loop_of_two 1) room 0 57 after_9
unfolding Cases.loop_of_two
planned_9 = passed_result (loop_of_two 1) room case_9_number

pub demand_2_on_9 : WellPlanned (sheet_of (loop_of_two 1)) (plan_read (take 57 (over (plan_bytes (plan_of (sheet_of (loop_of_two 1)))) room)))
demand_2_on_9 = (demand_2 (loop_of_two 1) room 0 57 after_9 planned_9).at_0 refl

size_9 : size (plan_read (take 57 after_9)) ≡ 5
unfolding room Cases.loop_of_two Memory.base Memory.size Loops.tab Loops.every Loops.some_of Loops.total Loops.largest Loops.count Loops.lowest Loops.first Words.floor Words.residue Words.signed Words.sum Words.difference Words.scale Units.value Records.reading_fault Records.clashes Records.occupied Records.fed_once Sheet.sheet_of Sheet.sheet_faults Walks.minℤ Walks.better Walks.next Walks.row Walks.settled Walks.settles Walks.chain Walks.foldable Walks.deepest Walks.starts Folding.raw Folding.bound Folding.wait Folding.tap Lifetime.longest_wait Lifetime.falls Lifetime.live Lifetime.registers Plan.concat Plan.plan_bytes Plan.plan_read Judging.longest_tap Judging.figures_right Judging.plan_faults PlanOf.plan_of Planning.plan_number
size_9 = refl

no_port_9 : (x : ℕ) → x < length (sheet_of (loop_of_two 1)).nodes → (Sheet.node_of (sheet_of (loop_of_two 1)) x).op ≡ 0 → ⊥
unfolding Cases.loop_of_two Loops.tab Sheet.sheet_of
no_port_9 zero h e = omega arith
no_port_9 (suc zero) h e = omega arith
no_port_9 (suc (suc x)) h e = omega arith

units_9 : length (sheet_of (loop_of_two 1)).units ≤ 2
unfolding Cases.loop_of_two Loops.tab Sheet.sheet_of
units_9 = omega arith

-- the samples do not matter, and neither do the words that memory and output held: there is a run, and it is as demanded
pub demand_3_on_9 :
    (r : Run) × Admitted (take 57 after_9) (replicate 6 7) (λ t. replicate 16 t) (λ t. replicate 2 9) r
    × Runs (sheet_of (loop_of_two 1)) (plan_read (take 57 after_9)) (demand_3 (loop_of_two 1) room 57 after_9 planned_9 (λ c j. j)).0.val (λ t. replicate 16 t) r
demand_3_on_9 =
    let d = (demand_3 (loop_of_two 1) room 57 after_9 planned_9 (λ c j. j)).1 (replicate 6 7) (omega (arith, size_9)) (λ t. replicate 16 t) (λ t. replicate 2 9)
    (λ t. omega arith) (λ t. units_9) (λ x hx port l reached early. absurd (no_port_9 x hx port)) in
    (d.0.0, d.0.1, d.1 d.0.0 d.0.1)

-- ---- case 10, refused with the loop of wires 0, 1

abbrev pub after_10 : List ℕ
after_10 = over (loop_bytes (0 ∷ 1 ∷ [])) room

case_10_number : plan_number (loop_of_two 0) (length room) ≡ 6
unfolding room Cases.loop_of_two Loops.tab Loops.every Loops.some_of Loops.total Loops.largest Loops.count Loops.lowest Loops.first Words.floor Words.residue Words.signed Words.sum Words.difference Words.scale Units.value Records.reading_fault Records.clashes Records.occupied Records.fed_once Sheet.sheet_of Sheet.sheet_faults Walks.minℤ Walks.better Walks.next Walks.row Walks.settled Walks.settles Walks.chain Walks.foldable Walks.deepest Walks.starts Folding.raw Folding.bound Folding.wait Folding.tap Lifetime.longest_wait Lifetime.falls Lifetime.live Lifetime.registers Plan.concat Plan.plan_bytes Plan.plan_read Judging.longest_tap Judging.figures_right Judging.plan_faults PlanOf.plan_of Planning.plan_number
case_10_number = refl

pub demand_2_on_10 : LoopProves (sheet_of (loop_of_two 0)) (loop_read 6 after_10)
demand_2_on_10 =
    (demand_2 (loop_of_two 0) room 6 6 after_10
    (record {
      number_is = sym case_10_number;
      fixed = λ other. absurd (other refl);
      shown = λ six. record { wire = 0; wires = 1 ∷ []; loop = loop_10; length_is = refl; left = refl };
    })
    ).at_6 refl

-- ---- a port into a scale

abbrev pub room_49 : List ℕ
room_49 = replicate 49 0

abbrev pub after_port : List ℕ
after_port = over (plan_bytes (plan_of (sheet_of port_and_scale))) room_49

port_number : plan_number port_and_scale (length room_49) ≡ 0
unfolding Cases.port_and_scale Loops.tab Loops.every Loops.some_of Loops.total Loops.largest Loops.count Loops.lowest Loops.first Words.floor Words.residue Words.signed Words.sum Words.difference Words.scale Units.value Records.reading_fault Records.clashes Records.occupied Records.fed_once Sheet.sheet_of Sheet.sheet_faults Walks.minℤ Walks.better Walks.next Walks.row Walks.settled Walks.settles Walks.chain Walks.foldable Walks.deepest Walks.starts Folding.raw Folding.bound Folding.wait Folding.tap Lifetime.longest_wait Lifetime.falls Lifetime.live Lifetime.registers Plan.concat Plan.plan_bytes Plan.plan_read Judging.longest_tap Judging.figures_right Judging.plan_faults PlanOf.plan_of Planning.plan_number
port_number = refl

pub planned_port : Planning port_and_scale room_49 0 49 after_port
unfolding Cases.port_and_scale
planned_port = passed_result port_and_scale room_49 port_number

size_port : size (plan_read (take 49 after_port)) ≡ 4
unfolding Cases.port_and_scale Memory.base Memory.size Loops.tab Loops.every Loops.some_of Loops.total Loops.largest Loops.count Loops.lowest Loops.first Words.floor Words.residue Words.signed Words.sum Words.difference Words.scale Units.value Records.reading_fault Records.clashes Records.occupied Records.fed_once Sheet.sheet_of Sheet.sheet_faults Walks.minℤ Walks.better Walks.next Walks.row Walks.settled Walks.settles Walks.chain Walks.foldable Walks.deepest Walks.starts Folding.raw Folding.bound Folding.wait Folding.tap Lifetime.longest_wait Lifetime.falls Lifetime.live Lifetime.registers Plan.concat Plan.plan_bytes Plan.plan_read Judging.longest_tap Judging.figures_right Judging.plan_faults PlanOf.plan_of Planning.plan_number
size_port = refl

units_port : length (sheet_of port_and_scale).units ≤ 2
unfolding Cases.port_and_scale Loops.tab Sheet.sheet_of
units_port = omega arith

-- at cycle t every channel shows its sample t: the port's start is 0 and N is 1
pub samples : (ℕ → ℕ → ℕ) → ℕ → List ℕ
samples xs t = tab channels (λ c. xs c t)

handed_port : (xs : ℕ → ℕ → ℕ) → Handed (sheet_of port_and_scale) (plan_read (take 49 after_port)) xs (samples xs) last_cycle
unfolding samples Cases.port_and_scale Loops.tab Loops.every Loops.some_of Loops.total Loops.largest Loops.count Loops.lowest Loops.first Words.floor Words.residue Words.signed Words.sum Words.difference Words.scale Units.value Records.reading_fault Records.clashes Records.occupied Records.fed_once Sheet.sheet_of Sheet.sheet_faults Walks.minℤ Walks.better Walks.next Walks.row Walks.settled Walks.settles Walks.chain Walks.foldable Walks.deepest Walks.starts Folding.raw Folding.bound Folding.wait Folding.tap Lifetime.longest_wait Lifetime.falls Lifetime.live Lifetime.registers Plan.concat Plan.plan_bytes Plan.plan_read Judging.longest_tap Judging.figures_right Judging.plan_faults PlanOf.plan_of Planning.plan_number
handed_port xs zero h port l reached early = ap (xs 3) (omega arith)
handed_port xs (suc zero) h port l reached early = absurd (omega arith)
handed_port xs (suc (suc x)) h port l reached early = absurd (omega arith)

pub demand_3_on_port : (xs : ℕ → ℕ → ℕ) →
    (r : Run) × Admitted (take 49 after_port) (replicate 4 7) (samples xs) (λ t. replicate 2 9) r
    × Runs (sheet_of port_and_scale) (plan_read (take 49 after_port)) (demand_3 port_and_scale room_49 49 after_port planned_port xs).0.val (samples xs) r
unfolding samples Loops.tab
demand_3_on_port xs =
    let d = (demand_3 port_and_scale room_49 49 after_port planned_port xs).1 (replicate 4 7) (omega (arith, size_port)) (samples xs) (λ t. replicate 2 9)
    (λ t. omega arith) (λ t. units_port) (handed_port xs) in
    (d.0.0, d.0.1, d.1 d.0.0 d.0.1)
