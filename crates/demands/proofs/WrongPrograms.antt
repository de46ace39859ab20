-- What shuts out each wrong program that 01 names: a planner that refuses everything or gives one plan for all sheets, a step that
-- does nothing, works only at cycle 0 or keeps its memory for show, a made-up chain or register figure. Assumes nothing.
use mathlib.Core.Path.{◌≡◌, refl, sym, ap, ◌∙◌}
use mathlib.Core.List.{List, [], ◌∷◌}
use Prim.Native.Nat.{ℕ, suc, ◌+◌, ◌-◌, ◌%◌, ◌<◌, ◌≤◌}
use native.Mathlib.Omega.{arith}
use lib.ListN.{length, take, replicate}
use Rattle.words.specs.Loops
use Rattle.words.specs.Words
use Rattle.words.proofs.LoopLaws.{getD_tab}
use Rattle.records.specs.Units
use Rattle.records.specs.Records
use Rattle.sheets.specs.Sheet
use Rattle.folding.specs.Walks
use Rattle.folding.specs.Folding
use Rattle.folding.specs.Lifetime
use Rattle.plans.specs.Plan
use Rattle.plans.specs.Judging
use Rattle.drawing.specs.PlanOf
use Rattle.planner.specs.Planning
use Rattle.records.specs.Records.{at}
use Rattle.sheets.specs.Sheet.{sheet_of}
use Rattle.folding.specs.Latest.{IsChain}
use Rattle.folding.specs.Folding.{net}
use Rattle.folding.specs.Lifetime.{registers}
use Rattle.plans.specs.Plan.{Plan, unit_in, node_in, switch_in, plan_read, plan_bytes}
use Rattle.plans.specs.Heads.{plan_head}
use Rattle.plans.specs.Judging.{plan_fault}
use Rattle.plans.proofs.WholeLaws.{units_so, wires_so}
use Rattle.drawing.specs.PlanOf.{plan_of, plan_length}
use Rattle.planner.specs.Planning.{plan_number, Planning}
use Rattle.memory.specs.Memory
use Rattle.cycle.specs.Cycle
use Rattle.memory.specs.Memory.{size, places, place, reading, leaving}
use Rattle.memory.specs.Taken.{Taken}
use Rattle.memory.proofs.TakenLaws.{whole_taken, switch_fine}
use Rattle.memory.proofs.LineLaws.{depth_so}
use Rattle.cycle.specs.Cycle.{input_word, stepped}
use Rattle.machine.specs.Stepping
use Rattle.machine.specs.Stepping.{step_memory, Stepping}
use Rattle.cycle.proofs.RunLaws.{older}
use Rattle.cycle.proofs.ResultLaws.{switch_read}
use Rattle.machine.proofs.SteppingLaws.{step_zero, step_does, output_is}
use Rattle.demands.specs.Cases
use Rattle.demands.specs.Cases.{loop_of_two, loop_of_one}
use Rattle.demands.proofs.DemandTwo.{demand_2}
use Rattle.demands.proofs.Worked.{biquad_plan}

-- a buffer with room for the plan of case 9
unfoldable pub room : List ℕ
room = replicate 57 0

pub case_9_number : plan_number (loop_of_two 1) (length room) ≡ 0
unfolding room Cases.loop_of_two Loops.tab Loops.every Loops.some_of Loops.total Loops.largest Loops.count Loops.lowest Loops.first Words.floor Words.residue Words.signed Words.sum Words.difference Words.scale Units.value Records.reading_fault Records.clashes Records.occupied Records.fed_once Sheet.sheet_of Sheet.sheet_faults Walks.minℤ Walks.better Walks.next Walks.row Walks.settled Walks.settles Walks.chain Walks.foldable Walks.deepest Walks.starts Folding.raw Folding.bound Folding.wait Folding.tap Lifetime.longest_wait Lifetime.falls Lifetime.live Lifetime.registers Plan.concat Plan.plan_bytes Plan.plan_read Judging.longest_tap Judging.figures_right Judging.plan_faults PlanOf.plan_of Planning.plan_number
case_9_number = refl

-- a planner that refuses everything: no refusal is admitted on case 9
pub no_constant_refusal : (number len : ℕ) (after : List ℕ) → Planning (loop_of_two 1) room number len after → number ≡ 0
no_constant_refusal number len after p = p.number_is ∙ case_9_number

-- one plan for all sheets: of two sheets that pass, and whose plans are not of one length, no length and buffer are admitted on both
pub no_plan_for_all : (b b' before before' : List ℕ) (n n' len : ℕ) (after : List ℕ) → plan_number b (length before) ≡ 0 → plan_number b' (length before') ≡ 0 →
    ¬ (plan_length b ≡ plan_length b') → Planning b before n len after → Planning b' before' n' len after → ⊥
no_plan_for_all b b' before before' n n' len after passes passes' differ p p' =
    let e : n ≡ 0 = p.number_is ∙ passes in
    let e' : n' ≡ 0 = p'.number_is ∙ passes' in
    let l : len ≡ plan_length b = (p.fixed (λ six. omega arith)).0 ∙ (rw e refl) in
    let l' : len ≡ plan_length b' = (p'.fixed (λ six. omega arith)).0 ∙ (rw e' refl) in
    differ (sym l ∙ l')

-- as cases 9 and 11 are
case_11_number : plan_number (loop_of_one 1) (length room) ≡ 0
unfolding room Cases.loop_of_one Loops.tab Loops.every Loops.some_of Loops.total Loops.largest Loops.count Loops.lowest Loops.first Words.floor Words.residue Words.signed Words.sum Words.difference Words.scale Units.value Records.reading_fault Records.clashes Records.occupied Records.fed_once Sheet.sheet_of Sheet.sheet_faults Walks.minℤ Walks.better Walks.next Walks.row Walks.settled Walks.settles Walks.chain Walks.foldable Walks.deepest Walks.starts Folding.raw Folding.bound Folding.wait Folding.tap Lifetime.longest_wait Lifetime.falls Lifetime.live Lifetime.registers Plan.concat Plan.plan_bytes Plan.plan_read Judging.longest_tap Judging.figures_right Judging.plan_faults PlanOf.plan_of Planning.plan_number
case_11_number = refl

pub no_plan_for_9_and_11 : (n n' len : ℕ) (after : List ℕ) → Planning (loop_of_two 1) room n len after → Planning (loop_of_one 1) room n' len after → ⊥
unfolding Cases.loop_of_two Cases.loop_of_one
no_plan_for_9_and_11 n n' len after = no_plan_for_all (loop_of_two 1) (loop_of_one 1) room room n n' len after case_9_number case_11_number (λ same. omega arith)

-- a step that does nothing: where step answers 0, no memory is admitted that it left as it was
pub step_moves : (b m c o : List ℕ) (out : List ℕ) → Stepping b m c o 0 m out → ⊥
step_moves b m c o out p =
    let is = p.memory_is ∙ (step_does b m c o (sym p.number_is)).0 in
    let t : at m 0 ≡ at (stepped (plan_read b) m c) 0 = ap (λ (l : List ℕ). at l 0) is in
    let rises : at (stepped (plan_read b) m c) 0 ≡ suc (at m 0) = unfold stepped in refl in
    omega arith

-- memory for show: memories that differ at a place differ after the step too, at every place but the oldest of a unit, which moves out
pub memory_counts : (p : Plan) (m m' c c' : List ℕ) → size p ≤ length m → size p ≤ length m' → (q i : ℕ) → q < length p.units → suc i < places p q →
    ¬ (place p m q i ≡ place p m' q i) → ¬ (stepped p m c ≡ stepped p m' c')
memory_counts p m m' c c' l l' q i hq hi differ same =
    differ (sym (older p m c l q i hq hi) ∙ ap (λ (z : List ℕ). place p z q (suc i)) same ∙ older p m' c' l' q i hq hi)

-- the place that leaves is shown in every cycle: it is word q of the output
pub leaving_shown : (b m c o after out : List ℕ) → Stepping b m c o 0 after out → (q : ℕ) → q < length (plan_read b).units →
    at out q ≡ place (plan_read b) m q ((unit_in (plan_read b) q).unit.depth - 1)
unfolding leaving
leaving_shown b m c o after out p q h =
    let pl = plan_read b in
    let depth = (unit_in pl q).unit.depth in
    ap (λ (l : List ℕ). at l q) p.output_is
    ∙ output_is b pl refl (step_zero b m c o (sym p.number_is)).fine m c o (sym p.number_is) q h
    ∙ getD_tab (length pl.units) (λ q. reading pl m q 0) q 0 h
    ∙ ap (place pl m q) (let e : depth - 1 + 0 ≡ depth - 1 = omega arith in e)

-- the oldest place of a line is read in the slot of a switch whose tap is the line's length: it is the word at that switch's input
pub oldest_read : (b m : List ℕ) → plan_fault b ≡ 0 → (e : ℕ) → e < length (plan_read b).switches →
    let p = plan_read b in
    let w = switch_in p e in
    w.tap ≡ (unit_in p w.source).line → at m 0 % p.fold ≡ w.slot →
    input_word p m w.unit (at m 0 % p.fold) w.input ≡ place p m w.source (places p w.source - 1)
oldest_read b m fine e he longest slot =
    let p = plan_read b in
    let w = switch_in p e in
    let taken : Taken b (plan_head b) = record { head = refl; fine = fine } in
    let fits = switch_fine b (plan_head b) taken e (omega (arith, wires_so b (plan_head b) (whole_taken taken))) in
    let deep = (depth_so b (plan_head b) taken w.source (omega (arith, fits.from_unit, units_so b (plan_head b) (whole_taken taken)))).1 in
    ap (λ (v : ℕ). input_word p m w.unit v w.input) slot
    ∙ switch_read b (plan_head b) taken m e he
    ∙ ap (place p m w.source) (let i : (unit_in p w.source).unit.depth - 1 + w.tap ≡ places p w.source - 1 = omega arith in i)

-- a step right only at cycle 0: at cycle 1 too step answers 0 on case 9's plan, whose unit 1 has three places, and moves them on
unfoldable pub case_9_plan : List ℕ
case_9_plan = plan_bytes (plan_of (sheet_of (loop_of_two 1)))

pub works_at_1 : step_memory case_9_plan (1 ∷ 11 ∷ 21 ∷ 22 ∷ 23 ∷ []) (replicate 16 0) (0 ∷ 0 ∷ []) ≡ (2 ∷ 0 ∷ 4294967285 ∷ 21 ∷ 22 ∷ [])
unfolding case_9_plan Cases.loop_of_two Memory.base Memory.size Loops.joined Cycle.result Cycle.stepped Memory.leaving Stepping.step_number Stepping.step_memory Loops.tab Loops.every Loops.some_of Loops.total Loops.largest Loops.count Loops.lowest Loops.first Words.floor Words.residue Words.signed Words.sum Words.difference Words.scale Units.value Records.reading_fault Records.clashes Records.occupied Records.fed_once Sheet.sheet_of Sheet.sheet_faults Walks.minℤ Walks.better Walks.next Walks.row Walks.settled Walks.settles Walks.chain Walks.foldable Walks.deepest Walks.starts Folding.raw Folding.bound Folding.wait Folding.tap Lifetime.longest_wait Lifetime.falls Lifetime.live Lifetime.registers Plan.concat Plan.plan_bytes Plan.plan_read Judging.longest_tap Judging.figures_right Judging.plan_faults PlanOf.plan_of Planning.plan_number
works_at_1 = refl

-- and on the biquad's plan: in iteration 0 no node of slot 1 has started, in iteration 2 both have, and unit 2 is idle
pub biquad_at_1 : step_memory biquad_plan (1 ∷ 11 ∷ 12 ∷ 13 ∷ 14 ∷ 15 ∷ 16 ∷ 21 ∷ 22 ∷ 23 ∷ 31 ∷ []) (replicate 16 0) (replicate 3 0) ≡ (2 ∷ 0 ∷ 11 ∷ 12 ∷ 13 ∷ 14 ∷ 15 ∷ 0 ∷ 21 ∷ 22 ∷ 0 ∷ [])
unfolding biquad_plan Memory.base Memory.size Loops.joined Cycle.result Cycle.stepped Memory.leaving Stepping.step_number Stepping.step_memory Loops.tab Loops.every Loops.some_of Loops.total Loops.largest Loops.count Loops.lowest Loops.first Words.floor Words.residue Words.signed Words.sum Words.difference Words.scale Units.value Records.reading_fault Records.clashes Records.occupied Records.fed_once Plan.plan_read Judging.longest_tap Judging.figures_right Judging.plan_faults
biquad_at_1 = refl

pub biquad_at_9 : step_memory biquad_plan (9 ∷ 11 ∷ 12 ∷ 13 ∷ 14 ∷ 15 ∷ 16 ∷ 21 ∷ 22 ∷ 23 ∷ 31 ∷ []) (replicate 16 0) (replicate 3 0) ≡ (10 ∷ 23 ∷ 11 ∷ 12 ∷ 13 ∷ 14 ∷ 15 ∷ 4294967292 ∷ 21 ∷ 22 ∷ 0 ∷ [])
unfolding biquad_plan Memory.base Memory.size Loops.joined Cycle.result Cycle.stepped Memory.leaving Stepping.step_number Stepping.step_memory Loops.tab Loops.every Loops.some_of Loops.total Loops.largest Loops.count Loops.lowest Loops.first Words.floor Words.residue Words.signed Words.sum Words.difference Words.scale Units.value Records.reading_fault Records.clashes Records.occupied Records.fed_once Plan.plan_read Judging.longest_tap Judging.figures_right Judging.plan_faults
biquad_at_9 = refl

-- a made-up chain: walks admit one figure alone
pub one_chain : (b before : List ℕ) (len : ℕ) (after : List ℕ) → Planning b before 0 len after → (k : ℕ) → IsChain (net (sheet_of b)) k → (plan_read (take len after)).chain ≡ k
one_chain b before len after p k is =
    let c = ((demand_2 b before 0 len after p).at_0 refl).chain_is in
    let l = c.smallest k is.enough in
    let l' = is.smallest (plan_read (take len after)).chain c.enough in
    omega arith

-- a made-up register figure: it is the largest live count of the starts that the plan prints
pub one_figure : (b before : List ℕ) (len : ℕ) (after : List ℕ) → Planning b before 0 len after →
    (plan_read (take len after)).registers ≡ registers (sheet_of b) (λ u. (node_in (plan_read (take len after)) u).start)
one_figure b before len after p = ((demand_2 b before 0 len after p).at_0 refl).registers_are
