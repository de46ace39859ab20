-- The table of worked cases, computed from the definitions, with the loops of each; the biquad's plan. Assumes nothing.
use mathlib.Core.Path.{◌≡◌, refl, subst}
use mathlib.Core.Logic.{◌↔◌, inl, inr}
use mathlib.Core.Bool.{Bool, true}
use mathlib.Core.List.{List, [], ◌∷◌}
use Prim.Native.Nat.{ℕ, zero, suc}
use native.Mathlib.Omega.{arith}
use lib.Dec.{lit<}
use lib.IntN.{ℤ, pos, ◌-ℤ◌}
use lib.Signed.{le_z, lt_z_yes}
use Rattle.words.specs.Loops
use Rattle.words.specs.Words
use Rattle.words.specs.Loops.{every}
use Rattle.words.proofs.Ints.{leZ_true}
use Rattle.words.proofs.LoopLaws.{every_at}
use Rattle.records.specs.Units
use Rattle.records.specs.Records
use Rattle.sheets.specs.Sheet
use Rattle.folding.specs.Walks
use Rattle.folding.specs.Folding
use Rattle.folding.specs.Lifetime
use Rattle.plans.specs.Plan
use Rattle.plans.specs.Judging
use Rattle.drawing.specs.PlanOf
use Rattle.planner.specs.Planning
use Rattle.sheets.specs.Sheet.{sheet_of}
use Rattle.folding.specs.Walks.{Net, Meets, start}
use Rattle.folding.specs.Folding.{net}
use Rattle.folding.specs.Lifetime.{live}
use Rattle.folding.proofs.RoundLaws.{loop_refutes}
use Rattle.plans.specs.Plan.{plan_bytes}
use Rattle.drawing.specs.PlanOf.{plan_of}
use Rattle.demands.specs.Demands.{Among}
use Rattle.demands.specs.Cases
use Rattle.demands.specs.Cases.{loop_of_two, loop_of_one, example_10, LoopOf, Holds, Each, no_net, plain_case, table, biquad}

-- ---- loops

-- "r(U) − r(V) ≤ c on every wire", of the starts: on wire e, and tested wire by wire
abbrev within : Net → ℕ → Bool
within g e = le_z (pos (start g (g.from e)) -ℤ pos (start g (g.to e))) (g.bound e)

met : (g : Net) → every g.wires (within g) ≡ true → Meets g (λ u. pos (start g u))
met g h e he = leZ_true (pos (start g (g.from e)) -ℤ pos (start g (g.to e))) (g.bound e) (every_at g.wires (within g) h e he)

-- where the starts meet all bounds no loop can be shown
no_loop : (g : Net) → every g.wires (within g) ≡ true → (l : List ℕ) → LoopOf g l ↔ Among (λ (shown : List ℕ). shown ≡ l) []
no_loop g h [] = ((λ loop. loop), (λ none. none))
no_loop g h (e ∷ es) = ((λ loop. loop_refutes g (λ u. pos (start g u)) (e ∷ es) (g.from e) loop.closed loop.short (met g h)), (λ none. absurd none))

-- one list is a loop, and no other is
one_loop : (g : Net) (k : List ℕ) → LoopOf g k → ((l : List ℕ) → LoopOf g l → k ≡ l) → (l : List ℕ) → LoopOf g l ↔ Among (λ (shown : List ℕ). shown ≡ l) (k ∷ [])
one_loop g k loop only l = ((λ h. inl (only l h)), (λ a. elim a [ inl e ↦ subst (LoopOf g) e loop | inr none ↦ absurd none ]))

-- two wires that lead from node 0 to node 1 and back: whatever loop there is goes along wire 0 and then wire 1
module _ (g : Net) (two : g.wires ≡ 2) (f0 : g.from 0 ≡ 0) (t0 : g.to 0 ≡ 1) (f1 : g.from 1 ≡ 1) (t1 : g.to 1 ≡ 0) where
  there_and_back : (l : List ℕ) → LoopOf g l → (0 ∷ 1 ∷ []) ≡ l
  there_and_back [] loop = absurd loop
  there_and_back (zero ∷ []) loop = absurd (omega (arith, loop.closed.2))
  there_and_back (zero ∷ zero ∷ l) loop = absurd (omega (arith, loop.closed.2.1))
  there_and_back (zero ∷ suc zero ∷ []) loop = refl
  there_and_back (zero ∷ suc zero ∷ zero ∷ l) loop = absurd (loop.once.0.1.0 refl)
  there_and_back (zero ∷ suc zero ∷ suc zero ∷ l) loop = absurd (omega (arith, loop.closed.2.2.1))
  there_and_back (zero ∷ suc zero ∷ suc (suc e) ∷ l) loop = absurd (omega (arith, loop.closed.2.2.0))
  there_and_back (zero ∷ suc (suc e) ∷ l) loop = absurd (omega (arith, loop.closed.2.0))
  there_and_back (suc zero ∷ []) loop = absurd (omega (arith, loop.closed.2))
  there_and_back (suc zero ∷ zero ∷ l) loop = absurd (omega (arith, loop.lowest.0))
  there_and_back (suc zero ∷ suc zero ∷ l) loop = absurd (omega (arith, loop.closed.2.1))
  there_and_back (suc zero ∷ suc (suc e) ∷ l) loop = absurd (omega (arith, loop.closed.2.0))
  there_and_back (suc (suc e) ∷ l) loop = absurd (omega (arith, loop.closed.0))

-- one wire from node 0 to itself
itself : (g : Net) → g.wires ≡ 1 → (l : List ℕ) → LoopOf g l → (0 ∷ []) ≡ l
itself g one [] loop = absurd loop
itself g one (zero ∷ []) loop = refl
itself g one (zero ∷ zero ∷ l) loop = absurd (loop.once.0.0 refl)
itself g one (zero ∷ suc e ∷ l) loop = absurd (omega (arith, loop.closed.2.0))
itself g one (suc e ∷ l) loop = absurd (omega (arith, loop.closed.0))

-- "refused 6, loop wires 0, 1", and no loop but that one
pub loop_10 : LoopOf (net (sheet_of (loop_of_two 0))) (0 ∷ 1 ∷ [])
unfolding Cases.loop_of_two Loops.tab Loops.every Loops.some_of Loops.total Loops.largest Loops.count Loops.lowest Loops.first Words.floor Words.residue Words.signed Words.sum Words.difference Words.scale Units.value Records.reading_fault Records.clashes Records.occupied Records.fed_once Sheet.sheet_of Sheet.sheet_faults Walks.minℤ Walks.better Walks.next Walks.row Walks.settled Walks.settles Walks.chain Walks.foldable Walks.deepest Walks.starts Folding.raw Folding.bound Folding.wait Folding.tap Lifetime.longest_wait Lifetime.falls Lifetime.live Lifetime.registers Plan.concat Plan.plan_bytes Plan.plan_read Judging.longest_tap Judging.figures_right Judging.plan_faults PlanOf.plan_of Planning.plan_number
loop_10 = record {
  closed = (lit< tt, refl, (lit< tt, refl, refl));
  once = (((λ e. omega arith), tt), (tt, tt));
  lowest = (omega arith, tt);
  short = lt_z_yes tt;
}

pub only_loop_10 : (l : List ℕ) → LoopOf (net (sheet_of (loop_of_two 0))) l → (0 ∷ 1 ∷ []) ≡ l
unfolding Cases.loop_of_two Loops.tab Sheet.sheet_of
only_loop_10 = there_and_back (net (sheet_of (loop_of_two 0))) refl refl refl refl refl

loop_11 : LoopOf (net (sheet_of (loop_of_one 0))) (0 ∷ [])
unfolding Cases.loop_of_one Loops.tab Loops.every Loops.some_of Loops.total Loops.largest Loops.count Loops.lowest Loops.first Words.floor Words.residue Words.signed Words.sum Words.difference Words.scale Units.value Records.reading_fault Records.clashes Records.occupied Records.fed_once Sheet.sheet_of Sheet.sheet_faults Walks.minℤ Walks.better Walks.next Walks.row Walks.settled Walks.settles Walks.chain Walks.foldable Walks.deepest Walks.starts Folding.raw Folding.bound Folding.wait Folding.tap Lifetime.longest_wait Lifetime.falls Lifetime.live Lifetime.registers Plan.concat Plan.plan_bytes Plan.plan_read Judging.longest_tap Judging.figures_right Judging.plan_faults PlanOf.plan_of Planning.plan_number
loop_11 = record { closed = (lit< tt, refl, refl); once = (tt, tt); lowest = tt; short = lt_z_yes tt }

-- ---- the table

infixr 20 ◌and◌
◌and◌ : {A B : Type 0} → A → B → A × B
a and b = (a, b)

of_number : {case : ℕ} {gives says : ℤ} → (gives ∷ []) ∷ [] ≡ (says ∷ []) ∷ [] → Holds (plain_case case gives says)
of_number same = record { figures = same; shown = no_loop no_net (unfold every in refl) }

-- every case comes to what the paper says
pub worked : Each Holds table
unfolding Cases.table Cases.sheet_figures Cases.loop_of_two Cases.loop_of_one Loops.tab Loops.every Loops.some_of Loops.total Loops.largest Loops.count Loops.lowest Loops.first Words.floor Words.residue Words.signed Words.sum Words.difference Words.scale Units.value Records.reading_fault Records.clashes Records.occupied Records.fed_once Sheet.sheet_of Sheet.sheet_faults Walks.minℤ Walks.better Walks.next Walks.row Walks.settled Walks.settles Walks.chain Walks.foldable Walks.deepest Walks.starts Folding.raw Folding.bound Folding.wait Folding.tap Lifetime.longest_wait Lifetime.falls Lifetime.live Lifetime.registers Plan.concat Plan.plan_bytes Plan.plan_read Judging.longest_tap Judging.figures_right Judging.plan_faults PlanOf.plan_of Planning.plan_number
worked =
    of_number refl and of_number refl and of_number refl and of_number refl
    and of_number refl and of_number refl and of_number refl and of_number refl
    and record { figures = refl; shown = no_loop (net (sheet_of (loop_of_two 1))) refl }
    and record { figures = refl; shown = one_loop (net (sheet_of (loop_of_two 0))) (0 ∷ 1 ∷ []) loop_10 only_loop_10 }
    and record { figures = refl; shown = one_loop (net (sheet_of (loop_of_one 0))) (0 ∷ []) loop_11 (itself (net (sheet_of (loop_of_one 0))) refl) }
    and record { figures = refl; shown = no_loop (net (sheet_of (loop_of_one 1))) refl }
    and record { figures = refl; shown = no_loop example_10 refl }
    and tt

-- ---- the biquad: registers 2, chain 3; starts 1, 2, 1, 2, 1, 1, 0, 1, 1; live counts 2, 2, 2, 1

unfoldable pub biquad_plan : List ℕ
biquad_plan =
    80 ∷ 72 ∷ 4 ∷ 3 ∷ 9 ∷ 12 ∷ 2 ∷ 0 ∷ 3 ∷ 80 ∷ 85 ∷ 1 ∷ 1 ∷ 5 ∷ 0 ∷ 0 ∷ 80 ∷ 85 ∷ 2 ∷ 2 ∷ 1 ∷ 0 ∷ 0
    ∷ 80 ∷ 85 ∷ 0 ∷ 1 ∷ 0 ∷ 0 ∷ 3 ∷ 80 ∷ 78 ∷ 0 ∷ 3 ∷ 1 ∷ 0 ∷ 0 ∷ 1 ∷ 0 ∷ 80 ∷ 78 ∷ 0 ∷ 1 ∷ 1 ∷ 0 ∷ 0 ∷ 2 ∷ 0
    ∷ 80 ∷ 78 ∷ 0 ∷ 2 ∷ 1 ∷ 0 ∷ 0 ∷ 1 ∷ 0 ∷ 80 ∷ 78 ∷ 0 ∷ 0 ∷ 1 ∷ 0 ∷ 0 ∷ 2 ∷ 0 ∷ 80 ∷ 78 ∷ 1 ∷ 0 ∷ 3 ∷ 0 ∷ 64 ∷ 1 ∷ 0
    ∷ 80 ∷ 78 ∷ 1 ∷ 2 ∷ 3 ∷ 0 ∷ 32 ∷ 1 ∷ 0 ∷ 80 ∷ 78 ∷ 1 ∷ 3 ∷ 3 ∷ 0 ∷ 192 ∷ 0 ∷ 0 ∷ 80 ∷ 78 ∷ 1 ∷ 1 ∷ 3 ∷ 0 ∷ 224 ∷ 1 ∷ 0
    ∷ 80 ∷ 78 ∷ 2 ∷ 2 ∷ 0 ∷ 0 ∷ 0 ∷ 1 ∷ 0 ∷ 80 ∷ 83 ∷ 0 ∷ 0 ∷ 1 ∷ 0 ∷ 1 ∷ 0 ∷ 80 ∷ 83 ∷ 1 ∷ 0 ∷ 0 ∷ 0 ∷ 0 ∷ 0
    ∷ 80 ∷ 83 ∷ 1 ∷ 0 ∷ 2 ∷ 0 ∷ 2 ∷ 0 ∷ 80 ∷ 83 ∷ 1 ∷ 0 ∷ 3 ∷ 0 ∷ 3 ∷ 0 ∷ 80 ∷ 83 ∷ 1 ∷ 0 ∷ 1 ∷ 0 ∷ 5 ∷ 0
    ∷ 80 ∷ 83 ∷ 0 ∷ 0 ∷ 3 ∷ 0 ∷ 0 ∷ 0 ∷ 80 ∷ 83 ∷ 0 ∷ 1 ∷ 1 ∷ 0 ∷ 0 ∷ 0 ∷ 80 ∷ 83 ∷ 0 ∷ 0 ∷ 2 ∷ 1 ∷ 0 ∷ 0
    ∷ 80 ∷ 83 ∷ 0 ∷ 0 ∷ 0 ∷ 1 ∷ 0 ∷ 0 ∷ 80 ∷ 83 ∷ 0 ∷ 1 ∷ 2 ∷ 1 ∷ 1 ∷ 0 ∷ 80 ∷ 83 ∷ 0 ∷ 1 ∷ 0 ∷ 1 ∷ 1 ∷ 0
    ∷ 80 ∷ 83 ∷ 0 ∷ 1 ∷ 3 ∷ 2 ∷ 0 ∷ 0 ∷ []

pub biquad_planned : plan_bytes (plan_of (sheet_of biquad)) ≡ biquad_plan
unfolding biquad_plan Cases.biquad Loops.tab Loops.every Loops.some_of Loops.total Loops.largest Loops.count Loops.lowest Loops.first Words.floor Words.residue Words.signed Words.sum Words.difference Words.scale Units.value Records.reading_fault Records.clashes Records.occupied Records.fed_once Sheet.sheet_of Sheet.sheet_faults Walks.minℤ Walks.better Walks.next Walks.row Walks.settled Walks.settles Walks.chain Walks.foldable Walks.deepest Walks.starts Folding.raw Folding.bound Folding.wait Folding.tap Lifetime.longest_wait Lifetime.falls Lifetime.live Lifetime.registers Plan.concat Plan.plan_bytes Plan.plan_read Judging.longest_tap Judging.figures_right Judging.plan_faults PlanOf.plan_of Planning.plan_number
biquad_planned = refl

pub biquad_live : Loops.tab 4 (live (sheet_of biquad) (start (net (sheet_of biquad)))) ≡ (2 ∷ 2 ∷ 2 ∷ 1 ∷ [])
unfolding Cases.biquad Loops.tab Loops.every Loops.some_of Loops.total Loops.largest Loops.count Loops.lowest Loops.first Words.floor Words.residue Words.signed Words.sum Words.difference Words.scale Units.value Records.reading_fault Records.clashes Records.occupied Records.fed_once Sheet.sheet_of Sheet.sheet_faults Walks.minℤ Walks.better Walks.next Walks.row Walks.settled Walks.settles Walks.chain Walks.foldable Walks.deepest Walks.starts Folding.raw Folding.bound Folding.wait Folding.tap Lifetime.longest_wait Lifetime.falls Lifetime.live Lifetime.registers Plan.concat Plan.plan_bytes Plan.plan_read Judging.longest_tap Judging.figures_right Judging.plan_faults PlanOf.plan_of Planning.plan_number
biquad_live = refl
