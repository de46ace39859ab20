-- Demand 3: the words leaving are the graph's values, of any plan that folds a sound sheet, and through the calls from a result 0, in
-- every run that their contracts admit.
-- Assumes nothing.
use mathlib.Core.Path.{◌≡◌, refl, sym, ap, ◌∙◌}
use mathlib.Core.List.{List}
use Prim.Native.Nat.{ℕ, zero, suc, ◌+◌, ◌*◌, ◌<◌, ◌≤◌}
use native.Mathlib.Omega.{arith}
use lib.ListN.{length, take}
use Rattle.records.specs.Units.{channels}
use Rattle.records.specs.Records.{at}
use Rattle.sheets.specs.Sheet.{Sheet, sheet_of, unit_of, node_of}
use Rattle.sheets.specs.Sound.{Sound}
use Rattle.folding.specs.Folding.{depth_of}
use Rattle.plans.specs.Plan.{Plan, node_in, plan_read}
use Rattle.plans.specs.Judging.{plan_fault}
use Rattle.drawing.specs.Folds.{Folds}
use Rattle.memory.specs.Memory.{size, place, leaving}
use Rattle.cycle.specs.Cycle.{result, run}
use Rattle.machine.specs.Stepping.{clear_number, clear_memory, step_number, step_memory, step_output}
use Rattle.cycle.proofs.RunLaws.{begun, ago_none, ago_some, place_run, length_run, cycle_run}
use Rattle.machine.proofs.SteppingLaws.{clear_fine, clear_is, step_fine, step_is, output_is}
use Rattle.demands.specs.Graph.{Values, HasValues}
use Rattle.demands.specs.Running.{Handed, last_cycle, Run, Admitted, Runs}
use Rattle.demands.specs.Demands.{Demand3Folds, Demand3}
use Rattle.demands.proofs.GraphLaws.{unique, values, values_right}
use Rattle.demands.proofs.SlotLaws.{ordered}
use Rattle.demands.proofs.Folded.{leaves}
use Rattle.demands.proofs.DemandTwo.{plan_left, demand_2}

-- the cycles at which nodes begin put every word after those that it is made of, so there are values, and one only
pub values_met : (s : Sheet) (p : Plan) → Sound s → Folds s p → (xs : ℕ → ℕ → ℕ) → HasValues s xs
values_met s p sound folds xs =
    let after : ℕ → ℕ → ℕ = λ x j. s.fold * ((node_in p x).start + j) + (node_of s x).slot in
    let ord = ordered s p sound folds in
    record {
      val = values s sound.leaves after ord xs;
      right = values_right s sound.leaves after ord xs;
      only = λ f vf x hx j.
          unique s sound.leaves after ord xs f (values s sound.leaves after ord xs) vf (values_right s sound.leaves after ord xs) (suc (after x j)) x j hx (omega arith);
    }

pub demand_3_folds : Demand3Folds
demand_3_folds s p sound folds xs =
    let v = values_met s p sound folds xs in
    (v, λ m room hand last handed. leaves s p sound folds v.val m room hand xs v.right last handed)

-- ---- by the calls

-- the run that the calls' functions give
memory_by : List ℕ → List ℕ → (ℕ → List ℕ) → (ℕ → List ℕ) → ℕ → List ℕ
memory_by b m hand lent zero = clear_memory b m
memory_by b m hand lent (suc t) = step_memory b (memory_by b m hand lent t) (hand t) (lent t)

run_by : List ℕ → List ℕ → (ℕ → List ℕ) → (ℕ → List ℕ) → Run
run_by b m hand lent = record {
  cleared = clear_number b m;
  number = λ t. step_number b (memory_by b m hand lent t) (hand t) (lent t);
  out = λ t. step_output b (memory_by b m hand lent t) (hand t) (lent t);
  memory = memory_by b m hand lent;
}

run_admitted : (b m : List ℕ) (hand lent : ℕ → List ℕ) → Admitted b m hand lent (run_by b m hand lent)
unfolding memory_by run_by
run_admitted b m hand lent = record {
  clears = record { number_is = refl; memory_is = refl };
  steps = λ t h. record { number_is = refl; memory_is = refl; output_is = refl };
}

module _ (b : List ℕ) (p : Plan) (is_p : plan_read b ≡ p) (fine : plan_fault b ≡ 0) (m : List ℕ) (room : size p ≤ length m) (hand lent : ℕ → List ℕ)
    (words : (t : ℕ) → channels ≤ length (hand t)) (outs : (t : ℕ) → length p.units ≤ length (lent t)) (r : Run) (admitted : Admitted b m hand lent r) where
  step_run : (t : ℕ) → t ≤ last_cycle → step_number b (run p m hand t) (hand t) (lent t) ≡ 0
  step_run t h =
      step_fine b p is_p fine (run p m hand t) (hand t) (lent t) (omega (arith, length_run p m hand room t)) (words t) (outs t) (omega (arith, cycle_run p m hand t))

  -- the calls' memory is the run's
  memory_is : (t : ℕ) → t ≤ suc last_cycle → r.memory t ≡ run p m hand t
  unfolding run
  memory_is zero h = admitted.clears.memory_is ∙ clear_is b p is_p fine m room
  memory_is (suc t) h =
      (admitted.steps t (omega arith)).memory_is
      ∙ ap (λ (z : List ℕ). step_memory b z (hand t) (lent t)) (memory_is t (omega arith))
      ∙ step_is b p is_p fine (run p m hand t) (hand t) (lent t) (step_run t (omega arith))

  steps : (t : ℕ) → t ≤ last_cycle → r.number t ≡ 0
  steps t h = (admitted.steps t h).number_is ∙ ap (λ (z : List ℕ). step_number b z (hand t) (lent t)) (memory_is t (omega arith)) ∙ step_run t h

  outputs : (t q : ℕ) → t ≤ last_cycle → q < length p.units → at (r.out t) q ≡ at (leaving p (run p m hand t)) q
  outputs t q h hq =
      ap (λ (z : List ℕ). at z q) (admitted.steps t h).output_is
      ∙ output_is b p is_p fine (r.memory t) (hand t) (lent t) (sym (admitted.steps t h).number_is ∙ steps t h) q hq
      ∙ ap (λ (z : List ℕ). at (leaving p z) q) (memory_is t (omega arith))

  pub runs : (s : Sheet) → Sound s → Folds s p → (xs val : ℕ → ℕ → ℕ) → Values s xs val → Handed s p xs hand last_cycle → Runs s p val hand r
  runs s sound folds xs val vals handed =
      let lv = leaves s p sound folds val m room hand xs vals last_cycle handed in
      let in_plan : (q : ℕ) → q < length s.units → q < length p.units = λ q h. omega (arith, folds.units) in
      record {
        clears = admitted.clears.number_is ∙ clear_fine b p is_p fine m room;
        steps = steps;
        leaves = record {
          words = λ x hx l h. outputs (s.fold * l + (node_of s x).slot + depth_of s x) (node_of s x).unit h (in_plan (node_of s x).unit (sound.on_unit x hx)) ∙ lv.words x hx l h;
          idle = λ q hq v hv empty l h. outputs (s.fold * l + v + (unit_of s q).depth) q h (in_plan q hq) ∙ lv.idle q hq v hv empty l h;
          early = λ q hq t h e. outputs t q h (in_plan q hq) ∙ lv.early q hq t h e;
        };
        begun = λ q hq i hi t h.
            ap (λ (z : List ℕ). place p z q i) (memory_is (t + suc i) h)
            ∙ place_run p m hand room (t + suc i) q i hq hi
            ∙ ago_some (begun p m hand q) (t + suc i) (suc i) t refl
            ∙ ap (λ (z : List ℕ). result p z (hand t) q) (sym (memory_is t (omega arith)));
        before = λ q hq i hi t early h.
            ap (λ (z : List ℕ). place p z q i) (memory_is t h) ∙ place_run p m hand room t q i hq hi ∙ ago_none (begun p m hand q) t (suc i) (omega arith);
      }

pub demand_3 : Demand3
demand_3 b before len after planned xs =
    let s = sheet_of b in
    let plan = take len after in
    let p = plan_read plan in
    let d = demand_2 b before 0 len after planned in
    let folds = (d.at_0 refl).folds in
    let sound = (plan_left b before 0 len after planned refl).sound in
    let v = values_met s p sound folds xs in (
      v,
      λ m room hand lent words outs handed. (
        (run_by plan m hand lent, run_admitted plan m hand lent),
        λ r admitted.
            runs plan p refl (d.taken refl) m room hand lent words (λ t. omega (arith, outs t, folds.units)) r admitted s sound folds xs v.val v.right handed,
      ),
    )
