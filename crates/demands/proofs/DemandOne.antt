-- Demand 1: every call ends in its result or one numbered refusal, and a refusal changes nothing; each call has one result.
-- Assumes nothing.
use mathlib.Core.Path.{◌≡◌, refl, sym, ap, ◌∙◌, subst}
use mathlib.Core.List.{List, ◌∷◌}
use Prim.Native.Nat.{ℕ, ◌≤◌}
use native.Mathlib.Decide.{ℕ_discrete}
use native.Mathlib.Omega.{arith}
use lib.ListN.{length, drop}
use borrow.Author.Tests.{ne_eqb}
use Rattle.records.specs.Records.{over}
use Rattle.sheets.specs.Sheet.{sheet_of}
use Rattle.sheets.proofs.SheetLaws.{passed, sound_of}
use Rattle.folding.proofs.FoldingLaws.{folds_well}
use Rattle.plans.specs.Plan.{plan_bytes, loop_bytes}
use Rattle.drawing.specs.PlanOf.{plan_of}
use Rattle.planner.specs.Planning.{answered_length, left_in, Planning}
use Rattle.drawing.proofs.PassedPlan.{length_written}
use Rattle.planner.proofs.PlanningLaws.{plan_number_le, at_zero, at_six, length_loop, loop_room, length_over, drop_over, planning_met, planned_once}
use Rattle.machine.specs.Stepping.{clear_number, clear_memory, step_number, step_memory, step_output}
use Rattle.machine.proofs.SteppingLaws.{clear_numbers, step_numbers, clear_kept, step_kept, clear_length, clear_rest, step_length, step_rest}
use Rattle.demands.specs.Demands.{PlannerEnds, Demand1, OneResult}

-- w was written at the head of the buffer, and len is its length
written : (before : List ℕ) (number len : ℕ) (after w : List ℕ) → number ≤ 7 → ((¬ (number ≡ 0)) → (¬ (number ≡ 6)) → after ≡ before) →
    len ≡ length w → length w ≤ length before → after ≡ over w before → PlannerEnds before number len after
written before number len after w few kept l room is = record {
  numbered = few;
  kept = kept;
  same_length = ap length is ∙ length_over w before room;
  rest_kept = ap (drop len) is ∙ subst (λ (n : ℕ). drop n (over w before) ≡ drop n before) (sym l) (drop_over w before);
}

planner_ends : (b before : List ℕ) (number len : ℕ) (after : List ℕ) → Planning b before number len after → PlannerEnds before number len after
planner_ends b before number len after p =
    let few : number ≤ 7 = subst (λ (n : ℕ). n ≤ 7) (sym p.number_is) (plan_number_le b (length before)) in
    elim (ℕ_discrete number 6) [
      | yes six ↦
          let s = p.shown six in
          let j = at_six b (length before) (sym p.number_is ∙ six) in
          let room = loop_room b j.fine s.wire s.wires s.loop in
          written before number len after (loop_bytes (s.wire ∷ s.wires)) few (λ a c. absurd (c six)) (s.length_is ∙ sym (length_loop s.wire s.wires))
          (omega (arith, j.room_enough, length_loop s.wire s.wires)) s.left
      | no other ↦
          let f = p.fixed other in
          elim (ℕ_discrete number 0) [
            | yes done ↦
                let j = at_zero b (length before) (sym p.number_is ∙ done) in
                let ok = folds_well (sheet_of b) (sound_of b j.fine) j.folds_is in
                let long = length_written b (passed b j.fine) ok in
                written before number len after (plan_bytes (plan_of (sheet_of b))) few (λ a c. absurd (a done)) (f.0 ∙ ap (answered_length b) done ∙ sym long)
                (omega (arith, j.room_enough)) (f.1 ∙ ap (left_in b before) done)
            | no refused ↦
                let same : after ≡ before = f.1 ∙ (rw (ne_eqb number 0 refused) refl) in
                record { numbered = few; kept = λ a c. same; same_length = ap length same; rest_kept = ap (drop len) same }
          ]
    ]

pub demand_1 : Demand1
demand_1 = record {
  planner_answers = planning_met;
  planner = planner_ends;
  clear_answers = λ b m. (clear_number b m, clear_memory b m, record { number_is = refl; memory_is = refl });
  clear = λ b m number after p. rw (p.number_is, p.memory_is) (record {
    numbered = clear_numbers b m;
    kept = clear_kept b m;
    same_length = clear_length b m;
    rest_kept = clear_rest b m;
  });
  step_answers = λ b m c o. (step_number b m c o, step_memory b m c o, step_output b m c o, record { number_is = refl; memory_is = refl; output_is = refl });
  step = λ b m c o number after out p. rw (p.number_is, p.memory_is, p.output_is) (record {
    numbered = step_numbers b m c o;
    kept = step_kept b m c o;
    same_length = step_length b m c o;
    rest_kept = step_rest b m c o;
  });
}

pub one_result : OneResult
one_result = record {
  planner = planned_once;
  clear = λ b m n n' after after' p p'. (p.number_is ∙ sym p'.number_is, p.memory_is ∙ sym p'.memory_is);
  step = λ b m c o n n' after after' out out' p p'.
      (p.number_is ∙ sym p'.number_is, p.memory_is ∙ sym p'.memory_is, p.output_is ∙ sym p'.output_is);
}
