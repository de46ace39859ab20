-- What clear and step answer: which numbers there are, that a refusal changes nothing, that no slice changes its length, and that
-- words beyond the plan's stay; on bytes that say a plan without fault they clear and step that plan. Assumes nothing.
use mathlib.Core.Path.{◌≡◌, refl, sym, ap, ◌∙◌, subst}
use mathlib.Core.Logic.{◌⊎◌, inl, inr}
use mathlib.Core.Bool.{Bool, not, ◌&&◌}
use mathlib.Core.List.{List}
use Prim.Native.Nat.{ℕ, ◌<◌, ◌≤◌}
use native.Mathlib.Omega.{arith}
use native.Mathlib.Decide.{ℕ_discrete}
use lib.Dec.{leb, eqb}
use lib.ListN.{length, drop, length-append, length-drop, get_or-append}
use lib.Seq.{drop_at}
use borrow.Author.Tests.{leb-true, le-leb, ne_eqb}
use Rattle.words.specs.Loops.{unless, ◌then◌}
use Rattle.words.proofs.LoopLaws.{and_split, and_join, length_tab, passed?}
use Rattle.words.proofs.FaultLaws.{then_split, then_join, then_one, unless_true, unless_ok}
use Rattle.records.specs.Units.{channels}
use Rattle.records.specs.Records.{at, over}
use Rattle.plans.specs.Plan.{Plan, plan_read}
use Rattle.plans.specs.Judging.{plan_fault}
use Rattle.plans.proofs.JudgingLaws.{plan_faults_one}
use Rattle.memory.specs.Memory.{size, cleared, reading, leaving}
use Rattle.cycle.specs.Cycle.{stepped}
use Rattle.machine.specs.Stepping.{last_count, clear_number, clear_memory, step_number, step_memory, step_output}
use Rattle.cycle.proofs.RunLaws.{length_cleared, length_stepped, rest_cleared, rest_stepped}

pub length_leaving : (p : Plan) (m : List ℕ) → length (leaving p m) ≡ length p.units
unfolding leaving
length_leaving p m = length_tab (length p.units) (λ q. reading p m q 0)

-- ---- numbers

-- a plan's fault, then 7 where there is no room: one of 0 to 5, 7 and 9
judged_then : (b : List ℕ) (fits : Bool) → ((plan_fault b then unless fits 7) ≤ 5) ⊎ (((plan_fault b then unless fits 7) ≡ 7) ⊎ ((plan_fault b then unless fits 7) ≡ 9))
judged_then b fits = elim (then_one (plan_fault b) (unless fits 7)) [
  | inl e ↦ elim (plan_faults_one b (plan_read b)) [ inl l ↦ inl (subst (λ (z : ℕ). z ≤ 5) (sym e) l) | inr n ↦ inr (inr (e ∙ n)) ]
  | inr e ↦ elim (passed? fits) [
    | inl t ↦ inl (subst (λ (z : ℕ). z ≤ 5) (sym (e ∙ unless_ok fits 7 t)) (omega arith))
    | inr f ↦ inr (inl (e ∙ ap (λ (z : Bool). unless z 7) f))
  ]
]

pub clear_numbers : (b m : List ℕ) → (clear_number b m ≤ 5) ⊎ ((clear_number b m ≡ 7) ⊎ (clear_number b m ≡ 9))
unfolding clear_number
clear_numbers b m = judged_then b (leb (size (plan_read b)) (length m))

-- the test of the three lent slices
abbrev pub room_test : List ℕ → List ℕ → List ℕ → List ℕ → Bool
room_test b m c o = leb (size (plan_read b)) (length m) && leb channels (length c) && leb (length (plan_read b).units) (length o)

pub step_numbers : (b m c o : List ℕ) → (step_number b m c o ≤ 5) ⊎ ((7 ≤ step_number b m c o) × (step_number b m c o ≤ 9))
unfolding step_number
step_numbers b m c o =
    let first = plan_fault b then unless (room_test b m c o) 7 in
    let in_time = not (eqb (at m 0) last_count) in
    elim (then_one first (unless in_time 8)) [
      | inl e ↦ elim (judged_then b (room_test b m c o)) [
        | inl l ↦ inl (subst (λ (z : ℕ). z ≤ 5) (sym e) l)
        | inr n ↦ elim n [
          | inl s ↦ inr (subst (λ (z : ℕ). (7 ≤ z) × (z ≤ 9)) (sym (e ∙ s)) (omega arith, omega arith))
          | inr s ↦ inr (subst (λ (z : ℕ). (7 ≤ z) × (z ≤ 9)) (sym (e ∙ s)) (omega arith, omega arith))
        ]
      ]
      | inr e ↦ elim (passed? in_time) [
        | inl t ↦ inl (subst (λ (z : ℕ). z ≤ 5) (sym (e ∙ unless_ok in_time 8 t)) (omega arith))
        | inr f ↦ inr (subst (λ (z : ℕ). (7 ≤ z) × (z ≤ 9)) (sym (e ∙ ap (λ (z : Bool). unless z 8) f)) (omega arith, omega arith))
      ]
    ]

-- ---- what a number of 0 says

pub clear_zero : (b m : List ℕ) → clear_number b m ≡ 0 → (plan_fault b ≡ 0) × (size (plan_read b) ≤ length m)
unfolding clear_number
clear_zero b m h =
    let t = then_split (plan_fault b) (unless (leb (size (plan_read b)) (length m)) 7) h in
    (t.0, leb-true (size (plan_read b)) (length m) (unless_true (leb (size (plan_read b)) (length m)) 6 t.1))

pub record Roomy (b m c o : List ℕ) : Type 0 where
  pub fine : plan_fault b ≡ 0
  pub memory : size (plan_read b) ≤ length m
  pub words : channels ≤ length c
  pub outputs : length (plan_read b).units ≤ length o

pub step_zero : (b m c o : List ℕ) → step_number b m c o ≡ 0 → Roomy b m c o
unfolding step_number
step_zero b m c o h =
    let M = leb (size (plan_read b)) (length m) in
    let C = leb channels (length c) in
    let O = leb (length (plan_read b).units) (length o) in
    let t8 = then_split (plan_fault b then unless (room_test b m c o) 7) (unless (not (eqb (at m 0) last_count)) 8) h in
    let t7 = then_split (plan_fault b) (unless (room_test b m c o) 7) t8.0 in
    let all = and_split (M && C) O (unless_true (room_test b m c o) 6 t7.1) in
    let two = and_split M C all.0 in
    record {
      fine = t7.0;
      memory = leb-true (size (plan_read b)) (length m) two.0;
      words = leb-true channels (length c) two.1;
      outputs = leb-true (length (plan_read b).units) (length o) all.1;
    }

-- ---- refusals change nothing, lengths and the rest stay

pub clear_kept : (b m : List ℕ) → ¬ (clear_number b m ≡ 0) → clear_memory b m ≡ m
unfolding clear_memory
clear_kept b m h = rw (ne_eqb (clear_number b m) 0 h) refl

pub step_kept : (b m c o : List ℕ) → ¬ (step_number b m c o ≡ 0) → (step_memory b m c o ≡ m) × (step_output b m c o ≡ o)
unfolding step_memory step_output
step_kept b m c o h = rw (ne_eqb (step_number b m c o) 0 h) (refl, refl)

pub clear_does : (b m : List ℕ) → clear_number b m ≡ 0 → clear_memory b m ≡ cleared (plan_read b) m
unfolding clear_memory
clear_does b m h = rw h refl

pub step_does : (b m c o : List ℕ) → step_number b m c o ≡ 0 → (step_memory b m c o ≡ stepped (plan_read b) m c) × (step_output b m c o ≡ over (leaving (plan_read b) m) o)
unfolding step_memory step_output
step_does b m c o h = rw h (refl, refl)

pub clear_length : (b m : List ℕ) → length (clear_memory b m) ≡ length m
clear_length b m = elim (ℕ_discrete (clear_number b m) 0) [
  | yes h ↦ ap length (clear_does b m h) ∙ length_cleared (plan_read b) m (clear_zero b m h).1
  | no h ↦ ap length (clear_kept b m h)
]

pub clear_rest : (b m : List ℕ) → drop (size (plan_read b)) (clear_memory b m) ≡ drop (size (plan_read b)) m
clear_rest b m = elim (ℕ_discrete (clear_number b m) 0) [
  | yes h ↦ ap (drop (size (plan_read b))) (clear_does b m h) ∙ rest_cleared (plan_read b) m
  | no h ↦ ap (drop (size (plan_read b))) (clear_kept b m h)
]

pub step_length : (b m c o : List ℕ) → (length (step_memory b m c o) ≡ length m) × (length (step_output b m c o) ≡ length o)
step_length b m c o = elim (ℕ_discrete (step_number b m c o) 0) [
  | yes h ↦
      let d = step_does b m c o h in
      let r = step_zero b m c o h in
      let p = plan_read b in
      let out : length (over (leaving p m) o) ≡ length o = simp (length-append, length-drop) (omega (arith, length_leaving p m, r.outputs)) in
      (ap length d.0 ∙ length_stepped p m c r.memory, ap length d.1 ∙ out)
  | no h ↦ (ap length (step_kept b m c o h).0, ap length (step_kept b m c o h).1)
]

pub step_rest : (b m c o : List ℕ) →
    (drop (size (plan_read b)) (step_memory b m c o) ≡ drop (size (plan_read b)) m)
    × (drop (length (plan_read b).units) (step_output b m c o) ≡ drop (length (plan_read b).units) o)
step_rest b m c o = elim (ℕ_discrete (step_number b m c o) 0) [
  | yes h ↦
      let d = step_does b m c o h in
      let p = plan_read b in (
        ap (drop (size p)) d.0 ∙ rest_stepped p m c (step_zero b m c o h).memory,
        ap (drop (length p.units)) d.1 ∙ drop_at (leaving p m) (drop (length (leaving p m)) o) (length p.units) (length_leaving p m) ∙ ap (λ (n : ℕ). drop n o) (length_leaving p m),
      )
  | no h ↦ (ap (drop (size (plan_read b))) (step_kept b m c o h).0, ap (drop (length (plan_read b).units)) (step_kept b m c o h).1)
]

-- ---- calls on bytes that say a plan without fault

module _ (b : List ℕ) (p : Plan) (is_p : plan_read b ≡ p) (fine : plan_fault b ≡ 0) where
  pub clear_fine : (m : List ℕ) → size p ≤ length m → clear_number b m ≡ 0
  unfolding clear_number
  clear_fine m h = then_join (plan_fault b) _ fine (unless_ok (leb (size (plan_read b)) (length m)) 7 (rw is_p (le-leb (size p) (length m) h)))

  pub clear_is : (m : List ℕ) → size p ≤ length m → clear_memory b m ≡ cleared p m
  clear_is m h = clear_does b m (clear_fine m h) ∙ ap (λ (p : Plan). cleared p m) is_p

  pub step_fine : (m c o : List ℕ) → size p ≤ length m → channels ≤ length c → length p.units ≤ length o → at m 0 < last_count → step_number b m c o ≡ 0
  unfolding step_number
  step_fine m c o hm hc ho ht =
      then_join (plan_fault b then unless (room_test b m c o) 7) _
      (then_join (plan_fault b) _ fine
      (unless_ok (room_test b m c o) 7
      (rw is_p
      (and_join (leb (size p) (length m) && leb channels (length c)) (leb (length p.units) (length o))
      (and_join (leb (size p) (length m)) (leb channels (length c)) (le-leb (size p) (length m) hm) (le-leb channels (length c) hc))
      (le-leb (length p.units) (length o) ho)))))
      (unless_ok (not (eqb (at m 0) last_count)) 8 (ap not (ne_eqb (at m 0) last_count (λ e. omega arith))))

  pub step_is : (m c o : List ℕ) → step_number b m c o ≡ 0 → step_memory b m c o ≡ stepped p m c
  step_is m c o h = (step_does b m c o h).0 ∙ ap (λ (p : Plan). stepped p m c) is_p

  pub output_is : (m c o : List ℕ) → step_number b m c o ≡ 0 → (q : ℕ) → q < length p.units → at (step_output b m c o) q ≡ at (leaving p m) q
  output_is m c o h q hq =
      ap (λ (l : List ℕ). at l q) ((step_does b m c o h).1 ∙ ap (λ (p : Plan). over (leaving p m) o) is_p)
      ∙ get_or-append (leaving p m) (drop (length (leaving p m)) o) 0 q (omega (arith, length_leaving p m))
