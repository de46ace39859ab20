-- What the calls answer and leave, step by step of their code: refused by the plan, by the lent slices or by t, and done.
-- Assumes nothing.
use mathlib.Core.Path.{◌≡◌, refl, sym, ap, ◌∙◌}
use mathlib.Core.Bool.{false, not, ◌&&◌, and-false}
use mathlib.Core.List.{List}
use Prim.Native.Nat.{ℕ, zero, suc, ◌<◌, ◌≤◌}
use native.Mathlib.Omega.{arith}
use lib.Dec.{leb, eqb}
use lib.ListN.{length}
use borrow.Author.Tests.{le-leb, lt-leb, eq-eqb, ne_eqb}
use Rattle.std.specs.Prelude.{Ok, Err}
use Rattle.words.specs.Loops.{unless, ◌then◌}
use Rattle.records.specs.declared.reading.Reason.{Reason}
use Rattle.records.specs.Units.{channels}
use Rattle.records.specs.Records.{at, over}
use Rattle.records.specs.Numbers.{reason_number}
use Rattle.records.proofs.AnswerLaws.{reason_positive}
use Rattle.plans.specs.declared.Plan.{Plan as Header}
use Rattle.plans.specs.Plan.{plan_read}
use Rattle.plans.specs.Judging.{plan_fault}
use Rattle.judging.specs.Answers.{plan_answer}
use Rattle.judging.proofs.AnswerLaws.{why_number, got_fine, got_whole}
use Rattle.memory.specs.Memory.{size, leaving}
use Rattle.memory.specs.Taken.{Taken}
use Rattle.cycle.specs.Given.{ResultsOf}
use Rattle.moving.specs.Moving.{wiped, advanced}
use Rattle.moving.proofs.MovingLaws.{cleared_so}
use Rattle.machine.proofs.AdvanceLaws.{advanced_so}
use Rattle.machine.specs.Stepping.{last_count, clear_number, step_number, Clearing, Stepping}
use Rattle.machine.specs.Calls.{Needing}
use Rattle.machine.proofs.SteppingLaws.{room_test, clear_kept, clear_does, clear_fine, step_kept, step_does, step_fine}

-- ---- the judge's answer

-- a plan that the judge got has no fault
pub got_taken : (b : List ℕ) (p : Header) → plan_answer b ≡ Ok p → Taken b p
got_taken b p e = record { head = (got_whole b p e).said; fine = got_fine b p e }

-- what lines say of the bytes in which they were read
pub known : (b b' : List ℕ) (p : Header) (words : ℕ) → b' ≡ b → Taken b' p → words ≡ size (plan_read b') → Taken b p × (words ≡ size (plan_read b))
known b b' p words e t l = rw (← e) (t, l)

-- a reason has the fault's number
pub why_fault : (b : List ℕ) (why : Reason) → plan_answer b ≡ Err why → (reason_number why ≡ plan_fault b) × (0 < plan_fault b)
why_fault b why e = let n = why_number b why e in (n, omega (arith, n, reason_positive why))

then_first : (a b : ℕ) → 0 < a → (a then b) ≡ a
then_first zero b h = absurd (omega arith)
then_first (suc a) b h = refl

-- ---- memory_words

pub needed_refused : (b : List ℕ) (why : Reason) (number words : ℕ) → plan_answer b ≡ Err why → number ≡ reason_number why → words ≡ 0 → Needing b number words
needed_refused b why number words e n w =
    let f = why_fault b why e in
    record { number_is = n ∙ f.0; words_is = w ∙ rw (ne_eqb (plan_fault b) 0 (λ z. omega (arith, f.1))) refl }

pub needed_said : (b : List ℕ) (p : Header) (words : ℕ) → Taken b p → words ≡ size (plan_read b) → Needing b 0 words
needed_said b p words t w = record { number_is = sym t.fine; words_is = w ∙ rw t.fine refl }

-- ---- clear

module _ (b m : List ℕ) where
  clear_refusal : (number : ℕ) → 0 < number → number ≡ clear_number b m → Clearing b m number m
  clear_refusal number h e = record { number_is = e; memory_is = sym (clear_kept b m (λ z. omega (arith, e))) }

  pub clear_refused : (why : Reason) (number : ℕ) → plan_answer b ≡ Err why → number ≡ reason_number why → Clearing b m number m
  unfolding clear_number
  clear_refused why number e n =
      let f = why_fault b why e in
      clear_refusal number (omega (arith, n, f.0, f.1)) (n ∙ f.0 ∙ sym (then_first (plan_fault b) _ f.1))

  module _ (p : Header) (t : Taken b p) (n : ℕ) (is : n ≡ size (plan_read b)) where
    pub clear_short : length m < n → Clearing b m 7 m
    unfolding clear_number
    clear_short h = clear_refusal 7 (omega arith) (sym (rw (t.fine, lt-leb (size (plan_read b)) (length m) (omega (arith, is))) refl))

    pub clear_done : n ≤ length m → (after : List ℕ) → after ≡ wiped m n → Clearing b m 0 after
    clear_done h after a =
        let zero_number = clear_fine b (plan_read b) refl t.fine m (omega (arith, is)) in
        record { number_is = sym zero_number; memory_is = a ∙ cleared_so (plan_read b) m n is ∙ sym (clear_does b m zero_number) }

-- ---- step

module _ (b m c o : List ℕ) where
  step_refusal : (number : ℕ) → 0 < number → number ≡ step_number b m c o → Stepping b m c o number m o
  step_refusal number h e =
      let k = step_kept b m c o (λ z. omega (arith, e)) in
      record { number_is = e; memory_is = sym k.0; output_is = sym k.1 }

  pub step_refused : (why : Reason) (number : ℕ) → plan_answer b ≡ Err why → number ≡ reason_number why → Stepping b m c o number m o
  unfolding step_number
  step_refused why number e n =
      let f = why_fault b why e in
      let room = unless (room_test b m c o) 7 in
      let first = then_first (plan_fault b) room f.1 in
      step_refusal number (omega (arith, n, f.0, f.1)) (n ∙ f.0 ∙ sym (ap (λ (a : ℕ). a then unless (not (eqb (at m 0) last_count)) 8) first ∙ then_first (plan_fault b) _ f.1))

  module _ (p : Header) (t : Taken b p) where
    no_room : room_test b m c o ≡ false → Stepping b m c o 7 m o
    unfolding step_number
    no_room h = step_refusal 7 (omega arith) (sym (rw (t.fine, h) refl))

    pub short_memory : length m < size (plan_read b) → Stepping b m c o 7 m o
    short_memory h = no_room (rw (lt-leb (size (plan_read b)) (length m) h) refl)

    pub short_channels : length c < channels → Stepping b m c o 7 m o
    short_channels h = no_room (rw (lt-leb channels (length c) h, and-false (leb (size (plan_read b)) (length m))) refl)

    pub short_output : length o < length (plan_read b).units → Stepping b m c o 7 m o
    short_output h = no_room (rw (lt-leb (length (plan_read b).units) (length o) h, and-false (leb (size (plan_read b)) (length m) && leb channels (length c))) refl)

    module _ (hm : size (plan_read b) ≤ length m) (hc : channels ≤ length c) (ho : length (plan_read b).units ≤ length o) where
      pub too_late : at m 0 ≡ last_count → Stepping b m c o 8 m o
      unfolding step_number
      too_late h =
          step_refusal 8 (omega arith)
          (sym (rw (t.fine, le-leb (size (plan_read b)) (length m) hm, le-leb channels (length c) hc, le-leb (length (plan_read b).units) (length o) ho, eq-eqb (at m 0) last_count h) refl))

      pub step_done : at m 0 < last_count → (r after out : List ℕ) → ResultsOf (plan_read b) m c r → after ≡ advanced (plan_read b) m r → out ≡ over (leaving (plan_read b) m) o →
          Stepping b m c o 0 after out
      step_done h r after out so a e =
          let zero_number = step_fine b (plan_read b) refl t.fine m c o hm hc ho h in
          let d = step_does b m c o zero_number in
          record { number_is = sym zero_number; memory_is = a ∙ advanced_so (plan_read b) m c r so ∙ sym d.0; output_is = e ∙ sym d.1 }
