-- What the answer of judging says: its number is the first fault, and a plan that is got lies whole in its bytes. Assumes nothing.
use mathlib.Core.Path.{◌≡◌, refl, sym, ap, ◌∙◌, subst⁻¹}
use mathlib.Core.Logic.{inl, inr}
use mathlib.Core.List.{List}
use Prim.Native.Nat.{ℕ}
use lib.Dec.{leb}
use Rattle.std.specs.Prelude.{Ok, Err}
use Rattle.words.proofs.LoopLaws.{and_split}
use Rattle.records.specs.declared.reading.Reason.{Reason}
use Rattle.records.specs.Records.{counts_fit}
use Rattle.records.specs.Answers.{reason_of, answered, answer_number}
use Rattle.records.specs.Numbers.{reason_number}
use Rattle.records.proofs.ReadingLaws.{Counts, counts_split}
use Rattle.records.proofs.AnswerLaws.{got_none, number_answered}
use Rattle.plans.specs.declared.Plan.{Plan as Header}
use Rattle.plans.specs.Plan.{plan_read}
use Rattle.plans.specs.Heads.{plan_head, Whole}
use Rattle.plans.specs.Judging.{most_chain, plan_fault}
use Rattle.plans.proofs.JudgingLaws.{judged, plan_faults_one}
use Rattle.judging.specs.Answers.{plan_answer}

module _ (b : List ℕ) where
  -- the answer's number is the first fault
  pub number_is : answer_number (plan_answer b) ≡ plan_fault b
  unfolding plan_answer reason_of
  number_is = elim (plan_faults_one b (plan_read b)) [
    | inl l ↦ number_answered (plan_head b) (plan_fault b) l
    | inr e ↦ subst⁻¹ (λ (f : ℕ). answer_number (answered (plan_head b) f) ≡ f) e refl
  ]

  pub why_number : (why : Reason) → plan_answer b ≡ Err why → reason_number why ≡ plan_fault b
  why_number why e = ap answer_number (sym e) ∙ number_is

  module _ (p : Header) (e : plan_answer b ≡ Ok p) where
    -- a plan is got where there is no fault
    pub got_fine : plan_fault b ≡ 0
    unfolding plan_answer
    got_fine = (got_none (plan_head b) p (plan_fault b) e).0

    -- its header is what the bytes say, and they are as long as it says
    pub got_whole : Whole b p
    unfolding plan_answer
    got_whole = record { said = (got_none (plan_head b) p (plan_fault b) e).1; long = (judged b (plan_read b) got_fine).records.whole }

    pub got_counts : Counts b
    got_counts = counts_split b (and_split (counts_fit b) (leb (plan_read b).chain most_chain) (judged b (plan_read b) got_fine).records.in_ranges).0
