-- The header's answer: N and the counts as the records' reader answers them, then the chain. Assumes nothing.
use Rattle.std.proofs.Common.{◌≡◌, ℕ, ◌<◌, ◌≤◌, List, length, Ok, Err, refl, leb, leb-true, le-leb}
use Rattle.std.proofs.lemmas.Bool.{lt-leb}
use Rattle.words.specs.Loops.{unless}
use Rattle.words.proofs.FaultLaws.{then_split, unless_true}
use Rattle.records.specs.declared.reading.Reason.{Reason}
use Rattle.records.specs.declared.reading.Reason.TheVariants.{Range}
use Rattle.records.specs.declared.reading.Header.{Header as Head}
use Rattle.records.specs.Records.{at, counts_fit, record_fault}
use Rattle.records.specs.Answers.{reason_of, header_in, header_fault}
use Rattle.records.specs.Answers as R
use Rattle.records.proofs.AnswerLaws.{got_none, refused_first}
use Rattle.plans.specs.Plan.{plan_format}
use Rattle.plans.specs.Heads.{plan_head}
use Rattle.plans.specs.Judging.{most_chain}
use Rattle.judging.specs.Answers.{header_answer}

module _ (b : List ℕ) where
  -- the fault of the length, the mark, N and the counts
  abbrev counts_fault : ℕ
  counts_fault = header_fault b plan_format.header_length plan_format.header_mark

  pub counts_refused : (why : Reason) → R.header_answer b plan_format.header_length plan_format.header_mark ≡ Err why → header_answer b ≡ Err why
  unfolding header_answer R.header_answer
  counts_refused why e = refused_first (header_in b) (plan_head b) counts_fault (unless (leb (at b 8) most_chain) 3) why e

  module _ (h : Head) (e : R.header_answer b plan_format.header_length plan_format.header_mark ≡ Ok h) where
    got : (counts_fault ≡ 0) × (h ≡ header_in b)
    unfolding R.header_answer
    got = got_none (header_in b) h counts_fault e

    pub head_long : plan_format.header_length ≤ length b
    head_long =
        leb-true plan_format.header_length (length b)
        (unless_true _ 0 (then_split (unless (leb plan_format.header_length (length b)) 1) (record_fault b 0 plan_format.header_mark (counts_fit b)) got.0).0)

    pub head_in : h ≡ header_in b
    head_in = got.1

    pub chain_refused : most_chain < at b 8 → header_answer b ≡ Err Range
    unfolding header_answer reason_of
    chain_refused l = rw (got.0, lt-leb (at b 8) most_chain l) refl

    pub chain_passed : at b 8 ≤ most_chain → header_answer b ≡ Ok (plan_head b)
    unfolding header_answer
    chain_passed l = rw (got.0, le-leb (at b 8) most_chain l) refl
