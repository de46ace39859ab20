-- What a call may answer where its input has a fault, where the buffer is too short for the text, and where it is written. Assumes nothing.
use mathlib.Core.Path.{◌≡◌, refl, sym, ◌∙◌}
use mathlib.Core.List.{List}
use Prim.Native.Nat.{ℕ, zero, suc, ◌+◌, ◌<◌, ◌≤◌}
use native.Mathlib.Omega.{arith}
use lib.ListN.{length}
use borrow.Author.Tests.{le-leb, lt-leb, ne_eqb}
use Rattle.std.specs.Prelude.{Ok, Err}
use Rattle.writing.proofs.LaidLaws.{laid_over}
use Rattle.numerals.specs.Wrote.{Wrote}
use Rattle.records.specs.declared.reading.Reason.{Reason}
use Rattle.records.specs.Numbers.{reason_number}
use Rattle.records.proofs.AnswerLaws.{reason_positive}
use Rattle.records.specs.Records.{most_units, most_nodes, most_wires}
use Rattle.plans.specs.declared.Plan.{Plan}
use Rattle.plans.specs.Heads.{Counted, Whole}
use Rattle.plans.specs.Plan.{plan_read}
use Rattle.plans.specs.Judging.{plan_fault}
use Rattle.plans.proofs.WholeLaws.{counted_so}
use Rattle.judging.specs.Answers.{plan_answer}
use Rattle.judging.proofs.AnswerLaws.{why_number, got_fine, got_whole, got_counts}
use Rattle.lines.specs.Text.{plan_text}
use Rattle.text.specs.Texting.{longest, Texting}

texting_fault : (fault : ℕ) (text o : List ℕ) (n len : ℕ) → n ≡ fault → 0 < n → len ≡ 0 → Texting fault text o n len o
texting_fault fault text o zero len e h z = absurd (omega arith)
texting_fault fault text o (suc n) len e h z =
    let some = ne_eqb (suc n) 0 (λ none. omega arith) in
    record { number_is = rw (sym e) refl; length_is = rw (sym e, some) z; out_is = rw (sym e, some) refl; short = omega arith }

-- a reason with the fault's number
pub texting_refused : {fault n len : ℕ} (text o : List ℕ) (why : Reason) → reason_number why ≡ fault → n ≡ reason_number why → len ≡ 0 → Texting fault text o n len o
texting_refused {fault} {n} {len} text o why e is z = texting_fault fault text o n len (is ∙ e) (omega (arith, is, reason_positive why)) z

-- without fault, where the text was measured in the buffer `nowhere`
module _ {fault most size : ℕ} {text nowhere left : List ℕ} (o : List ℕ) (fine : fault ≡ 0) (l : most ≤ longest) (w : Wrote most nowhere 0 text left size) where
  pub texting_short : length o < size → Texting fault text o 7 size o
  texting_short h =
      let s : size ≡ length text = omega (arith, w.next_is) in
      let no = lt-leb (length text) (length o) (omega (arith, s)) in
      record { number_is = rw (fine, no) refl; length_is = rw fine s; out_is = rw (fine, no) refl; short = omega (arith, w.few, s) }

  pub texting_done : {last : ℕ} {after : List ℕ} → size ≤ length o → Wrote most o 0 text after last → Texting fault text o 0 last after
  texting_done {last} h x =
      let s : size ≡ length text = omega (arith, w.next_is) in
      let t : last ≡ length text = omega (arith, x.next_is) in
      let fits : length text ≤ length o = omega (arith, s) in
      let yes = le-leb (length text) (length o) fits in
      record { number_is = rw (fine, yes) refl; length_is = rw fine t; out_is = rw (fine, yes) (x.laid_so ∙ laid_over o text fits); short = omega (arith, x.few, t) }

-- ---- plans

-- a plan that is got: its header, and at most as many records as there may be
pub record Got (b : List ℕ) (p : Plan) : Type 0 where
  pub whole : Whole b p
  pub counted : Counted p
  pub fine : plan_fault b ≡ 0
  pub few : p.units + p.nodes + p.wires ≤ most_units + most_nodes + most_wires

pub got_of : (b : List ℕ) (p : Plan) → plan_answer b ≡ Ok p → Got b p
got_of b p e =
    let w = got_whole b p e in
    let c = got_counts b p e in
    record { whole = w; counted = counted_so b p w c; fine = got_fine b p e; few = rw w.said (omega arith) }

pub plan_refused : {n len : ℕ} (b o : List ℕ) (why : Reason) → plan_answer b ≡ Err why → n ≡ reason_number why → len ≡ 0 → Texting (plan_fault b) (plan_text (plan_read b)) o n len o
plan_refused b o why e is z = texting_refused (plan_text (plan_read b)) o why (why_number b why e) is z
