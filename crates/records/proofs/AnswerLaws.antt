-- Laws of answers: an answer's number is its first fault, and a run's first refusal that of its first fault. Assumes nothing.
use mathlib.Core.Path.{◌≡◌, refl, sym, ap}
use Prim.Native.Nat.{ℕ, zero, suc, ◌+◌, ◌*◌, ◌<◌, ◌≤◌}
use native.Mathlib.Nat.{mul-le-mul_left}
use native.Mathlib.Omega.{arith}
use Rattle.std.specs.Prelude.{Result, Ok, Err, ⊤}
use Rattle.words.specs.Loops.{first, ◌then◌}
use Rattle.words.proofs.FaultLaws.{first_hit, first_none}
use Rattle.records.specs.declared.reading.Reason.{Reason}
use Rattle.records.specs.declared.reading.Reason.TheVariants.{Length, Mark, Range, Clash, Unfed, Figures}
use Rattle.records.specs.declared.reading.Run.{Run}
use Rattle.records.specs.Records.{Format}
use Rattle.records.specs.Answers.{reason_of, answered, judged, answer_number, FirstRefused, place, unit_run, node_run, wire_run, Inside}
use Rattle.records.specs.Numbers.{reason_number}

-- ---- reasons and their numbers

pub reason_back : (f : ℕ) → 0 < f → f ≤ 5 → reason_number (reason_of f) ≡ f
unfolding reason_of
reason_back zero h k = absurd (omega arith)
reason_back (suc zero) h k = refl
reason_back (suc (suc zero)) h k = refl
reason_back (suc (suc (suc zero))) h k = refl
reason_back (suc (suc (suc (suc zero)))) h k = refl
reason_back (suc (suc (suc (suc (suc zero))))) h k = refl
reason_back (suc (suc (suc (suc (suc (suc n)))))) h k = absurd (omega arith)

pub reason_positive : (why : Reason) → 0 < reason_number why
reason_positive Length = omega arith
reason_positive Mark = omega arith
reason_positive Range = omega arith
reason_positive Clash = omega arith
reason_positive Unfed = omega arith
reason_positive Figures = omega arith

-- the number of an answer is the fault at which it is given
pub number_answered : {A : Type 0} (got : A) (f : ℕ) → f ≤ 5 → answer_number (answered got f) ≡ f
number_answered got zero k = refl
number_answered got (suc n) k = reason_back (suc n) (omega arith) k

-- ---- judging part by part

-- what is got has no fault
pub got_none : {A : Type 0} (got got' : A) (f : ℕ) → answered got f ≡ Ok got' → (f ≡ 0) × (got' ≡ got)
got_none got got' zero e = (refl, cc)
got_none got got' (suc n) e = let z : ◌≡◌ {A = ℕ} 0 1 = cc in absurd (omega arith)

-- what is refused has one
pub refused_some : {A : Type 0} (got : A) (f : ℕ) (why : Reason) → answered got f ≡ Err why → 0 < f
refused_some got zero why e = let z : ◌≡◌ {A = ℕ} 0 1 = cc in absurd (omega arith)
refused_some got (suc n) why e = omega arith

-- what is refused for one answer is refused for any, for that reason
pub refused_last : {A B : Type 0} (got : A) (got' : B) (a : ℕ) (why : Reason) → answered got a ≡ Err why → answered got' a ≡ Err why
refused_last got got' zero why e = let z : ◌≡◌ {A = ℕ} 0 1 = cc in absurd (omega arith)
refused_last got got' (suc n) why e = let r : reason_of (suc n) ≡ why = cc in ap Err r

-- and a part that is refused decides
pub refused_first : {A B : Type 0} (got : A) (got' : B) (a b : ℕ) (why : Reason) → answered got a ≡ Err why → answered got' (a then b) ≡ Err why
refused_first got got' zero b why e = let z : ◌≡◌ {A = ℕ} 0 1 = cc in absurd (omega arith)
refused_first got got' (suc n) b why e = refused_last got got' (suc n) why e

-- the first refusal of reads that answer their faults is answered at the first fault
pub first_refused_is : {A : Type 0} {read : ℕ → Result A Reason → Type 0} (n : ℕ) (r : Result ⊤ Reason) (got : ℕ → A) (f : ℕ → ℕ) →
    FirstRefused read n r → ((i : ℕ) (a : Result A Reason) → i < n → read i a → a ≡ answered (got i) (f i)) → r ≡ judged (first n f)
first_refused_is n (Ok passed) got f h told =
    let p = h.passed refl in
    let none = first_none n f (λ i l. (got_none (got i) (p i l).0 (f i) (sym (told i (Ok (p i l).0) l (p i l).1))).0) in
    rw none refl
first_refused_is n (Err why) got f h told =
    let p = h.refused why refl in
    let i = p.0 in
    let none = first_none i f (λ j k. (got_none (got j) (p.2 j k).0 (f j) (sym (told j (Ok (p.2 j k).0) (omega (arith, p.1)) (p.2 j k).1))).0) in
    let here = sym (told i (Err why) p.1 p.3) in
    rw (first_hit n i f p.1 none (refused_some (got i) (f i) why here)) (sym (refused_last (got i) tt (f i) why here))

-- ---- runs

-- the runs lie one behind the other
module _ (f : Format) (u n w k : ℕ) where
  pub units_inside : k ≤ f.unit_length → Inside k (unit_run f u) (place (wire_run f u n w) w)
  units_inside h = record { wide = h; ends = omega arith }

  pub nodes_inside : k ≤ f.node_length → Inside k (node_run f u n) (place (wire_run f u n w) w)
  nodes_inside h = record { wide = h; ends = omega arith }
