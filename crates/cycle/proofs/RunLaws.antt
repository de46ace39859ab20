-- The memory of a run: place i of a unit holds the result begun at cycle t − 1 − i, and the word before where there was none.
-- Assumes nothing.
use mathlib.Core.Path.{◌≡◌, refl, sym, ap, ◌∙◌}
use mathlib.Core.Bool.{cond}
use mathlib.Core.List.{List, ◌∷◌}
use Prim.Native.Nat.{ℕ, zero, suc, ◌+◌, ◌-◌, ◌<◌, ◌≤◌}
use native.Mathlib.Nat.{suc-sub-suc}
use native.Mathlib.Omega.{arith}
use lib.Dec.{ltb, leb-suc-suc}
use lib.ListN.{length, get_or, drop, replicate, length-append, length-take, length-drop, length-replicate, get_or-replicate, get_or-append}
use lib.Seq.{get_or-take, get_or-drop, drop_at}
use borrow.Author.Tests.{lt-ltb, le-ltb}
use Rattle.words.specs.Loops.{joined}
use Rattle.records.specs.Units.{word_before}
use Rattle.records.specs.Records.{at}
use Rattle.plans.specs.Plan.{Plan}
use Rattle.memory.specs.Memory.{places, base, size, place, cleared}
use Rattle.memory.proofs.BlockLaws.{base_next, length_blocks, place_blocks}
use Rattle.cycle.specs.Cycle.{result, moved, stepped, run}

-- ---- one step

module _ (p : Plan) (m c : List ℕ) (room : size p ≤ length m) where
  length_moved : (q : ℕ) → q < length p.units → length (moved p m c q) ≡ places p q
  unfolding size
  length_moved q h = simp (length-take, length-drop) (omega (arith, base_next p q (length p.units) h))

  at_stepped : (q i : ℕ) → q < length p.units → i < places p q → place p (stepped p m c) q i ≡ get_or (moved p m c q) i 0
  unfolding stepped
  at_stepped = place_blocks p (moved p m c) length_moved (suc (at m 0)) (drop (size p) m)

  -- what each place holds after the step
  pub newest : (q : ℕ) → q < length p.units → 0 < places p q → place p (stepped p m c) q 0 ≡ result p m c q
  newest q h l = at_stepped q 0 h l ∙ get_or-take (places p q) (result p m c q ∷ drop (suc (base p q)) m) 0 0 l

  pub older : (q i : ℕ) → q < length p.units → suc i < places p q → place p (stepped p m c) q (suc i) ≡ place p m q i
  older q i h l = at_stepped q (suc i) h l ∙ get_or-take (places p q) (result p m c q ∷ drop (suc (base p q)) m) (suc i) 0 l ∙ get_or-drop (suc (base p q)) m i 0 ∙ ap (λ (k : ℕ). get_or m k 0) (omega arith)

  pub length_stepped : length (stepped p m c) ≡ length m
  unfolding stepped size
  length_stepped = simp (length-append, length-drop) (omega (arith, length_blocks p (moved p m c) length_moved (length p.units) (omega arith)))

  -- words beyond the plan's stay
  pub rest_stepped : drop (size p) (stepped p m c) ≡ drop (size p) m
  unfolding stepped size
  rest_stepped =
      drop_at (joined (length p.units) (moved p m c)) (drop (size p) m) (base p (length p.units)) (length_blocks p (moved p m c) length_moved (length p.units) (omega arith))

-- ---- a run from cleared memory

pub length_cleared : (p : Plan) (m : List ℕ) → size p ≤ length m → length (cleared p m) ≡ length m
unfolding cleared size
length_cleared p m room = simp (length-append, length-replicate, length-drop) (omega arith)

pub rest_cleared : (p : Plan) (m : List ℕ) → drop (size p) (cleared p m) ≡ drop (size p) m
unfolding cleared size
rest_cleared p m =
    drop_at (replicate (base p (length p.units)) word_before) (drop (size p) m) (base p (length p.units)) (length-replicate (base p (length p.units)) word_before)

pub length_run : (p : Plan) (m : List ℕ) (hand : ℕ → List ℕ) → size p ≤ length m → (t : ℕ) → length (run p m hand t) ≡ length m
unfolding run
length_run p m hand room zero = length_cleared p m room
length_run p m hand room (suc t) =
    let ih : length (run p m hand t) ≡ length m = length_run p m hand room t in
    length_stepped p (run p m hand t) (hand t) (omega arith) ∙ ih

pub cycle_run : (p : Plan) (m : List ℕ) (hand : ℕ → List ℕ) (t : ℕ) → at (run p m hand t) 0 ≡ t
unfolding run cleared stepped size
cycle_run p m hand zero = refl
cycle_run p m hand (suc t) = ap suc (cycle_run p m hand t)

-- the result that unit q begins at cycle t
abbrev pub begun : Plan → List ℕ → (ℕ → List ℕ) → ℕ → ℕ → ℕ
begun p m hand q t = result p (run p m hand t) (hand t) q

-- what f began n cycles before t, and the word before where that is before cycle 0
abbrev pub ago : (ℕ → ℕ) → ℕ → ℕ → ℕ
ago f t n = cond (ltb t n) word_before (f (t - n))

pub ago_none : (f : ℕ → ℕ) (t n : ℕ) → t < n → ago f t n ≡ word_before
ago_none f t n h = rw (lt-ltb t n h) refl

pub ago_some : (f : ℕ → ℕ) (t n s : ℕ) → s + n ≡ t → ago f t n ≡ f s
ago_some f t n s e = rw (le-ltb t n (omega arith)) (ap f (omega arith))

ago_suc : (f : ℕ → ℕ) (t n : ℕ) → ago f (suc t) (suc n) ≡ ago f t n
ago_suc f t n = rw (leb-suc-suc (suc t) n, suc-sub-suc t n) refl

at_cleared : (p : Plan) (m : List ℕ) (i : ℕ) → i < base p (length p.units) → at (cleared p m) (suc i) ≡ word_before
unfolding cleared
at_cleared p m i h =
    get_or-append (replicate (base p (length p.units)) word_before) (drop (size p) m) 0 i (rw length-replicate h)
    ∙ get_or-replicate (base p (length p.units)) i word_before 0 h

pub place_run : (p : Plan) (m : List ℕ) (hand : ℕ → List ℕ) → size p ≤ length m →
    (t q i : ℕ) → q < length p.units → i < places p q → place p (run p m hand t) q i ≡ ago (begun p m hand q) t (suc i)
unfolding run
place_run p m hand room zero q i h l =
    at_cleared p m (base p q + i) (omega (arith, base_next p q (length p.units) h)) ∙ sym (ago_none (begun p m hand q) 0 (suc i) (omega arith))
place_run p m hand room (suc t) q zero h l =
    newest p (run p m hand t) (hand t) (omega (arith, length_run p m hand room t)) q h l ∙ sym (ago_some (begun p m hand q) (suc t) 1 t (omega arith))
place_run p m hand room (suc t) q (suc i) h l =
    older p (run p m hand t) (hand t) (omega (arith, length_run p m hand room t)) q i h l
    ∙ place_run p m hand room t q i h (omega arith) ∙ sym (ago_suc (begun p m hand q) t (suc i))
