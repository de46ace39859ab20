-- One turn more of the loops that write: the leaving words at the head of the output, and each unit's places moved. Assumes nothing.
use mathlib.Core.Path.{◌≡◌, refl, sym, ap, ap₂, ◌∙◌}
use mathlib.Core.List.{List, [], ◌∷◌, ◌++◌, append_assoc}
use Prim.Native.Nat.{ℕ, zero, suc, ◌+◌, ◌-◌, ◌<◌, ◌≤◌}
use native.Mathlib.Numerals.{add-one}
use native.Mathlib.Omega.{arith}
use lib.ListN.{length, get_or, set, take, drop, length-drop, length-take}
use lib.Seq.{take_at, drop_at, drop-append-add, drop-drop}
use Rattle.words.specs.Loops.{tab, joined}
use Rattle.words.proofs.LoopLaws.{length_tab}
use Rattle.records.specs.Records.{at, over}
use Rattle.plans.specs.declared.Plan as Head
use Rattle.plans.specs.Plan.{Plan, unit_in, plan_read}
use Rattle.memory.specs.Memory.{places, base, size, cleared, reading, leaving}
use Rattle.memory.specs.Taken.{Taken, LinesAt}
use Rattle.moving.specs.Moving.{shifted, wiped, moved_by, advanced}
use Rattle.plans.proofs.WholeLaws.{units_so}
use Rattle.memory.proofs.TakenLaws.{whole_taken, unit_fine}
use Rattle.memory.proofs.BlockLaws.{base_next, length_blocks}

-- ---- words at the head of a slice

head_suc : (n : ℕ) (f : ℕ → ℕ) (l : List ℕ) → n < length l → set (tab n f ++ drop n l) n (f n) ≡ tab (suc n) f ++ drop (suc n) l
unfolding tab
head_suc n f [] h = absurd (omega arith)
head_suc zero f (x ∷ l) h = refl
head_suc (suc n) f (x ∷ l) h = ap (λ (k : List ℕ). f 0 ∷ k) (head_suc n (λ i. f (suc i)) l (omega arith))

-- one word more
pub head_more : (n : ℕ) (f : ℕ → ℕ) (l m : List ℕ) (w : ℕ) → n < length l → m ≡ tab n f ++ drop n l → w ≡ f n → set m n w ≡ tab (n + 1) f ++ drop (n + 1) l
head_more n f l m w h is e = rw (is, e, add-one n) (head_suc n f l h)

pub head_none : (f : ℕ → ℕ) (l : List ℕ) → l ≡ tab 0 f ++ drop 0 l
unfolding tab
head_none f l = refl

-- all words
pub head_leaving : (p : Plan) (m o out : List ℕ) (n : ℕ) → n ≡ length p.units → out ≡ tab n (λ q. reading p m q 0) ++ drop n o → out ≡ over (leaving p m) o
unfolding leaving
head_leaving p m o out n e is =
    let f : ℕ → ℕ = λ q. reading p m q 0 in
    is ∙ ap (λ (n : ℕ). tab n f ++ drop n o) e ∙ ap (λ (k : ℕ). tab (length p.units) f ++ drop k o) (sym (length_tab (length p.units) f))

-- ---- clearing

pub cleared_so : (p : Plan) (m : List ℕ) (n : ℕ) → n ≡ size p → wiped m n ≡ cleared p m
unfolding cleared size
cleared_so p m n e = rw (e, let k : suc (base p (length p.units)) - 1 ≡ base p (length p.units) = omega arith in k) refl

-- ---- moving

-- a line that stands behind `front` moves
shifted_at : (front rest : List ℕ) (from n x : ℕ) → length front ≡ from → shifted (front ++ rest) from n x ≡ front ++ (take n (x ∷ rest) ++ drop n rest)
shifted_at front rest from n x e =
    let behind : drop (from + n) (front ++ rest) ≡ drop n rest = ap (λ (k : ℕ). drop (k + n) (front ++ rest)) (sym e) ∙ drop-append-add front rest n in
    rw (take_at front rest from e, drop_at front rest from e, behind) refl

-- a memory whose first n units have moved
abbrev pub moved_to : Plan → List ℕ → List ℕ → ℕ → List ℕ
moved_to p m r n = at m 0 ∷ (joined n (moved_by p m r) ++ drop (suc (base p n)) m)

module _ (p : Plan) (m r : List ℕ) (room : size p ≤ length m) where
  length_moved_by : (q : ℕ) → q < length p.units → length (moved_by p m r q) ≡ places p q
  unfolding size
  length_moved_by q h = simp (length-take, length-drop) (omega (arith, base_next p q (length p.units) h))

  -- none has
  pub moved_none : m ≡ moved_to p m r 0
  unfolding joined base size
  moved_none = first m room
    where
      first : (m : List ℕ) → size p ≤ length m → m ≡ at m 0 ∷ drop 1 m
      first [] h = absurd (omega arith)
      first (x ∷ l) h = refl

  -- one unit more
  pub moved_more : (q : ℕ) → q < length p.units → (now : List ℕ) (from n x : ℕ) → now ≡ moved_to p m r q → from ≡ suc (base p q) → n ≡ places p q → x ≡ at r q →
      shifted now from n x ≡ moved_to p m r (q + 1)
  unfolding joined base
  moved_more q h now from n x is at_q long new =
      let f = moved_by p m r in
      let front = at m 0 ∷ joined q f in
      let rest = drop (suc (base p q)) m in
      let long_front : length front ≡ from = ap suc (length_blocks p f length_moved_by q (omega arith)) ∙ sym at_q in
      let next : drop n rest ≡ drop (suc (base p q + places p q)) m = drop-drop n (suc (base p q)) m ∙ ap (λ (k : ℕ). drop k m) (let e : suc (base p q) + n ≡ suc (base p q + places p q) = omega arith in e) in
      ap (λ (l : List ℕ). shifted l from n x) is ∙ shifted_at front rest from n x long_front
      ∙ ap₂ (λ (a b : List ℕ). at m 0 ∷ (joined q f ++ (a ++ b))) (ap₂ (λ (n x : ℕ). take n (x ∷ rest)) long new) next
      ∙ ap (λ (l : List ℕ). at m 0 ∷ l) (sym (append_assoc (joined q f) (f q) (drop (suc (base p q + places p q)) m)))
      ∙ ap (moved_to p m r) (sym (add-one q))

  -- all units, and t one higher
  pub moved_all : (n : ℕ) (now : List ℕ) → n ≡ length p.units → now ≡ moved_to p m r n → set now 0 (at now 0 + 1) ≡ advanced p m r
  unfolding advanced size
  moved_all n now e is = rw (is, add-one (at m 0), e) refl

-- ---- where the places of a plan without fault stand

module _ (b : List ℕ) (p : Head.Plan) (t : Taken b p) (lines : List ℕ) (so : LinesAt (plan_read b) lines) where
  at_line : (q : ℕ) → q < p.units → get_or lines q 0 ≡ suc (base (plan_read b) q)
  at_line q h = so q (omega (arith, units_so b p (whole_taken t)))

  -- a unit has a place, and all lie in the memory
  pub line_inside : (q n : ℕ) → q < p.units → n ≡ places (plan_read b) q → (0 < n) × (get_or lines q 0 + n ≤ size (plan_read b))
  unfolding size
  line_inside q n h is =
      let pl = plan_read b in
      (omega (arith, (unit_fine b p t q h).deep), omega (arith, at_line q h, base_next pl q (length pl.units) (omega (arith, units_so b p (whole_taken t)))))

  -- place P − 1
  pub last_place : (q depth : ℕ) → q < p.units → depth ≡ (unit_in (plan_read b) q).unit.depth →
      (get_or lines q 0 + (depth - 1) ≡ suc (base (plan_read b) q + ((unit_in (plan_read b) q).unit.depth - 1 + 0))) × (get_or lines q 0 + (depth - 1) < size (plan_read b))
  last_place q depth h is =
      let inside = line_inside q (places (plan_read b) q) h refl in
      (omega (arith, at_line q h), omega (arith, inside.1, (unit_fine b p t q h).deep))
