-- A walk by the places of its wires. Where it is as long as there are nodes, some wire meets a node that it has left; the part between
-- is a loop, and may be turned to begin at any of its wires. Assumes nothing.
use mathlib.Core.Path.{◌≡◌, sym, ap, ◌∙◌, subst}
use mathlib.Core.List.{List, [], ◌∷◌, ◌++◌}
use Prim.Native.Nat.{ℕ, zero, suc, ◌+◌, ◌-◌, ◌<◌, ◌≤◌}
use native.Mathlib.Omega.{arith}
use lib.ListN.{length, get_or, take, drop, length-append, length-drop, take-append-drop}
use lib.Seq.{length-take-le, get_or-take, get_or-drop}
use lib.IntN.{pos, ◌+ℤ◌}
use lib.Signed.{◌<ℤ◌}
use Rattle.words.proofs.Ints.{ints, sumℤ, up_pos, down_pos}
use Rattle.folding.specs.Walks.{Net, Walk, along, Absent, Once, AtLeast, Loop}
use Rattle.falls.specs.Choices.{Falling}
use Rattle.loops.specs.Shown.{New}
use Rattle.folding.proofs.RoundLaws.{Closed, round_below, walk_end}
use Rattle.folding.proofs.OnceLaws.{few_but, once_turn}
use Rattle.folding.proofs.LoopFound.{atleast_append, along_append, walk_append, walk_split, walk_below}

-- ---- lists by their places

pub atleast_all : (a : ℕ) (es : List ℕ) → ((p : ℕ) → p < length es → a ≤ get_or es p 0) → AtLeast a es
atleast_all a [] h = tt
atleast_all a (e ∷ es) h = (h 0 (omega arith), atleast_all a es (λ p l. h (suc p) (omega arith)))

module _ (f : ℕ → ℕ) where
  absent_all : (a : ℕ) (es : List ℕ) → ((p : ℕ) → p < length es → ¬ (a ≡ f (get_or es p 0))) → Absent a f es
  absent_all a [] h = tt
  absent_all a (e ∷ es) h = (h 0 (omega arith), absent_all a es (λ p l. h (suc p) (omega arith)))

  once_all : (es : List ℕ) → ((p q : ℕ) → p < q → q < length es → ¬ (f (get_or es p 0) ≡ f (get_or es q 0))) → Once f es
  once_all [] h = tt
  once_all (e ∷ es) h =
      (absent_all (f e) es (λ p l. h 0 (suc p) (omega arith) (omega arith)), once_all es (λ p q k l. h (suc p) (suc q) (omega arith) (omega arith)))

-- ---- walks by their places

module _ (g : Net) where
  pub walk_wire : (es : List ℕ) (u v : ℕ) → Walk g es u v → (p : ℕ) → p < length es → get_or es p 0 < g.wires
  walk_wire [] u v w p h = absurd (omega arith)
  walk_wire (e ∷ es) u v w zero h = w.0
  walk_wire (e ∷ es) u v w (suc p) h = walk_wire es (g.to e) v w.2 p (omega arith)

  walk_first : (es : List ℕ) (u v : ℕ) → Walk g es u v → 0 < length es → g.from (get_or es 0 0) ≡ u
  walk_first [] u v w h = absurd (omega arith)
  walk_first (e ∷ es) u v w h = w.1

  walk_joint : (es : List ℕ) (u v : ℕ) → Walk g es u v → (p : ℕ) → suc p < length es → g.from (get_or es (suc p) 0) ≡ g.to (get_or es p 0)
  walk_joint [] u v w p h = absurd (omega arith)
  walk_joint (e ∷ es) u v w zero h = walk_first es (g.to e) v w.2 (omega arith)
  walk_joint (e ∷ es) u v w (suc p) h = walk_joint es (g.to e) v w.2 p (omega arith)

  walk_last : (es : List ℕ) (u v : ℕ) → Walk g es u v → (p : ℕ) → suc p ≡ length es → g.to (get_or es p 0) ≡ v
  walk_last [] u v w p h = absurd (omega arith)
  walk_last (e ∷ []) u v w zero h = w.2
  walk_last (e ∷ (a ∷ es)) u v w zero h = absurd (omega arith)
  walk_last (e ∷ es) u v w (suc p) h = walk_last es (g.to e) v w.2 p (omega arith)

  new_once : (es : List ℕ) (u v : ℕ) → Walk g es u v → ((q : ℕ) → suc q < length es → New g es q) → Once g.from es
  new_once es u v w new = once_all g.from es apart
    where
      apart : (p q : ℕ) → p < q → q < length es → ¬ (g.from (get_or es p 0) ≡ g.from (get_or es q 0))
      apart p zero h l e = absurd (omega arith)
      apart p (suc q) h l e = new q l p (omega arith) (e ∙ walk_joint es u v w q l)

  -- ---- the loop in it

  pub record Ring (es : List ℕ) : Type 0 where
    pub node : ℕ
    pub closed : Walk g es node node
    pub once : Once g.from es
    pub short : along g es <ℤ pos 0

  module _ (cl : Closed g) (es : List ℕ) (falling : Falling g es) where
    -- some wire meets a node again
    pub not_all_new : ((q : ℕ) → q < length es → New g es q) → ⊥
    not_all_new new =
        let u = falling.start in
        let v = falling.end in
        let w = falling.walk in
        let n = g.nodes in
        let long = falling.long in
        let some : 0 < n = omega (arith, falling.in_net) in
        let away : Absent v g.from es =
        absent_all g.from v es (λ p l e. new (n - 1) (omega arith) p (omega arith) (sym e ∙ sym (walk_last es u v w (n - 1) (omega arith)))) in
        let few = few_but g.from n v es (walk_end g es u v cl w falling.in_net) away (new_once es u v w (λ q h. new q (omega arith))) (walk_below g es u v cl w) in
        omega arith

    -- from where it left a node to where it first meets one again
    pub ring_of : (a b : ℕ) → a ≤ b → b < length es → g.from (get_or es a 0) ≡ g.to (get_or es b 0) →
        ((q : ℕ) → q < b → New g es q) → Ring (take (suc b - a) (drop a es))
    ring_of a b h l meet new =
        let u = falling.start in
        let v = falling.end in
        let m = suc b - a in
        let before = take a es in
        let rest = drop a es in
        let ring = take m rest in
        let after = drop m rest in
        let long_before : length before ≡ a = length-take-le a es (omega arith) in
        let long_rest : length rest ≡ length es - a = length-drop a es in
        let long_ring : length ring ≡ m = length-take-le m rest (omega arith) in
        let long_after : length after ≡ length rest - m = length-drop m rest in
        let at : (p : ℕ) → p < m → get_or ring p 0 ≡ get_or es (a + p) 0 = λ p k. get_or-take m rest p 0 k ∙ get_or-drop a es p 0 in
        let whole : es ≡ before ++ (ring ++ after) = sym (take-append-drop a es) ∙ ap (λ (l : List ℕ). before ++ l) (sym (take-append-drop m rest)) in
        let s = walk_split g before (ring ++ after) u v (subst (λ (l : List ℕ). Walk g l u v) whole falling.walk) in
        let t = walk_split g ring after s.0 v s.2 in
        let x : g.from (get_or es a 0) ≡ s.0 = ap (λ (p : ℕ). g.from (get_or es p 0)) (let e : a ≡ a + 0 = omega arith in e) ∙ ap g.from (sym (at 0 (omega arith))) ∙ walk_first ring s.0 t.0 t.1 (omega arith) in
        let y : g.to (get_or es b 0) ≡ t.0 = ap (λ (p : ℕ). g.to (get_or es p 0)) (let e : b ≡ a + (b - a) = omega arith in e) ∙ ap g.to (sym (at (b - a) (omega arith))) ∙ walk_last ring s.0 t.0 t.1 (b - a) (omega arith) in
        let same : t.0 ≡ s.0 = sym y ∙ sym meet ∙ x in
        let round_it : Walk g ring s.0 s.0 = subst (λ (z : ℕ). Walk g ring s.0 z) same t.1 in
        let onward : Walk g after s.0 v = subst (λ (z : ℕ). Walk g after z v) same t.2 in
        let fewer : length (before ++ after) ≤ g.nodes - 1 = rw length-append (omega (arith, falling.long)) in
        let cut = round_below g cl (g.nodes - 1) u (before ++ after) v falling.in_net (walk_append g before after u s.0 v s.1 onward) fewer in
        let t1 : along g es ≡ along g before +ℤ along g (ring ++ after) = ap (along g) whole ∙ along_append g before (ring ++ after) in
        let t2 = along_append g ring after in
        let t3 = along_append g before after in
        let fall = falling.falls in
        record {
          node = s.0;
          closed = round_it;
          once = new_once ring s.0 s.0 round_it (λ q k p i e. new (a + q) (omega arith) (a + p) (omega arith) (sym (ap g.from (at p (omega arith))) ∙ e ∙ ap g.to (at q (omega arith))));
          short = let neg : along g ring <ℤ pos 0 = omega (ints, sumℤ (along g before) (along g (ring ++ after)), sumℤ (along g ring) (along g after), sumℤ (along g before) (along g after), up_pos 0, down_pos 0) in neg;
        }

  -- a ring that begins at one of its lowest wires is the loop that is shown
  pub turned_loop : (front : List ℕ) (a : ℕ) (back : List ℕ) → Ring (front ++ (a ∷ back)) → AtLeast a front → AtLeast a back → Loop g a (back ++ front)
  turned_loop front a back r before behind =
      let u = r.node in
      let s = walk_split g front (a ∷ back) u u r.closed in
      let at : g.from a ≡ s.0 = s.2.1 in
      let around : Walk g ((a ∷ back) ++ front) s.0 s.0 = walk_append g (a ∷ back) front s.0 u s.0 s.2 s.1 in
      let sum = along_append g front (a ∷ back) in
      let sum' = along_append g (a ∷ back) front in
      let short = r.short in
      record {
        closed = subst (λ (z : ℕ). Walk g ((a ∷ back) ++ front) z z) (sym at) around;
        once = once_turn g.from front (a ∷ back) r.once;
        lowest = atleast_append a back front behind before;
        short = let neg : along g ((a ∷ back) ++ front) <ℤ pos 0 = omega (ints, sumℤ (along g front) (along g (a ∷ back)), sumℤ (along g (a ∷ back)) (along g front)) in neg;
      }
