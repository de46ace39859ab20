-- A walk of as many wires as there are nodes meets a node twice. The first such loop is cut out, and turned to its lowest wire.
-- Assumes nothing.
use mathlib.Core.Path.{◌≡◌, refl, sym, ap, ◌∙◌, subst}
use mathlib.Core.Logic.{◌⊎◌, inl, inr}
use mathlib.Core.Bool.{false}
use mathlib.Core.List.{List, [], ◌∷◌, ◌++◌}
use Prim.Native.Nat.{ℕ, suc, ◌+◌, ◌-◌, ◌≤◌}
use native.Mathlib.Decide.{ℕ_discrete, dec_le}
use native.Mathlib.Omega.{arith}
use lib.ListN.{length, length-append}
use lib.IntN.{pos, ◌+ℤ◌}
use lib.Signed.{◌<ℤ◌}
use Rattle.words.proofs.Ints.{ints, sumℤ, up_pos, down_pos}
use Rattle.folding.proofs.OnceLaws.{absent_left, once_turn, Below, few_but}
use Rattle.folding.specs.Walks.{Net, Walk, along, Absent, Once, AtLeast, Loop, settled}
use Rattle.folding.proofs.RoundLaws.{Closed, round_met, round_below, falls_at, walk_end}

-- ---- the lowest of a list

pub atleast_append : (a : ℕ) (l m : List ℕ) → AtLeast a l → AtLeast a m → AtLeast a (l ++ m)
atleast_append a [] m h k = k
atleast_append a (e ∷ l) m h k = (h.0, atleast_append a l m h.1 k)

atleast_down : (a b : ℕ) (l : List ℕ) → a ≤ b → AtLeast b l → AtLeast a l
atleast_down a b [] h k = tt
atleast_down a b (e ∷ l) h k = (let k0 = k.0 in omega arith, atleast_down a b l h k.1)

record Low (l : List ℕ) : Type 0 where
  front : List ℕ
  least : ℕ
  back : List ℕ
  whole : l ≡ front ++ (least ∷ back)
  in_front : AtLeast least front
  behind : AtLeast least back

low : (e : ℕ) (l : List ℕ) → Low (e ∷ l)
low e [] = record { front = []; least = e; back = []; whole = refl; in_front = tt; behind = tt }
low e (a ∷ l) =
    let r = low a l in
    elim (dec_le e r.least) [
      | yes h ↦ record {
        front = [];
        least = e;
        back = a ∷ l;
        whole = refl;
        in_front = tt;
        behind = subst (AtLeast e) (sym r.whole) (atleast_append e r.front (r.least ∷ r.back) (atleast_down e r.least r.front h r.in_front) (h, atleast_down e r.least r.back h r.behind));
      }
      | no h ↦ record { front = e ∷ r.front; least = r.least; back = r.back; whole = ap (λ (l : List ℕ). e ∷ l) r.whole; in_front = (omega arith, r.in_front); behind = r.behind }
    ]

-- ---- walks end to end

module _ (g : Net) where
  pub along_append : (l m : List ℕ) → along g (l ++ m) ≡ along g l +ℤ along g m
  along_append [] m = omega (ints, sumℤ (pos 0) (along g m), up_pos 0, down_pos 0)
  along_append (e ∷ l) m =
      let ih = along_append l m in
      omega (ints, sumℤ (g.bound e) (along g (l ++ m)), sumℤ (g.bound e) (along g l), sumℤ (along g l) (along g m), sumℤ (g.bound e +ℤ along g l) (along g m))

  pub walk_append : (l m : List ℕ) (u v w : ℕ) → Walk g l u v → Walk g m v w → Walk g (l ++ m) u w
  walk_append [] m u v w h k = subst (λ (z : ℕ). Walk g m z w) (sym h) k
  walk_append (e ∷ l) m u v w h k = (h.0, h.1, walk_append l m (g.to e) v w h.2 k)

  -- a walk that is no path has a loop in it: es = before, loop, after
  pub record Cut (es : List ℕ) (u v : ℕ) : Type 0 where
    pub before : List ℕ
    pub first : ℕ
    pub rest : List ℕ
    pub after : List ℕ
    pub whole : es ≡ before ++ ((first ∷ rest) ++ after)
    pub start : Walk g before u (g.from first)
    pub round_it : Walk g (first ∷ rest) (g.from first) (g.from first)
    pub end : Walk g after (g.from first) v
    pub once : Once g.from (first ∷ rest)

  -- where u is met in a path: es = front, back, with u at the seam and not before
  pub record Met (es : List ℕ) (u x v : ℕ) : Type 0 where
    pub front : List ℕ
    pub back : List ℕ
    pub whole : es ≡ front ++ back
    pub there : Walk g front x u
    pub onward : Walk g back u v
    pub new : Absent u g.from front
    pub once : Once g.from front

  meets? : (u x v : ℕ) (es : List ℕ) → Walk g es x v → Once g.from es → (Absent u g.from es × (¬ (u ≡ v))) ⊎ Met es u x v
  meets? u x v [] h o = elim (ℕ_discrete u v) [
    | yes q ↦ inr (record { front = []; back = []; whole = refl; there = h ∙ sym q; onward = q; new = tt; once = tt })
    | no q ↦ inl (tt, q)
  ]
  meets? u x v (e ∷ es) h o = elim (ℕ_discrete u (g.from e)) [
    | yes q ↦ inr (record { front = []; back = e ∷ es; whole = refl; there = sym h.1 ∙ sym q; onward = (h.0, sym q, h.2); new = tt; once = tt })
    | no q ↦ elim (meets? u (g.to e) v es h.2 o.1) [
      | inl a ↦ inl ((q, a.0), a.1)
      | inr c ↦ inr (record {
        front = e ∷ c.front;
        back = c.back;
        whole = ap (λ (l : List ℕ). e ∷ l) c.whole;
        there = (h.0, h.1, c.there);
        onward = c.onward;
        new = (q, c.new);
        once = (absent_left g.from (g.from e) c.front c.back (subst (Absent (g.from e) g.from) c.whole o.0), c.once);
      })
    ]
  ]

  -- a walk is a path, with its end on none of its nodes, or has a loop in it
  path? : (es : List ℕ) (u v : ℕ) → Walk g es u v → (Once g.from es × Absent v g.from es) ⊎ Cut es u v
  path? [] u v h = inl (tt, tt)
  path? (e ∷ es) u v h = elim (path? es (g.to e) v h.2) [
    | inl o ↦ elim (meets? (g.from e) (g.to e) v es h.2 o.0) [
      | inl a ↦ inl ((a.0, o.0), ((λ q. a.1 (sym q)), o.1))
      | inr c ↦ inr (record {
        before = [];
        first = e;
        rest = c.front;
        after = c.back;
        whole = ap (λ (l : List ℕ). e ∷ l) c.whole;
        start = sym h.1;
        round_it = (h.0, refl, c.there);
        end = c.onward;
        once = (c.new, c.once);
      })
    ]
    | inr c ↦ inr (record {
      before = e ∷ c.before;
      first = c.first;
      rest = c.rest;
      after = c.after;
      whole = ap (λ (l : List ℕ). e ∷ l) c.whole;
      start = (h.0, h.1, c.start);
      round_it = c.round_it;
      end = c.end;
      once = c.once;
    })
  ]

  pub walk_split : (l m : List ℕ) (u w : ℕ) → Walk g (l ++ m) u w → (v : ℕ) × Walk g l u v × Walk g m v w
  walk_split [] m u w h = (u, refl, h)
  walk_split (e ∷ l) m u w h = let r = walk_split l m (g.to e) w h.2 in (r.0, (h.0, h.1, r.1), r.2)

  -- a closed loop, turned to its lowest wire
  turned : (e : ℕ) (es : List ℕ) → Walk g (e ∷ es) (g.from e) (g.from e) → Once g.from (e ∷ es) → along g (e ∷ es) <ℤ pos 0 → (a : ℕ) × (l : List ℕ) × Loop g a l
  turned e es w o neg =
      let r = low e es in
      let a = r.least in
      let w' = subst (λ (l : List ℕ). Walk g l (g.from e) (g.from e)) r.whole w in
      let sp = walk_split r.front (a ∷ r.back) (g.from e) (g.from e) w' in
      let at : g.from a ≡ sp.0 = sp.2.1 in
      let around : Walk g ((a ∷ r.back) ++ r.front) sp.0 sp.0 = walk_append (a ∷ r.back) r.front sp.0 (g.from e) sp.0 sp.2 sp.1 in
      let tot : along g (e ∷ es) ≡ along g r.front +ℤ along g (a ∷ r.back) = ap (along g) r.whole ∙ along_append r.front (a ∷ r.back) in
      let tot' : along g ((a ∷ r.back) ++ r.front) ≡ along g (a ∷ r.back) +ℤ along g r.front = along_append (a ∷ r.back) r.front in (
        a,
        r.back ++ r.front,
        record {
          closed = subst (λ (z : ℕ). Walk g ((a ∷ r.back) ++ r.front) z z) (sym at) around;
          once = once_turn g.from r.front (a ∷ r.back) (subst (Once g.from) r.whole o);
          lowest = atleast_append a r.back r.front r.behind r.in_front;
          short = let t : along g ((a ∷ r.back) ++ r.front) <ℤ pos 0 = omega (ints, sumℤ (along g r.front) (along g (a ∷ r.back)), sumℤ (along g (a ∷ r.back)) (along g r.front)) in t;
        },
      )

  pub walk_below : (es : List ℕ) (u v : ℕ) → Closed g → Walk g es u v → Below g.from g.nodes es
  walk_below [] u v cl h = tt
  walk_below (e ∷ es) u v cl h = ((cl e h.0).0, walk_below es (g.to e) v cl h.2)

  -- where the totals still fall after nodes − 1 rounds there is a loop
  pub loop_found : Closed g → settled g (g.nodes - 1) ≡ false → (a : ℕ) × (l : List ℕ) × Loop g a l
  loop_found cl unsettled =
      let k = g.nodes - 1 in
      let f = falls_at g k unsettled in
      let u = f.0 in
      let hu = f.1 in
      let n : suc k ≡ g.nodes = omega arith in
      let w = round_met g cl (suc k) u hu in
      let es = w.0 in
      let v = w.1 in
      let fall = f.2 in
      let sum_es = w.4 in
      let long : suc k ≤ length es = elim (dec_le (length es) k) [
        | yes h ↦ let c = round_below g cl k u es v hu w.2 h in absurd (omega ints)
        | no h ↦ omega arith
      ] in
      elim (path? es u v w.2) [
        | inl o ↦ absurd (let c = few_but g.from g.nodes v es (walk_end g es u v cl w.2 hu) o.1 o.0 (walk_below es u v cl w.2) in omega arith)
        | inr c ↦
            let loop = c.first ∷ c.rest in
            let len : length es ≡ length c.before + (length loop + length c.after) = ap length c.whole ∙ length-append c.before (loop ++ c.after) ∙ ap (λ (z : ℕ). length c.before + z) (length-append loop c.after) in
            let short : length (c.before ++ c.after) ≤ k = rw length-append (omega (arith, w.3)) in
            let cut = round_below g cl k u (c.before ++ c.after) v hu (walk_append c.before c.after u (g.from c.first) v c.start c.end) short in
            let t1 : along g es ≡ along g c.before +ℤ along g (loop ++ c.after) = ap (along g) c.whole ∙ along_append c.before (loop ++ c.after) in
            let t2 = along_append loop c.after in
            let t3 = along_append c.before c.after in
            let neg : along g loop <ℤ pos 0 =
            omega (ints, sumℤ (along g c.before) (along g (loop ++ c.after)), sumℤ (along g loop) (along g c.after), sumℤ (along g c.before) (along g c.after), up_pos 0, down_pos 0) in
            turned c.first c.rest c.round_it c.once neg
      ]
