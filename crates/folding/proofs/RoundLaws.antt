-- The rounds give the least totals over walks; where nothing changes any more they are the latest retiming. Assumes nothing.
use mathlib.Core.Path.{◌≡◌, refl, sym, ap, ◌∙◌, subst}
use mathlib.Core.Logic.{◌⊎◌, inl, inr}
use mathlib.Core.Bool.{true, false, cond}
use mathlib.Core.List.{List, [], ◌∷◌}
use Prim.Native.Nat.{ℕ, zero, suc, ◌+◌, ◌<◌, ◌≤◌}
use native.Mathlib.Nat.{eq-or-lt_of_le}
use native.Mathlib.Omega.{arith}
use lib.Dec.{eqb}
use lib.ListN.{length}
use lib.Seq.{ext_get_or}
use lib.IntN.{ℤ, pos, ◌+ℤ◌}
use lib.Signed.{le_z, ◌≤ℤ◌, ◌<ℤ◌, ≤ℤ_refl}
use borrow.Author.Tests.{eqb-true, eq-eqb}
use Rattle.words.proofs.Ints.{ints, sumℤ, difℤ, up_pos, down_pos, leZ_true, leZ_false, ≤ℤ_trans}
use Rattle.words.proofs.LoopLaws.{passed?, every_at, every_not, length_tab, getD_tab}
use Rattle.folding.specs.Walks.{Net, Walk, along, LeastIn, Least, Meets, minℤ, better, next, row, settled}
use Rattle.folding.specs.Round.{round}

-- ---- the smaller of two

pub min_left : (a b : ℤ) → minℤ a b ≤ℤ a
unfolding minℤ
min_left a b = elim (passed? (le_z a b)) [ inl t ↦ rw t (≤ℤ_refl a) | inr f ↦ rw f (let l = leZ_false a b f in omega ints) ]

pub min_right : (a b : ℤ) → minℤ a b ≤ℤ b
unfolding minℤ
min_right a b = elim (passed? (le_z a b)) [ inl t ↦ rw t (leZ_true a b t) | inr f ↦ rw f (≤ℤ_refl b) ]

pub min_cases : (a b : ℤ) → (minℤ a b ≡ a) ⊎ (minℤ a b ≡ b)
unfolding minℤ
min_cases a b = elim (passed? (le_z a b)) [ inl t ↦ inl (rw t refl) | inr f ↦ inr (rw f refl) ]

-- the ends of every wire are nodes
abbrev pub Closed : Net → Type 0
Closed g = (e : ℕ) → e < g.wires → (g.from e < g.nodes) × (g.to e < g.nodes)

module _ (g : Net) where
  -- ---- one round

  better_le : (d : ℕ → ℤ) (u m : ℕ) → better g d u m ≤ℤ d u
  unfolding better
  better_le d u zero = ≤ℤ_refl (d u)
  better_le d u (suc m) =
      let ih = better_le d u m in
      elim (passed? (eqb (g.from m) u)) [
        | inl t ↦ rw t (≤ℤ_trans (min_left (better g d u m) (g.bound m +ℤ d (g.to m))) ih)
        | inr f ↦ rw f ih
      ]

  better_wire : (d : ℕ → ℤ) (e m : ℕ) → e < m → better g d (g.from e) m ≤ℤ (g.bound e +ℤ d (g.to e))
  unfolding better
  better_wire d e zero h = absurd (omega arith)
  better_wire d e (suc m) h = elim (eq-or-lt_of_le h) [
    | inl q ↦
        let q' : m ≡ e = omega arith in
        subst (λ (z : ℕ). cond (eqb (g.from m) (g.from z)) (minℤ (better g d (g.from z) m) (g.bound m +ℤ d (g.to m))) (better g d (g.from z) m) ≤ℤ (g.bound z +ℤ d (g.to z))) q'
        (rw (eq-eqb (g.from m) (g.from m) refl) (min_right (better g d (g.from m) m) (g.bound m +ℤ d (g.to m))))
    | inr k ↦
        let ih = better_wire d e m (omega arith) in
        elim (passed? (eqb (g.from m) (g.from e))) [
          | inl t ↦ rw t (≤ℤ_trans (min_left (better g d (g.from e) m) (g.bound m +ℤ d (g.to m))) ih)
          | inr f ↦ rw f ih
        ]
  ]

  -- what a round comes to: nothing new, or a wire
  abbrev Came : (ℕ → ℤ) → ℕ → ℕ → ℤ → Type 0
  Came d u m z = (z ≡ d u) ⊎ ((e : ℕ) × (e < m) × (g.from e ≡ u) × (z ≡ g.bound e +ℤ d (g.to e)))

  came_more : (d : ℕ → ℤ) (u m : ℕ) (z : ℤ) → Came d u m z → Came d u (suc m) z
  came_more d u m z (inl h) = inl h
  came_more d u m z (inr c) = inr (c.0, omega (arith, c.1), c.2, c.3)

  better_came : (d : ℕ → ℤ) (u m : ℕ) → Came d u m (better g d u m)
  unfolding better
  better_came d u zero = inl refl
  better_came d u (suc m) =
      let ih = came_more d u m (better g d u m) (better_came d u m) in
      elim (passed? (eqb (g.from m) u)) [
        | inl t ↦ rw t (elim (min_cases (better g d u m) (g.bound m +ℤ d (g.to m))) [ inl q ↦ rw q ih | inr q ↦ inr (m, omega arith, eqb-true (g.from m) u t, q) ])
        | inr f ↦ rw f ih
      ]

  -- ---- rounds and walks

  pub length_row : (k : ℕ) → length (row g k) ≡ g.nodes
  unfolding row next
  length_row zero = length_tab g.nodes (λ u. pos 0)
  length_row (suc k) = length_tab g.nodes (λ u. better g (round g k) u g.wires)

  pub round_zero : (u : ℕ) → u < g.nodes → round g 0 u ≡ pos 0
  unfolding row
  round_zero u h = getD_tab g.nodes (λ u. pos 0) u (pos 0) h

  pub round_next : (k u : ℕ) → u < g.nodes → round g (suc k) u ≡ better g (round g k) u g.wires
  unfolding row next
  round_next k u h = getD_tab g.nodes (λ u. better g (round g k) u g.wires) u (pos 0) h

  pub round_falls : (k u : ℕ) → u < g.nodes → round g (suc k) u ≤ℤ round g k u
  round_falls k u h = rw (round_next k u h) (better_le (round g k) u g.wires)

  pub round_nonpos : (k u : ℕ) → u < g.nodes → round g k u ≤ℤ pos 0
  round_nonpos zero u h = rw (round_zero u h) (≤ℤ_refl (pos 0))
  round_nonpos (suc k) u h = ≤ℤ_trans (round_falls k u h) (round_nonpos k u h)

  pub walk_end : (es : List ℕ) (u v : ℕ) → Closed g → Walk g es u v → u < g.nodes → v < g.nodes
  walk_end [] u v cl h hu = subst (λ (z : ℕ). z < g.nodes) h hu
  walk_end (e ∷ es) u v cl h hu = walk_end es (g.to e) v cl h.2 (cl e h.0).1

  module _ (cl : Closed g) where
    pub round_wire : (k e : ℕ) → e < g.wires → round g (suc k) (g.from e) ≤ℤ (g.bound e +ℤ round g k (g.to e))
    round_wire k e h = rw (round_next k (g.from e) (cl e h).0) (better_wire (round g k) e g.wires h)

    pub round_below : (k u : ℕ) (es : List ℕ) (v : ℕ) → u < g.nodes → Walk g es u v → length es ≤ k → round g k u ≤ℤ along g es
    round_below k u [] v hu h l = round_nonpos k u hu
    round_below zero u (e ∷ es) v hu h l = absurd (omega arith)
    round_below (suc k) u (e ∷ es) v hu h l =
        let ih = round_below k (g.to e) es v (cl e h.0).1 h.2 (omega arith) in
        let a : round g (suc k) u ≤ℤ (g.bound e +ℤ round g k (g.to e)) = rw (← h.1) (round_wire k e h.0) in
        omega (ints, sumℤ (g.bound e) (round g k (g.to e)), sumℤ (g.bound e) (along g es))

    pub round_met : (k u : ℕ) → u < g.nodes → (es : List ℕ) × (v : ℕ) × Walk g es u v × (length es ≤ k) × (along g es ≡ round g k u)
    round_met zero u hu = ([], u, refl, omega arith, sym (round_zero u hu))
    round_met (suc k) u hu = elim (better_came (round g k) u g.wires) [
      | inl q ↦ let w = round_met k u hu in (w.0, w.1, w.2, omega (arith, w.3), w.4 ∙ sym q ∙ sym (round_next k u hu))
      | inr c ↦
          let w = round_met k (g.to c.0) (cl c.0 c.1).1 in
          (c.0 ∷ w.0, w.1, (c.1, c.2, w.2), omega (arith, w.3), ap (λ (z : ℤ). g.bound c.0 +ℤ z) w.4 ∙ sym c.3 ∙ sym (round_next k u hu))
    ]

    -- after k rounds a node has the least total over walks of at most k wires
    pub round_least : (k u : ℕ) → u < g.nodes → LeastIn g k u (round g k u)
    round_least k u hu = record { below = λ es v h l. round_below k u es v hu h l; met = round_met k u hu }

  -- ---- where nothing changes any more

  pub settled_at : (k u : ℕ) → settled g k ≡ true → u < g.nodes → round g (suc k) u ≡ round g k u
  unfolding settled row
  settled_at k u h l =
      let a = leZ_true (round g k u) (round g (suc k) u) (every_at g.nodes (λ u. le_z (round g k u) (round g (suc k) u)) h u l) in
      let b = round_falls k u l in
      omega ints

  -- where it is not settled, some node's total falls
  pub falls_at : (k : ℕ) → settled g k ≡ false → (u : ℕ) × (u < g.nodes) × (round g (suc k) u <ℤ round g k u)
  unfolding settled row
  falls_at k h =
      let r = every_not g.nodes (λ u. le_z (round g k u) (round g (suc k) u)) h in
      (r.0, r.1, leZ_false (round g k r.0) (round g (suc k) r.0) r.2)

  same_row : (k : ℕ) → settled g k ≡ true → row g (suc k) ≡ row g k
  same_row k h =
      ext_get_or (pos 0) (row g (suc k)) (row g k) (length_row (suc k) ∙ sym (length_row k))
      (λ u l. settled_at k u h (omega (arith, length_row (suc k))))

  pub settled_on : (k : ℕ) → settled g k ≡ true → (j : ℕ) → row g (j + k) ≡ row g k
  unfolding row
  settled_on k h zero = ap (row g) (let e : 0 + k ≡ k = omega arith in e)
  settled_on k h (suc j) = ap (row g) (let e : suc j + k ≡ suc (j + k) = omega arith in e) ∙ ap (next g) (settled_on k h j) ∙ same_row k h

  -- ---- retimings

  -- a retiming that meets the bounds falls along a walk by no more than its total
  pub meets_walk : (r : ℕ → ℤ) → Meets g r → (es : List ℕ) (u v : ℕ) → Walk g es u v → r u ≤ℤ (along g es +ℤ r v)
  meets_walk r mt [] u v h = let e : r u ≡ r v = ap r h in omega (ints, sumℤ (pos 0) (r v), up_pos 0, down_pos 0)
  meets_walk r mt (e ∷ es) u v h =
      let ih = meets_walk r mt es (g.to e) v h.2 in
      let a = mt e h.0 in
      let b : r (g.from e) ≡ r u = ap r h.1 in
      omega (ints, difℤ (r (g.from e)) (r (g.to e)), sumℤ (along g es) (r v), sumℤ (g.bound e) (along g es), sumℤ (g.bound e +ℤ along g es) (r v))

  -- so a closed walk with a total below 0 leaves none
  pub loop_refutes : (r : ℕ → ℤ) (es : List ℕ) (u : ℕ) → Walk g es u u → along g es <ℤ pos 0 → Meets g r → ⊥
  loop_refutes r es u w h mt =
      let a = meets_walk r mt es u u w in
      omega (ints, sumℤ (along g es) (r u), up_pos 0, down_pos 0)

  -- the settled totals are a retiming, the largest that is nowhere above 0, and the least totals over all walks
  module _ (cl : Closed g) where
    pub settled_meets : (k : ℕ) → settled g k ≡ true → Meets g (round g k)
    settled_meets k h e he =
        let a = round_wire cl k e he in
        let b = settled_at k (g.from e) h (cl e he).0 in
        omega (ints, sumℤ (g.bound e) (round g k (g.to e)), difℤ (round g k (g.from e)) (round g k (g.to e)))

    pub round_topmost : (k : ℕ) (r : ℕ → ℤ) → Meets g r → ((v : ℕ) → v < g.nodes → r v ≤ℤ pos 0) → (u : ℕ) → u < g.nodes → r u ≤ℤ round g k u
    round_topmost k r mt np u hu =
        let w = round_met cl k u hu in
        let a = meets_walk r mt w.0 u w.1 w.2 in
        let b = np w.1 (walk_end w.0 u w.1 cl w.2 hu) in
        let c = w.4 in
        omega (ints, sumℤ (along g w.0) (r w.1), up_pos 0, down_pos 0)

    pub settled_least : (k : ℕ) → settled g k ≡ true → (u : ℕ) → u < g.nodes → Least g u (round g k u)
    settled_least k h u hu =
        let w = round_met cl k u hu in
        record {
          below = λ es v ws.
              let a = meets_walk (round g k) (settled_meets k h) es u v ws in
              let b = round_nonpos k v (walk_end es u v cl ws hu) in
              omega (ints, sumℤ (along g es) (round g k v), up_pos 0, down_pos 0);
          met = (w.0, w.1, w.2, w.4);
        }
