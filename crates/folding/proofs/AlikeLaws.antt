-- Nets that say the same of every wire have the same rounds, chain, starts and loops. Assumes nothing.
use mathlib.Core.Path.{◌≡◌, refl, sym, ap, ◌∙◌, subst}
use mathlib.Core.List.{List, [], ◌∷◌}
use Prim.Native.Nat.{ℕ, zero, suc, ◌-◌, ◌<◌}
use native.Mathlib.Omega.{arith}
use lib.ListN.{get_or}
use lib.IntN.{ℤ, pos, neg_ℤ, ◌+ℤ◌, nat_abs}
use lib.Signed.{◌<ℤ◌}
use Rattle.words.specs.Loops.{tab}
use Rattle.folding.specs.Walks.{Net, Walk, along, Absent, Once, Loop, better, next, row, stays, settled, settles, chain, foldable, latest, deepest, starts}
use Rattle.folding.specs.Alike.{Alike}

pub tab_cong : {A : Type 0} (n : ℕ) (f f' : ℕ → A) → ((i : ℕ) → i < n → f i ≡ f' i) → tab n f ≡ tab n f'
unfolding tab
tab_cong zero f f' h = refl
tab_cong (suc n) f f' h =
    rw (h zero (omega arith), tab_cong n (λ i. f (suc i)) (λ i. f' (suc i)) (λ i l. h (suc i) (omega arith))) refl

-- a round over the first m wires looks at no more than where each begins and what it comes to
pub better_same : (g g' : Net) (d d' : ℕ → ℤ) (u m : ℕ) → d u ≡ d' u →
    ((e : ℕ) → e < m → (g.from e ≡ g'.from e) × (g.bound e +ℤ d (g.to e) ≡ g'.bound e +ℤ d' (g'.to e))) →
    better g d u m ≡ better g' d' u m
unfolding better
better_same g g' d d' u zero q h = q
better_same g g' d d' u (suc m) q h =
    let a = h m (omega arith) in
    rw (better_same g g' d d' u m q (λ e l. h e (omega arith)), a.0, a.1) refl

module _ (g g' : Net) (alike : Alike g g') where
  pub row_cong : (k : ℕ) → row g k ≡ row g' k
  unfolding row next
  row_cong zero = ap (λ (n : ℕ). tab n (λ u. pos 0)) alike.nodes
  row_cong (suc k) =
      let d : ℕ → ℤ = λ v. get_or (row g k) v (pos 0) in
      let same : (u : ℕ) → u < g.nodes → better g d u g.wires ≡ better g' d u g.wires =
      λ u l. better_same g g' d d u g.wires refl (λ e h. (alike.from e h, rw (alike.bound e h, alike.to e h) refl)) in
      tab_cong g.nodes (λ u. better g d u g.wires) (λ u. better g' d u g.wires) same
      ∙ ap (λ (n : ℕ). tab n (λ u. better g' d u g.wires)) alike.nodes
      ∙ ap (λ (m : ℕ). tab g'.nodes (λ u. better g' d u m)) alike.wires
      ∙ ap (next g') (row_cong k)

  pub settled_cong : (k : ℕ) → settled g k ≡ settled g' k
  unfolding settled row
  settled_cong k =
      ap (λ (n : ℕ). stays n (row g k) (row g (suc k))) alike.nodes
      ∙ ap (λ (d : List ℤ). stays g'.nodes d (row g (suc k))) (row_cong k)
      ∙ ap (stays g'.nodes (row g' k)) (row_cong (suc k))

  pub settles_cong : (n k : ℕ) → settles g n k ≡ settles g' n k
  unfolding settles
  settles_cong zero k = refl
  settles_cong (suc n) k = rw (settled_cong k, settles_cong n (suc k)) refl

  pub chain_cong : chain g ≡ chain g'
  unfolding chain
  chain_cong = settles_cong (g.nodes - 1) 0 ∙ ap (λ (n : ℕ). settles g' (n - 1) 0) alike.nodes

  pub foldable_cong : foldable g ≡ foldable g'
  unfolding foldable
  foldable_cong = settled_cong (g.nodes - 1) ∙ ap (λ (n : ℕ). settled g' (n - 1)) alike.nodes

  pub latest_cong : latest g ≡ latest g'
  latest_cong = row_cong (g.nodes - 1) ∙ ap (λ (n : ℕ). row g' (n - 1)) alike.nodes

  pub starts_cong : starts g ≡ starts g'
  unfolding starts
  starts_cong =
      ap (λ (h : List ℤ). tab g.nodes (λ u. nat_abs (get_or h u (pos 0) +ℤ neg_ℤ (deepest h g.nodes)))) latest_cong
      ∙ ap (λ (n : ℕ). tab n (λ u. nat_abs (get_or (latest g') u (pos 0) +ℤ neg_ℤ (deepest (latest g') n)))) alike.nodes

  -- ---- walks

  pub walk_cong : (es : List ℕ) (u v : ℕ) → Walk g es u v → Walk g' es u v
  walk_cong [] u v h = h
  walk_cong (e ∷ es) u v h =
      let r = walk_cong es (g.to e) v h.2 in
      (rw (← alike.wires) h.0, sym (alike.from e h.0) ∙ h.1, subst (λ (x : ℕ). Walk g' es x v) (alike.to e h.0) r)

  pub along_cong : (es : List ℕ) (u v : ℕ) → Walk g es u v → along g es ≡ along g' es
  along_cong [] u v h = refl
  along_cong (e ∷ es) u v h = rw (alike.bound e h.0, along_cong es (g.to e) v h.2) refl

  absent_cong : (a : ℕ) (es : List ℕ) (u v : ℕ) → Walk g es u v → Absent a g.from es → Absent a g'.from es
  absent_cong a [] u v h k = tt
  absent_cong a (e ∷ es) u v h k = (rw (← alike.from e h.0) k.0, absent_cong a es (g.to e) v h.2 k.1)

  once_cong : (es : List ℕ) (u v : ℕ) → Walk g es u v → Once g.from es → Once g'.from es
  once_cong [] u v h k = tt
  once_cong (e ∷ es) u v h k =
      (rw (← alike.from e h.0) (absent_cong (g.from e) es (g.to e) v h.2 k.0), once_cong es (g.to e) v h.2 k.1)

  pub loop_cong : (e : ℕ) (es : List ℕ) → Loop g e es → Loop g' e es
  loop_cong e es l =
      let w = l.closed in
      record {
        closed = subst (λ (x : ℕ). Walk g' (e ∷ es) x x) (alike.from e w.0) (walk_cong (e ∷ es) (g.from e) (g.from e) w);
        once = once_cong (e ∷ es) (g.from e) (g.from e) w l.once;
        lowest = l.lowest;
        short = subst (λ (z : ℤ). z <ℤ pos 0) (along_cong (e ∷ es) (g.from e) (g.from e) w) l.short;
      }
