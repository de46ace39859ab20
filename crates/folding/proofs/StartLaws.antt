-- Starts and chain are the paper's, by walks; where no round settles, a loop shows it. Assumes nothing.
use mathlib.Core.Path.{◌≡◌, ap, ◌∙◌, subst}
use mathlib.Core.Logic.{inl, inr}
use mathlib.Core.Bool.{Bool, true, false, cond}
use mathlib.Core.List.{List}
use Prim.Native.Nat.{ℕ, zero, suc, ◌+◌, ◌-◌, ◌<◌, ◌≤◌}
use native.Mathlib.Nat.{eq-or-lt_of_le}
use native.Mathlib.Decide.{dec_le}
use native.Mathlib.Omega.{arith}
use lib.ListN.{length, get_or}
use lib.IntN.{ℤ, pos, ◌+ℤ◌, ◌-ℤ◌, nat_abs}
use lib.Signed.{◌≤ℤ◌, pos-nat_abs, yes_non_neg}
use Rattle.words.proofs.Ints.{up, down, ints, sumℤ, difℤ, up_pos, down_pos, ≤ℤ_trans, eq_up}
use Rattle.words.proofs.LoopLaws.{passed?, getD_tab, length_tab}
use Rattle.folding.specs.Walks.{Net, LeastIn, Least, Meets, minℤ, settled, settles, chain, latest, deepest, shift, starts, start}
use Rattle.folding.specs.Round.{round}
use Rattle.folding.specs.Latest.{Latest, Enough, IsChain}
use Rattle.folding.proofs.RoundLaws.{Closed, min_left, min_right, min_cases, round_nonpos, round_least, settled_meets, settled_least, round_topmost, falls_at, round_below, round_met}

-- ---- the least of a row

deepest_le : (d : List ℤ) (n u : ℕ) → u < n → deepest d n ≤ℤ get_or d u (pos 0)
unfolding deepest
deepest_le d zero u h = absurd (omega arith)
deepest_le d (suc n) u h = elim (eq-or-lt_of_le h) [
  | inl e ↦ let e' : n ≡ u = omega arith in subst (λ (z : ℕ). minℤ (deepest d n) (get_or d n (pos 0)) ≤ℤ get_or d z (pos 0)) e' (min_right (deepest d n) (get_or d n (pos 0)))
  | inr k ↦ ≤ℤ_trans (min_left (deepest d n) (get_or d n (pos 0))) (deepest_le d n u (omega arith))
]

-- where none is above 0 one of them is the least
pub deepest_met : (d : List ℤ) (n : ℕ) → ((u : ℕ) → u < n → get_or d u (pos 0) ≤ℤ pos 0) → 0 < n → (u : ℕ) × (u < n) × (deepest d n ≡ get_or d u (pos 0))
unfolding deepest
deepest_met d zero np h = absurd (omega arith)
deepest_met d (suc zero) np h = elim (min_cases (pos 0) (get_or d 0 (pos 0))) [
  | inl q ↦
      let a = min_right (pos 0) (get_or d 0 (pos 0)) in
      let b = np 0 (omega arith) in
      (0, omega arith, (let c : minℤ (pos 0) (get_or d 0 (pos 0)) ≡ get_or d 0 (pos 0) = omega ints in c))
  | inr q ↦ (0, omega arith, q)
]
deepest_met d (suc (suc n)) np h = elim (min_cases (minℤ (deepest d n) (get_or d n (pos 0))) (get_or d (suc n) (pos 0))) [
  | inl q ↦ let r = deepest_met d (suc n) (λ u l. np u (omega arith)) (omega arith) in (r.0, omega (arith, r.1), q ∙ r.2)
  | inr q ↦ (suc n, omega arith, q)
]

nothing_left : (n : ℕ) (a b : ℤ) → pos n ≡ a -ℤ b → b ≡ a → n ≡ 0
unfolding up down
nothing_left n a b h e = omega (arith, eq_up h, eq_up e, difℤ a b)

module _ (g : Net) where
  -- a start is h and the constant
  pub start_is : (u : ℕ) → u < g.nodes → pos (start g u) ≡ round g (g.nodes - 1) u +ℤ shift g (latest g)
  unfolding starts
  start_is u h =
      let hs = latest g in
      let low = deepest hs g.nodes in
      let l = deepest_le hs g.nodes u h in
      let z = get_or hs u (pos 0) -ℤ low in
      let nn : pos 0 ≤ℤ z = omega (ints, difℤ (get_or hs u (pos 0)) low, up_pos 0, down_pos 0) in
      ap pos (getD_tab g.nodes (λ u. nat_abs (get_or hs u (pos 0) +ℤ shift g hs)) u 0 h) ∙ pos-nat_abs z (yes_non_neg {z = z} nn)

  pub length_starts : length (starts g) ≡ g.nodes
  unfolding starts
  length_starts = length_tab g.nodes (λ u. nat_abs (get_or (latest g) u (pos 0) +ℤ shift g (latest g)))

  -- ---- the chain

  settles_le : (n k : ℕ) → settles g n k ≤ n + k
  unfolding settles
  settles_le zero k = omega arith
  settles_le (suc n) k = let ih = settles_le n (suc k) in elim (passed? (settled g k)) [ inl t ↦ rw t (omega arith) | inr f ↦ rw f (omega arith) ]

  settles_ok : (n k : ℕ) → settled g (n + k) ≡ true → settled g (settles g n k) ≡ true
  unfolding settles
  settles_ok zero k h = let e : 0 + k ≡ k = omega arith in subst (λ (z : ℕ). settled g z ≡ true) e h
  settles_ok (suc n) k h = elim (passed? (settled g k)) [
    | inl t ↦ rw t t
    | inr f ↦ rw f (let e : suc n + k ≡ n + suc k = omega arith in settles_ok n (suc k) (subst (λ (z : ℕ). settled g z ≡ true) e h))
  ]

  settles_first : (n k j : ℕ) → k ≤ j → j < settles g n k → settled g j ≡ false
  unfolding settles
  settles_first zero k j h l = absurd (omega arith)
  settles_first (suc n) k j h l = elim (passed? (settled g k)) [
    | inl t ↦ absurd (let l' : j < k = subst (λ (z : Bool). j < cond z k (settles g n (suc k))) t l in omega arith)
    | inr f ↦ elim (eq-or-lt_of_le h) [
      | inl e ↦ rw (← e) f
      | inr k' ↦ settles_first n (suc k) j k' (subst (λ (z : Bool). j < cond z k (settles g n (suc k))) f l)
    ]
  ]

  least_unique : (u : ℕ) (z z' : ℤ) → Least g u z → Least g u z' → z ≡ z'
  least_unique u z z' a b =
      let m = a.met in
      let m' = b.met in
      let l = a.below m'.0 m'.1 m'.2 in
      let l' = b.below m.0 m.1 m.2 in
      let e = m.3 in
      let e' = m'.3 in
      omega ints

  module _ (cl : Closed g) (ok : settled g (g.nodes - 1) ≡ true) where
    settled_chain : settled g (chain g) ≡ true
    unfolding chain
    settled_chain = settles_ok (g.nodes - 1) 0 (let e : g.nodes - 1 + 0 ≡ g.nodes - 1 = omega arith in rw e ok)

    pub chain_right : IsChain g (chain g)
    unfolding chain
    chain_right = record {
      enough = λ u hu z lz.
          let e = least_unique u (round g (chain g) u) z (settled_least g cl (chain g) settled_chain u hu) lz in
          subst (LeastIn g (chain g) u) e (round_least g cl (chain g) u hu);
      smallest = λ j en. at_most j en;
      few = let a = settles_le (g.nodes - 1) 0 in omega arith;
    }
      where
        at_most : (j : ℕ) → Enough g j → settles g (g.nodes - 1) 0 ≤ j
        at_most j en = elim (dec_le (settles g (g.nodes - 1) 0) j) [
          | yes h ↦ h
          | no h ↦
              let f = falls_at g j (settles_first (g.nodes - 1) 0 j (omega arith) (omega arith)) in
              let u = f.0 in
              let hu = f.1 in
              let lz = settled_least g cl (g.nodes - 1) ok u hu in
              let m = (en u hu (round g (g.nodes - 1) u) lz).met in
              let a = round_below g cl j u m.0 m.1 hu m.2 m.3 in
              let w = round_met g cl (suc j) u hu in
              let b = lz.below w.0 w.1 w.2 in
              let c = f.2 in
              let d = m.4 in
              let e = w.4 in
              absurd (omega ints)
        ]

    pub latest_right : 0 < g.nodes → Latest g (start g)
    latest_right h =
        let hs = latest g in
        let low = deepest hs g.nodes in
        let k = g.nodes - 1 in
        let r = deepest_met hs g.nodes (λ u l. round_nonpos g k u l) h in
        record {
          h = round g k;
          constant = shift g hs;
          least = λ u hu. settled_least g cl k ok u hu;
          meets = settled_meets g cl k ok;
          nonpos = λ u hu. round_nonpos g k u hu;
          topmost = λ r mt np u hu. round_topmost g cl k r mt np u hu;
          shifted = λ u hu. start_is u hu;
          smallest = (r.0, r.1, nothing_left (start g r.0) (get_or hs r.0 (pos 0)) low (start_is r.0 r.1) r.2);
        }

    pub start_meets : Meets g (λ u. pos (start g u))
    start_meets e he =
        let hs = latest g in
        let c = shift g hs in
        let u = g.from e in
        let v = g.to e in
        let a = settled_meets g cl (g.nodes - 1) ok e he in
        let su = start_is u (cl e he).0 in
        let sv = start_is v (cl e he).1 in
        omega (
          ints,
          difℤ (round g (g.nodes - 1) u) (round g (g.nodes - 1) v),
          difℤ (pos (start g u)) (pos (start g v)),
          sumℤ (round g (g.nodes - 1) u) c,
          sumℤ (round g (g.nodes - 1) v) c,
        )
