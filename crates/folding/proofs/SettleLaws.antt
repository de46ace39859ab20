-- Where the rounds settle: what is settled stays so, the chain is the first settled round, a settled net meets its bounds and no other
-- does, and no total is far below 0. Assumes nothing.
use mathlib.Core.Path.{◌≡◌, refl, sym, ap, ◌∙◌, subst, ap₂}
use mathlib.Core.Logic.{inl, inr}
use mathlib.Core.Bool.{true, false}
use mathlib.Core.List.{List, [], ◌∷◌}
use Prim.Native.Nat.{ℕ, zero, suc, ◌+◌, ◌*◌, ◌-◌, ◌<◌, ◌≤◌}
use native.Mathlib.Omega.{arith}
use lib.ListN.{length}
use lib.IntN.{ℤ, negsuc}
use lib.Signed.{◌≤ℤ◌}
use Rattle.words.proofs.Ints.{up, down, ints, sumℤ, le_up}
use Rattle.words.proofs.LoopLaws.{passed?}
use Rattle.folding.specs.Walks.{Net, Walk, along, Meets, next, row, stays, settled, settles, chain}
use Rattle.folding.specs.Round.{round}
use Rattle.folding.proofs.RoundLaws.{Closed, settled_on, falls_at, round_met, round_nonpos, round_topmost}

module _ (g : Net) where
  pub settled_row : (k j : ℕ) → settled g k ≡ true → k ≤ j → row g k ≡ row g j
  settled_row k j h l = sym (settled_on g k h (j - k)) ∙ ap (row g) (let e : j - k + k ≡ j = omega arith in e)

  pub settled_later : (k j : ℕ) → settled g k ≡ true → k ≤ j → settled g j ≡ true
  unfolding settled
  settled_later k j h l = sym (ap (λ (d : List ℤ). stays g.nodes d (next g d)) (settled_row k j h l)) ∙ h

  settles_here : (n k : ℕ) → settled g k ≡ true → settles g n k ≡ k
  unfolding settles
  settles_here zero k h = refl
  settles_here (suc n) k h = rw h refl

  settles_past : (n m k : ℕ) → ((j : ℕ) → j < m + k → settled g j ≡ false) → settles g (m + n) k ≡ settles g n (m + k)
  unfolding settles
  settles_past n zero k h = ap₂ (settles g) (let e : 0 + n ≡ n = omega arith in e) (let e : k ≡ 0 + k = omega arith in e)
  settles_past n (suc m) k h =
      ap (λ (i : ℕ). settles g i k) (let e : suc m + n ≡ suc (m + n) = omega arith in e)
      ∙ rw (h k (omega arith)) (settles_past n m (suc k) (λ j l. h j (omega arith)) ∙ ap (settles g n) (let e : m + suc k ≡ suc m + k = omega arith in e))

  -- the chain is the first round that is settled
  pub chain_first : (k : ℕ) → k < g.nodes → ((j : ℕ) → j < k → settled g j ≡ false) → settled g k ≡ true → chain g ≡ k
  unfolding chain
  chain_first k h before here =
      let left = g.nodes - 1 - k in
      ap (λ (n : ℕ). settles g n 0) (let e : g.nodes - 1 ≡ k + left = omega arith in e)
      ∙ settles_past left k 0 (λ j l. before j (omega arith))
      ∙ ap (settles g left) (let e : k + 0 ≡ k = omega arith in e)
      ∙ settles_here left k here

  module _ (cl : Closed g) where
    pub meets_settled : (k : ℕ) → Meets g (round g k) → settled g k ≡ true
    meets_settled k mt = elim (passed? (settled g k)) [
      | inl t ↦ t
      | inr f ↦
          let a = falls_at g k f in
          let b = round_topmost g cl (suc k) (round g k) mt (λ v h. round_nonpos g k v h) a.0 a.1 in
          let c = a.2 in
          absurd (omega ints)
    ]

    -- a round takes off 16 at most
    module _ (low : (e : ℕ) → e < g.wires → negsuc 15 ≤ℤ g.bound e) where
      along_low : (es : List ℕ) (u v : ℕ) → Walk g es u v → down (along g es) ≤ 16 * length es + up (along g es)
      unfolding up down
      along_low [] u v h = omega arith
      along_low (e ∷ es) u v h =
          let ih = along_low es (g.to e) v h.2 in
          omega (arith, le_up (low e h.0), sumℤ (g.bound e) (along g es))

      pub round_low : (k u : ℕ) → u < g.nodes → down (round g k u) ≤ 16 * k + up (round g k u)
      round_low k u hu =
          let w = round_met g cl k u hu in
          subst (λ (z : ℤ). down z ≤ 16 * k + up z) w.4 (let a = along_low w.0 u w.1 w.2 in omega (arith, w.3))
