-- The tap's equation, and the cycles that a wire joins. Assumes nothing.
use mathlib.Core.Path.{◌≡◌, refl, ap}
use mathlib.Core.Logic.{inl, inr}
use mathlib.Core.Bool.{false}
use Prim.Native.Nat.{ℕ, ◌+◌, ◌*◌, ◌<◌}
use native.Mathlib.Nat.{mul-le-mul_left}
use native.Mathlib.Omega.{arith}
use lib.Dec.{ltb, eqb}
use lib.IntN.{ℤ, pos, ◌+ℤ◌, ◌-ℤ◌, ◌*ℤ◌}
use borrow.Author.Tests.{lt-ltb, le-ltb, ltb-true, ltb-false}
use Rattle.words.proofs.Ints.{up, down, sumℤ, timesℤ, difℤ, eq_up}
use Rattle.words.proofs.LoopLaws.{passed?}
use Rattle.records.specs.Units.{op_port, value}
use Rattle.demands.specs.Graph.{delayed}

-- the tap's equation over ℕ: N, w, the starts a of V and b of U, the slots v and u, the depth d of U, the tap
pub tapℕ : (n w a b v u d tap : ℕ) → pos tap ≡ pos n *ℤ (pos w +ℤ (pos a -ℤ pos b)) +ℤ (pos v -ℤ pos (d + u)) → tap + d + u + n * b ≡ n * w + n * a + v
unfolding up down
tapℕ n w a b v u d tap h =
    let x = pos a -ℤ pos b in
    let y = pos w +ℤ x in
    let q = pos v -ℤ pos (d + u) in
    let l : up y + b ≡ down y + (w + a) = omega (arith, difℤ (pos a) (pos b), sumℤ (pos w) x) in
    let nl : n * (up y + b) ≡ n * (down y + (w + a)) = ap (λ (k : ℕ). n * k) l in
    omega (arith, eq_up h, sumℤ (pos n *ℤ y) q, difℤ (pos v) (pos (d + u)), (timesℤ n y).0, (timesℤ n y).1)

-- ---- the cycles of a wire

-- the word that a tap brings in iteration a + j of V is U's of iteration j + b − w
module _ (n w a b v u d tap : ℕ) (eq : tap + d + u + n * b ≡ n * w + n * a + v) (u<n : u < n) where
  pub far : (j : ℕ) → j + b < w → n * (a + j) + v < d + tap
  far j h = omega (arith, mul-le-mul_left n h)

  pub near : (j k : ℕ) → w + k ≡ j + b → n * k + u + (d + tap) ≡ n * (a + j) + v
  near j k h = let e : n * (w + k) ≡ n * (j + b) = ap (λ (x : ℕ). n * x) h in omega arith

-- the word of iteration k of a node that starts at b is that of iteration j, w delays ago
pub delayed_shift : (val : ℕ → ℕ → ℕ) (x b w j k : ℕ) → w + k ≡ j + b → delayed val x b k ≡ delayed val x w j
delayed_shift val x b w j k h = elim (passed? (ltb j w)) [
  | inl t ↦ let l = ltb-true j w t in rw (t, lt-ltb k b (omega arith)) refl
  | inr f ↦ let l = ltb-false j w f in rw (f, le-ltb k b (omega arith)) (ap (val x) (omega arith))
]

-- a value that is no port's does not look at the sample
pub no_sample : (op : ℕ) (k : ℤ) (x y a b : ℕ) → eqb op op_port ≡ false → value op k x a b ≡ value op k y a b
unfolding value
no_sample op k x y a b h = rw h refl
