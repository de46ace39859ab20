-- One wire more in a round: its first end's total is the better one, and whether some total fell. Assumes nothing.
use mathlib.Core.Path.{◌≡◌, refl, sym, ap, ◌∙◌}
use mathlib.Core.Logic.{inl, inr}
use mathlib.Core.Bool.{Bool, true, false, true≢false}
use mathlib.Core.List.{List}
use Prim.Native.Nat.{ℕ, ◌+◌, ◌<◌}
use native.Mathlib.Decide.{ℕ_discrete}
use native.Mathlib.Numerals.{add-one}
use Rattle.std.specs.Prelude.{Option, Some, None, is_some}
use lib.ListN.{length, set, length-set}
use lib.Seq.{get_or-set_same, get_or-set_other}
use lib.IntN.{ℤ, pos, ◌+ℤ◌}
use lib.Signed.{lt_z, le_z, ◌≤ℤ◌, ◌<ℤ◌}
use borrow.Author.Tests.{eq-eqb, ne_eqb}
use Rattle.times.specs.declared.Iterations.{Iterations}
use Rattle.words.proofs.Ints.{ints, leZ_true, ltZ_false, le_leZ}
use Rattle.words.proofs.LoopLaws.{passed?}
use Rattle.times.specs.Times.{iterations_at}
use Rattle.folding.specs.Walks.{Net, minℤ, better}
use Rattle.rounds.specs.Rounds.{Relaxed, Reached, Fell}

min_below : (t y : ℤ) → y <ℤ t → minℤ t y ≡ y
unfolding minℤ
min_below t y h = elim (passed? (le_z t y)) [
  | inl l ↦ absurd (let a = leZ_true t y l in omega ints)
  | inr f ↦ rw f refl
]

min_past : (t y : ℤ) → t ≤ℤ y → minℤ t y ≡ t
unfolding minℤ
min_past t y h = rw (le_leZ t y h) refl

pub number_set_same : (l : List Iterations) (w : ℕ) (y : Iterations) → w < length l → iterations_at (set l w y) w ≡ y.0
number_set_same l w y h = ap (λ (i : Iterations). i.0) (get_or-set_same l w y (record { 0 = pos 0 }) h)

pub number_set_other : (l : List Iterations) (w u : ℕ) (y : Iterations) → ¬ (u ≡ w) → iterations_at (set l w y) u ≡ iterations_at l u
number_set_other l w u y h = ap (λ (i : Iterations). i.0) (get_or-set_other l w u y (record { 0 = pos 0 }) h)

-- wire e, from w to v, comes to y, not below the total so far
module _ (g : Net) (d : ℕ → ℤ) (e w v : ℕ) (y : Iterations) (leaves : w ≡ g.from e) (meets : v ≡ g.to e) (sum : y.0 ≡ g.bound e +ℤ d v)
    (l : List Iterations) (reached : Reached g d l e) where
  pub reached_past : lt_z y.0 (iterations_at l w) ≡ false → Reached g d l (e + 1)
  unfolding better
  reached_past t u = rw (add-one e) (elim (ℕ_discrete u w) [
    | yes s ↦
        ap (iterations_at l) s
        ∙ sym (min_past (iterations_at l w) y.0 (ltZ_false y.0 (iterations_at l w) t))
        ∙ rw (sum, meets, eq-eqb (g.from e) u (sym leaves ∙ sym s), ← (reached u), s) refl
    | no s ↦ rw (ne_eqb (g.from e) u (λ z. s (sym z ∙ sym leaves))) (reached u)
  ])

-- wire e of a round from d, from the totals l to l'
module _ (g : Net) (d : ℕ → ℤ) (e : ℕ) (l l' : List Iterations) where
  long : (w : ℕ) (y : Iterations) → w ≡ g.from e → l' ≡ set l w y → g.from e < length l' → w < length l
  long w y leaves is h = rw (is, length-set, ← leaves) at h

  pub reached_more : (r : Option ℕ) → g.from e < length l' → Relaxed g d e l l' r → Reached g d l e → Reached g d l' (e + 1)
  unfolding better
  reached_more (Some w) h (leaves, less, y, sum, is) reached u = rw (is, add-one e) (elim (ℕ_discrete u w) [
    | yes s ↦
        rw s (number_set_same l w y (long w y leaves is h))
        ∙ sum
        ∙ sym (min_below (iterations_at l w) (g.bound e +ℤ d (g.to e)) less)
        ∙ rw (eq-eqb (g.from e) u (sym leaves ∙ sym s), ← (reached u), s) refl
    | no s ↦
        number_set_other l w u y s
        ∙ rw (ne_eqb (g.from e) u (λ z. s (sym z ∙ sym leaves))) (reached u)
  ])
  reached_more None h (is, past) reached u = rw (is, add-one e) (elim (ℕ_discrete u (g.from e)) [
    | yes s ↦
        ap (iterations_at l) s
        ∙ sym (min_past (iterations_at l (g.from e)) (g.bound e +ℤ d (g.to e)) past)
        ∙ rw (eq-eqb (g.from e) u (sym s), ← (reached u), s) refl
    | no s ↦ rw (ne_eqb (g.from e) u (λ z. s (sym z))) (reached u)
  ])

  -- where no end is answered nothing was put down
  pub none_fell : (r : Option ℕ) → is_some r ≡ false → Relaxed g d e l l' r → l' ≡ l
  none_fell (Some w) z more = absurd (true≢false z)
  none_fell None z more = more.0

  pub some_fell : (n : ℕ) (r : Option ℕ) → is_some r ≡ true → g.from e < n → g.from e < length l' → Relaxed g d e l l' r → (was : Bool) → Fell n d l was → Fell n d l' true
  some_fell n None z hw h more was fell = absurd (true≢false (sym z))
  some_fell n (Some w) z hw h (leaves, less, y, sum, is) true (u, hu, f) = rw is (elim (ℕ_discrete u w) [
    | yes s ↦ (w, rw leaves hw, let b = number_set_same l w y (long w y leaves is h) in let c : iterations_at l w <ℤ d w = rw s at f in omega ints)
    | no s ↦ (u, hu, rw (number_set_other l w u y s) f)
  ])
  some_fell n (Some w) z hw h (leaves, less, y, sum, is) false same =
      rw is (w, rw leaves hw, let b = number_set_same l w y (long w y leaves is h) in let c = same w in omega ints)
