-- `records::reading::first_refused` meets its contract: every read before the one that is refused got its record. Assumes nothing.
use Rattle.std.proofs.Common.{◌≡◌, ℕ, ◌+◌, ◌<◌, rules, arith, inl, inr, eq-or-lt_of_le, subst, sym}
use Rattle.records.proofs.reading.first_refused.Goals as goal

more : (P : ℕ → Type 0) (i : ℕ) → ((j : ℕ) → j < i → P j) → P i → (j : ℕ) → j < i + 1 → P j
more P i before here j l = elim (eq-or-lt_of_le l) [
  | inl e ↦ let e' : j ≡ i = omega arith in subst P (sym e') here
  | inr k ↦ before j (omega arith)
]

pub loop-i-preserved : goal.loop-i-preserved
loop-i-preserved g c = more _ c.loop-i.i c.loop-i.invariant (c.in-Ok.field-0, c.in-Ok.ensures)

pub returns : goal.returns
returns g c = record { passed = λ e i l. c.loop-i.invariant i (omega arith); refused = λ why e. search rules }
