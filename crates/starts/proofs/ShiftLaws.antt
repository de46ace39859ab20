-- The least total, and the starts above it: one node more, and what they are for the latest row. Assumes nothing.
use mathlib.Core.Path.{◌≡◌, refl, sym, ap, ◌∙◌, subst}
use mathlib.Core.Bool.{cond}
use mathlib.Core.List.{List}
use Prim.Native.Nat.{ℕ, ◌+◌, ◌-◌, ◌<◌, ◌≤◌}
use native.Mathlib.Numerals.{add-one}
use native.Mathlib.Omega.{arith}
use Rattle.std.specs.Prelude.{Some}
use lib.IntN.{ℤ, pos, ◌-ℤ◌}
use lib.Signed.{le_z}
use mir.Syntax.{w32}
use mir.Val.{SFits}
use Rattle.times.specs.declared.Iterations.{Iterations}
use Rattle.words.proofs.FitLaws.{fits, dif_size}
use Rattle.words.proofs.LoopLaws.{getD_tab}
use Rattle.times.specs.Times.{iterations_at}
use Rattle.folding.specs.Walks.{Net, minℤ, latest, deepest, start}
use Rattle.folding.specs.Round.{round}
use Rattle.folding.proofs.StartLaws.{start_is, deepest_met}
use Rattle.folding.proofs.RoundLaws.{Closed, round_nonpos}
use Rattle.folding.proofs.SettleLaws.{round_low}
use Rattle.records.specs.Records.{most_nodes}
use Rattle.rounds.specs.Rounds.{row_of, Moderate}
use Rattle.rounds.specs.Settling.{Settling}
use Rattle.starts.specs.Starts.{shifted, Timed}
use Rattle.rounds.specs.declared.Settled.{Settled}
use Rattle.rounds.proofs.RowLaws.{high_up}

pub least_more : (n u : ℕ) (l : List Iterations) (a x : Iterations) → u < n → a.0 ≡ deepest (row_of n l) u →
    x.0 ≡ cond (le_z a.0 (iterations_at l u)) a.0 (iterations_at l u) → x.0 ≡ deepest (row_of n l) (u + 1)
unfolding deepest minℤ
least_more n u l a x h p q = q ∙ rw (add-one u, p, getD_tab n (iterations_at l) u (pos 0) h) refl

pub shift_at : (n u : ℕ) (l : List Iterations) (a : Iterations) → u < n → a.0 ≡ deepest (row_of n l) n →
    iterations_at l u -ℤ a.0 ≡ shifted (row_of n l) n u
shift_at n u l a h q = rw (q, getD_tab n (iterations_at l) u (pos 0) h) refl

-- ---- the latest row

module _ (g : Net) (l : List Iterations) (is : row_of g.nodes l ≡ latest g) where
  shifted_start : (u : ℕ) → u < g.nodes → shifted (row_of g.nodes l) g.nodes u ≡ pos (start g u)
  shifted_start u h = ap (λ (d : List ℤ). shifted d g.nodes u) is ∙ sym (start_is g u h)

  shifted_fits : Closed g → Moderate g → g.nodes ≤ most_nodes → (u : ℕ) → u < g.nodes → SFits w32 (shifted (row_of g.nodes l) g.nodes u)
  shifted_fits cl moderate few u h =
      let n = g.nodes in
      let k = n - 1 in
      let low = deepest_met (latest g) n (λ v j. round_nonpos g k v j) (omega arith) in
      let v = low.0 in
      let s = dif_size (round g k u) (round g k v) in
      let a = high_up (round g k u) 0 (round_nonpos g k u h) in
      let b = high_up (round g k v) 0 (round_nonpos g k v low.1) in
      let c = round_low g cl moderate.low k u h in
      let d = round_low g cl moderate.low k v low.1 in
      subst (λ (z : List ℤ). SFits w32 (shifted z n u)) (sym is)
      (rw low.2 (fits (round g k u -ℤ round g k v) (omega (arith, s.0)) (omega (arith, s.1))))

-- ---- the answer, from that of the rounds

module _ (g : Net) (s : Settled) (answer : Settling g (Some s)) where
  pub starts_fit : Closed g → Moderate g → g.nodes ≤ most_nodes → (u : ℕ) → u < g.nodes → SFits w32 (shifted (row_of g.nodes s.totals) g.nodes u)
  starts_fit cl moderate few = shifted_fits g s.totals answer.totals cl moderate few

  pub some_timed : (l : List Iterations) → ((u : ℕ) → u < g.nodes → iterations_at l u ≡ shifted (row_of g.nodes s.totals) g.nodes u) →
      Timed g (Some (record { starts = l; rounds = s.rounds }))
  some_timed l are = record {
    settled = answer.settled;
    rounds = answer.rounds;
    starts = λ u k. are u k ∙ shifted_start g s.totals answer.totals u k;
  }
