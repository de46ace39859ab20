-- Only passes between functions: the starts that totals of bounds say. Assumes nothing.
use Rattle.std.specs.Prelude.{◌≡◌, List, ℕ, ◌<◌, get_or, ℤ, pos, ◌-ℤ◌, Option, is_some, IfSome}
use Rattle.times.specs.Times.{iterations_at}
use Rattle.folding.specs.Walks.{Net, chain, foldable, deepest, start}
use Rattle.starts.specs.declared.Retimed.{Retimed}

-- "One constant is added to all values so that the smallest is 0": node u of the first n of the totals d, none of which is above 0
abbrev pub shifted : List ℤ → ℕ → ℕ → ℤ
shifted d n u = get_or d u (pos 0) -ℤ deepest d n

-- whether the net folds, and where it does the chain and every node's start
pub record Timed (g : Net) (r : Option Retimed) : Type 0 where
  pub settled : is_some r ≡ foldable g
  pub rounds : IfSome r (λ s. s.rounds ≡ chain g)
  pub starts : IfSome r (λ s. (u : ℕ) → u < g.nodes → iterations_at s.starts u ≡ pos (start g u))
