-- Only passes between functions: what the rounds over a net answer. Assumes nothing.
use Rattle.std.specs.Prelude.{◌≡◌, Option, is_some, IfSome}
use Rattle.folding.specs.Walks.{Net, chain, foldable, latest}
use Rattle.rounds.specs.Rounds.{row_of}
use Rattle.rounds.specs.declared.Settled.{Settled}

-- "Relaxation rounds counted in the result and equal to the walk definition's k": whether the net folds, and where it does the chain
-- and every h
pub record Settling (g : Net) (r : Option Settled) : Type 0 where
  pub settled : is_some r ≡ foldable g
  pub rounds : IfSome r (λ s. s.rounds ≡ chain g)
  pub totals : IfSome r (λ s. row_of g.nodes s.totals ≡ latest g)
