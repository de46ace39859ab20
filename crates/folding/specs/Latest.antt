-- The latest retiming and the chain, by walks and without rounds, as 01 words them. Assumes nothing.
use Rattle.std.specs.Prelude.{◌≡◌, ℕ, ◌-◌, ◌<◌, ◌≤◌, ℤ, pos, ◌+ℤ◌, ◌≤ℤ◌}
use Rattle.folding.specs.Walks.{Net, Least, LeastIn, Meets}

-- "let h(U) be the least total of bounds over all walks along wires starting at U, the empty walk counting 0. This is the largest
-- retiming with no value above 0. One constant is added to all values so that the smallest is 0."
pub record Latest (g : Net) (start : ℕ → ℕ) : Type 0 where
  pub h : ℕ → ℤ
  pub constant : ℤ
  pub least : (u : ℕ) → u < g.nodes → Least g u (h u)
  pub meets : Meets g h
  pub nonpos : (u : ℕ) → u < g.nodes → h u ≤ℤ pos 0
  pub topmost : (r : ℕ → ℤ) → Meets g r → ((v : ℕ) → v < g.nodes → r v ≤ℤ pos 0) → (u : ℕ) → u < g.nodes → r u ≤ℤ h u
  pub shifted : (u : ℕ) → u < g.nodes → pos (start u) ≡ h u +ℤ constant
  pub smallest : (u : ℕ) × (u < g.nodes) × (start u ≡ 0)

-- "walks of at most k wires already give every h"
abbrev pub Enough : Net → ℕ → Type 0
Enough g k = (u : ℕ) → u < g.nodes → (z : ℤ) → Least g u z → LeastIn g k u z

-- "the smallest k such that .. It is at most the number of nodes less one."
pub record IsChain (g : Net) (k : ℕ) : Type 0 where
  pub enough : Enough g k
  pub smallest : (j : ℕ) → Enough g j → k ≤ j
  pub few : k ≤ g.nodes - 1
