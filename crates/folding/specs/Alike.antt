-- Only passes between functions: two nets that say the same. Assumes nothing.
use Rattle.std.specs.Prelude.{◌≡◌, ℕ, ◌<◌}
use Rattle.folding.specs.Walks.{Net}

-- as many nodes and wires, and each wire with the same ends and bound
pub record Alike (g g' : Net) : Type 0 where
  pub nodes : g.nodes ≡ g'.nodes
  pub wires : g.wires ≡ g'.wires
  pub from : (e : ℕ) → e < g.wires → g.from e ≡ g'.from e
  pub to : (e : ℕ) → e < g.wires → g.to e ≡ g'.to e
  pub bound : (e : ℕ) → e < g.wires → g.bound e ≡ g'.bound e
