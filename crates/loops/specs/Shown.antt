-- Only passes between functions: the loop that is shown for an unfoldable net, and the steps that find it in a walk (the first node
-- met again). Assumes nothing.
use Rattle.std.specs.Prelude.{◌≡◌, List, ◌∷◌, ℕ, ◌<◌, ◌≤◌, length, get_or, take}
use Rattle.folding.specs.Walks.{Net, Loop}
use Rattle.loops.specs.declared.Span.{Span}
use Rattle.loops.specs.declared.Looped.{Looped}

-- ---- a walk, by the places of its wires

-- they are wires of the net
abbrev pub Held : Net → List ℕ → Type 0
Held g es = (p : ℕ) → p < length es → get_or es p 0 < g.wires

-- wire q of the walk meets no node that the walk has left with it or before
abbrev pub New : Net → List ℕ → ℕ → Type 0
New g es q = (p : ℕ) → p ≤ q → ¬ (g.from (get_or es p 0) ≡ g.to (get_or es q 0))

-- r is the first place, not after q, where the walk leaves the node that wire q meets
pub record FirstLeft (g : Net) (es : List ℕ) (q r : ℕ) : Type 0 where
  pub within : r ≤ q
  pub before : (p : ℕ) → p < r → ¬ (g.from (get_or es p 0) ≡ g.to (get_or es q 0))
  pub found : g.from (get_or es r 0) ≡ g.to (get_or es q 0)

-- the first wire that meets a node again stands at place `last`, and the walk left that node at place `first`
pub record FirstMet (g : Net) (es : List ℕ) (r : Span) : Type 0 where
  pub before : (q : ℕ) → q < r.last → New g es q
  pub within : r.last < length es
  pub order : r.first ≤ r.last
  pub found : g.from (get_or es r.first 0) ≡ g.to (get_or es r.last 0)

-- ---- shown

-- "`PW` and a wire number .. for each wire of one closed loop, in walking order from its lowest wire number, each node met once, bounds
-- totalling below 0. Which loop is free."
pub record Shown (g : Net) (r : Looped) : Type 0 where
  pub first : ℕ
  pub rest : List ℕ
  pub wires : take r.count r.wires ≡ first ∷ rest
  pub loop : Loop g first rest
  pub few : r.count ≤ g.nodes
