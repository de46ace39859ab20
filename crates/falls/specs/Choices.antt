-- Only passes between functions: a walk whose total still falls, from the wires that the rounds chose; choices kept, and followed
-- back. Assumes nothing.
use Rattle.std.specs.Prelude.{◌≡◌, ◌⊎◌, List, [], ◌∷◌, ℕ, zero, suc, ◌+◌, ◌*◌, ◌-◌, ◌<◌, length, get_or, ℤ, ◌+ℤ◌, ◌≤ℤ◌, ◌<ℤ◌}
use Rattle.times.specs.declared.Iterations.{Iterations}
use Rattle.times.specs.Times.{iterations_at}
use Rattle.records.specs.Records.{most_nodes}
use Rattle.folding.specs.Walks.{Net, Walk, along}
use Rattle.folding.specs.Round.{round}

-- ---- choices

-- wire c leaves u and comes to no more than t, from the totals d
pub record Reaches (g : Net) (d : ℕ → ℤ) (t : ℤ) (u c : ℕ) : Type 0 where
  pub wire : c < g.wires
  pub leaves : g.from c ≡ u
  pub comes : (g.bound c +ℤ d (g.to c)) ≤ℤ t

-- in round k + 1 from the totals d, so far l: the choices of the nodes that fell, and r the last of them
pub record Picking (g : Net) (d : ℕ → ℤ) (k : ℕ) (l : List Iterations) (choices : List ℕ) (r : ℕ) : Type 0 where
  pub lower : (u : ℕ) → iterations_at l u ≤ℤ d u
  pub picked : (u : ℕ) → iterations_at l u <ℤ d u → Reaches g d (iterations_at l u) u (get_or choices (most_nodes * k + u) 0)
  pub last : ((u : ℕ) → iterations_at l u ≡ d u) ⊎ ((r < g.nodes) × (iterations_at l r <ℤ d r))

-- node u's total falls with round k + 1
abbrev pub Falls : Net → ℕ → ℕ → Type 0
Falls g k u = round g (suc k) u <ℤ round g k u

-- node r's total falls with the last of as many rounds as there are nodes, and for every round k + 1 the choices from place 48 k on have
-- a wire for each node whose total falls with it
pub record Kept (g : Net) (choices : List ℕ) (r : ℕ) : Type 0 where
  pub node : r < g.nodes
  pub falls : Falls g (g.nodes - 1) r
  pub chosen : (k u : ℕ) → k < g.nodes → u < g.nodes → Falls g k u → Reaches g (round g k) (round g (suc k) u) u (get_or choices (most_nodes * k + u) 0)

-- ---- followed back

-- the chosen wires of rounds k, .., 1, from node u on
unfoldable pub back : Net → List ℕ → ℕ → ℕ → List ℕ
back g choices zero u = []
back g choices (suc k) u = let c = get_or choices (most_nodes * k + u) 0 in c ∷ back g choices k (g.to c)

-- each of them is a wire, and is read at a node's place
abbrev pub Backed : Net → List ℕ → ℕ → ℕ → Type 0
Backed g choices zero u = Unit {0}
Backed g choices (suc k) u =
    let c = get_or choices (most_nodes * k + u) 0 in
    (u < most_nodes) × (c < g.wires) × Backed g choices k (g.to c)

-- ---- a walk, by the places of its wires

-- a walk of as many wires as there are nodes, with a total below that of all shorter walks
pub record Falling (g : Net) (es : List ℕ) : Type 0 where
  pub start : ℕ
  pub end : ℕ
  pub in_net : start < g.nodes
  pub walk : Walk g es start end
  pub long : length es ≡ g.nodes
  pub falls : along g es <ℤ round g (g.nodes - 1) start
