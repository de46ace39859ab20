-- Walks along bounded wires and the least totals over them; the same totals by rounds, and from them the latest retiming and
-- the chain: 01, "The folding rules". Assumes nothing.
use Rattle.std.specs.Prelude.{◌≡◌, Bool, cond, List, [], ◌∷◌, ℕ, zero, suc, ◌-◌, ◌<◌, ◌≤◌, eqb, length, get_or, ℤ, pos, neg_ℤ, ◌+ℤ◌, ◌-ℤ◌, nat_abs, ◌≤ℤ◌, ◌<ℤ◌}
use Rattle.std.specs.Int.Signed.{le_z}
use Rattle.words.specs.Loops.{tab, every}

-- numbered nodes and wires, each wire with its two ends and its bound
pub record Net : Type 0 where
  pub nodes : ℕ
  pub wires : ℕ
  pub from : ℕ → ℕ
  pub to : ℕ → ℕ
  pub bound : ℕ → ℤ

-- ---- walks

-- the wires es, in walking order, lead from node u to node v
abbrev pub Walk : Net → List ℕ → ℕ → ℕ → Type 0
Walk g [] u v = u ≡ v
Walk g (e ∷ es) u v = (e < g.wires) × (g.from e ≡ u) × Walk g es (g.to e) v

-- their bounds together; "the empty walk counting 0"
abbrev pub along : Net → List ℕ → ℤ
along g [] = pos 0
along g (e ∷ es) = g.bound e +ℤ along g es

-- "the least total of bounds over all walks along wires starting at U"
pub record Least (g : Net) (u : ℕ) (z : ℤ) : Type 0 where
  pub below : (es : List ℕ) (v : ℕ) → Walk g es u v → z ≤ℤ along g es
  pub met : (es : List ℕ) × (v : ℕ) × Walk g es u v × (along g es ≡ z)

-- the same over "walks of at most k wires"
pub record LeastIn (g : Net) (k u : ℕ) (z : ℤ) : Type 0 where
  pub below : (es : List ℕ) (v : ℕ) → Walk g es u v → length es ≤ k → z ≤ℤ along g es
  pub met : (es : List ℕ) × (v : ℕ) × Walk g es u v × (length es ≤ k) × (along g es ≡ z)

-- "r(U) − r(V) ≤ c on every wire"
abbrev pub Meets : Net → (ℕ → ℤ) → Type 0
Meets g r = (e : ℕ) → e < g.wires → (r (g.from e) -ℤ r (g.to e)) ≤ℤ g.bound e

-- ---- the loop that is shown

-- a is no f e of the list
abbrev pub Absent : ℕ → (ℕ → ℕ) → List ℕ → Type 0
Absent a f [] = Unit {0}
Absent a f (e ∷ es) = ¬ (a ≡ f e) × Absent a f es

-- no f e stands twice
abbrev pub Once : (ℕ → ℕ) → List ℕ → Type 0
Once f [] = Unit {0}
Once f (e ∷ es) = Absent (f e) f es × Once f es

abbrev pub AtLeast : ℕ → List ℕ → Type 0
AtLeast a [] = Unit {0}
AtLeast a (e ∷ es) = (a ≤ e) × AtLeast a es

-- "one closed loop, in walking order from its lowest wire number, each node met once, bounds totalling below 0": wire e, then es
pub record Loop (g : Net) (e : ℕ) (es : List ℕ) : Type 0 where
  pub closed : Walk g (e ∷ es) (g.from e) (g.from e)
  pub once : Once g.from (e ∷ es)
  pub lowest : AtLeast e es
  pub short : along g (e ∷ es) <ℤ pos 0

-- ---- by rounds. That they give the least totals over walks is proved (`round_least`, proofs/RoundLaws.antt)

unfoldable pub minℤ : ℤ → ℤ → ℤ
minℤ a b = cond (le_z a b) a b

-- the better of d u and, over those of the first m wires U→V that leave u, bound + d V
unfoldable pub better : Net → (ℕ → ℤ) → ℕ → ℕ → ℤ
better g d u zero = d u
better g d u (suc m) =
    cond (eqb (g.from m) u) (minℤ (better g d u m) (g.bound m +ℤ d (g.to m))) (better g d u m)

-- one round: all nodes' totals from the former round's alone
unfoldable pub next : Net → List ℤ → List ℤ
next g d = tab g.nodes (λ u. better g (λ v. get_or d v (pos 0)) u g.wires)

-- every node's total after k rounds
unfoldable pub row : Net → ℕ → List ℤ
row g zero = tab g.nodes (λ u. pos 0)
row g (suc k) = next g (row g k)

-- the second row of totals is nowhere below the first
abbrev pub stays : ℕ → List ℤ → List ℤ → Bool
stays n d d' = every n (λ u. le_z (get_or d u (pos 0)) (get_or d' u (pos 0)))

-- one round more changes nothing
unfoldable pub settled : Net → ℕ → Bool
settled g k = let d = row g k in stays g.nodes d (next g d)

-- the first of the rounds k, .., k + n after which nothing changes; k + n where none is found before
unfoldable pub settles : Net → ℕ → ℕ → ℕ
settles g zero k = k
settles g (suc n) k = cond (settled g k) k (settles g n (suc k))

-- "Chain: the smallest k such that walks of at most k wires already give every h"
unfoldable pub chain : Net → ℕ
chain g = settles g (g.nodes - 1) 0

-- some retiming meets every bound
unfoldable pub foldable : Net → Bool
foldable g = settled g (g.nodes - 1)

-- ---- the latest retiming

-- every node's h
abbrev pub latest : Net → List ℤ
latest g = row g (g.nodes - 1)

-- the least of the first n of a row, none of which is above 0
unfoldable pub deepest : List ℤ → ℕ → ℤ
deepest d zero = pos 0
deepest d (suc n) = minℤ (deepest d n) (get_or d n (pos 0))

-- "One constant is added to all values so that the smallest is 0"
abbrev pub shift : Net → List ℤ → ℤ
shift g h = neg_ℤ (deepest h g.nodes)

-- "The result is each node's start, counted in iterations."
unfoldable pub starts : Net → List ℕ
starts g = let h = latest g in let c = shift g h in tab g.nodes (λ u. nat_abs (get_or h u (pos 0) +ℤ c))

abbrev pub start : Net → ℕ → ℕ
start g u = get_or (starts g) u 0
