-- Only passes between functions: what the functions on waits ask of a sheet's bytes and of starts. Assumes nothing.
use Rattle.std.specs.Prelude.{◌≡◌, true, cond, List, ℕ, ◌<◌, ◌≤◌, eqb, length, ℤ, pos, ◌≤ℤ◌}
use Rattle.times.specs.declared.Cycles.{Cycles}
use Rattle.times.specs.declared.Iterations.{Iterations}
use Rattle.words.specs.Loops.{largest}
use Rattle.times.specs.Times.{iterations_at, cycles_at}
use Rattle.records.specs.Records.{most_fold, most_units, most_nodes, most_wires}
use Rattle.sheets.specs.declared.Sheet as Head
use Rattle.sheets.specs.Sheet.{node_of, wire_of, sheet_of, sheet_fault}
use Rattle.sheets.specs.Answers.{Whole}
use Rattle.folding.specs.Walks.{start, foldable}
use Rattle.folding.specs.Folding.{net, tap}
use Rattle.waits.specs.declared.Waited.{Waited}

-- the bytes b have no fault, and s is their header
pub record Fine (b : List ℕ) (s : Head.Sheet) : Type 0 where
  pub whole : Whole b s
  pub fine : sheet_fault b ≡ 0

-- a header's numbers are in their ranges, as those of bytes without fault are
pub record Within (s : Head.Sheet) : Type 0 where
  pub fold_least : 0 < s.fold
  pub fold_most : s.fold ≤ most_fold
  pub few_units : s.units ≤ most_units
  pub few_nodes : s.nodes ≤ most_nodes
  pub few_wires : s.wires ≤ most_wires

-- the sheet folds, and these are its starts
pub record Started (b : List ℕ) (starts : List Iterations) : Type 0 where
  pub folds : foldable (net (sheet_of b)) ≡ true
  pub starts_so : (u : ℕ) → u < length (sheet_of b).nodes → iterations_at starts u ≡ pos (start (net (sheet_of b)) u)

-- these are its taps
abbrev pub Tapped : List ℕ → List Cycles → Type 0
Tapped b waits = (e : ℕ) → e < length (sheet_of b).wires → cycles_at waits e ≡ pos (tap (sheet_of b) (start (net (sheet_of b))) e)

-- l has at each k below `many` the largest tap of the wires that belong there, 0 where there is none
abbrev pub Longest : List ℕ → (ℕ → ℕ) → ℕ → List Cycles → Type 0
Longest b place many l =
    (k : ℕ) → k < many → cycles_at l k ≡ pos (largest (length (sheet_of b).wires) (λ e. cond (eqb (place e) k) (tap (sheet_of b) (start (net (sheet_of b))) e) 0))

-- the node that wire e leaves, and the unit that it runs on
abbrev pub from_node : List ℕ → ℕ → ℕ
from_node b e = (wire_of (sheet_of b) e).from

abbrev pub from_unit : List ℕ → ℕ → ℕ
from_unit b e = (node_of (sheet_of b) (wire_of (sheet_of b) e).from).unit

-- what the wires wait, by wire, by node and by unit
pub record Waiting (b : List ℕ) (r : Waited) : Type 0 where
  pub tapped : Tapped b r.waits
  pub longest : Longest b (from_node b) most_nodes r.longest
  pub lines : Longest b (from_unit b) most_units r.lines

-- a start's range, as far as a wait's size asks it
abbrev pub Near : ℤ → Type 0
Near z = (pos 0 ≤ℤ z) × (z ≤ℤ pos 752)
