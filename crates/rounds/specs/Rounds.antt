-- Only passes between functions: the net that a sheet's wire records and their bounds say, read where they stand, and what the rounds
-- over it are asked and answer. Assumes nothing.
use Rattle.std.specs.Prelude.{◌≡◌, Bool, true, false, List, ℕ, ◌+◌, ◌*◌, ◌<◌, ◌≤◌, length, set, ℤ, pos, negsuc, ◌+ℤ◌, ◌≤ℤ◌, ◌<ℤ◌, Option, Some, None}
use Rattle.std.specs.Int.{w32}
use Rattle.std.proofs.Common.{SFits}
use Rattle.times.specs.declared.Iterations.{Iterations}
use Rattle.words.specs.Loops.{tab}
use Rattle.times.specs.Times.{iterations_at}
use Rattle.records.specs.Records.{most_nodes, most_wires}
use Rattle.sheets.specs.Sheet.{sheet_format, wire_at, most_delays}
use Rattle.folding.specs.Walks.{Net, better}

-- the ends of wire e, whose record is read where it stands
abbrev pub from_at : List ℕ → ℕ → ℕ → ℕ
from_at b at e = (wire_at b (at + sheet_format.wire_length * e)).from

abbrev pub to_at : List ℕ → ℕ → ℕ → ℕ
to_at b at e = (wire_at b (at + sheet_format.wire_length * e)).to

-- the totals of the first n nodes
abbrev pub row_of : ℕ → List Iterations → List ℤ
row_of n l = tab n (iterations_at l)

-- the wires whose records stand in b from byte `at` on, each with its bound
abbrev pub bytes_net : List ℕ → ℕ → ℕ → ℕ → List Iterations → Net
bytes_net b at nodes wires bounds = record {
  nodes = nodes;
  wires = wires;
  from = from_at b at;
  to = to_at b at;
  bound = iterations_at bounds;
}

-- the records stand in b, and their ends are nodes
pub record Wired (b : List ℕ) (at nodes wires : ℕ) : Type 0 where
  pub some_node : 0 < nodes
  pub few_nodes : nodes ≤ most_nodes
  pub few_wires : wires ≤ most_wires
  pub inside : at + sheet_format.wire_length * wires ≤ length b
  pub leaves : (e : ℕ) → e < wires → (wire_at b (at + sheet_format.wire_length * e)).from < nodes
  pub meets : (e : ℕ) → e < wires → (wire_at b (at + sheet_format.wire_length * e)).to < nodes

-- no bound is below −16 or above 63: "depth 1 to 16, delays 0 to 63"
pub record Moderate (g : Net) : Type 0 where
  pub low : (e : ℕ) → e < g.wires → negsuc 15 ≤ℤ g.bound e
  pub high : (e : ℕ) → e < g.wires → g.bound e ≤ℤ pos most_delays

-- each sum of a bound and one of the totals d fits
abbrev pub Fitting : Net → (ℕ → ℤ) → Type 0
Fitting g d = (e : ℕ) → e < g.wires → SFits w32 (g.bound e +ℤ d (g.to e))

-- wire e of a round from the totals d: the node that it leaves is answered where its total l falls to that of a walk along e
abbrev pub Relaxed : Net → (ℕ → ℤ) → ℕ → List Iterations → List Iterations → Option ℕ → Type 0
Relaxed g d e l l' None = (l' ≡ l) × (iterations_at l (g.from e) ≤ℤ (g.bound e +ℤ d (g.to e)))
Relaxed g d e l l' (Some u) =
    (u ≡ g.from e) × ((g.bound e +ℤ d (g.to e)) <ℤ iterations_at l u) × (y : Iterations) × (y.0 ≡ g.bound e +ℤ d (g.to e)) × (l' ≡ set l u y)

-- the totals l are those of a round over the first m wires, from the totals d
abbrev pub Reached : Net → (ℕ → ℤ) → List Iterations → ℕ → Type 0
Reached g d l m = (u : ℕ) → iterations_at l u ≡ better g d u m

-- whether one of the first n totals l is below that of d; where none was put down they are those of d
abbrev pub Fell : ℕ → (ℕ → ℤ) → List Iterations → Bool → Type 0
Fell n d l true = (u : ℕ) × (u < n) × (iterations_at l u <ℤ d u)
Fell n d l false = (u : ℕ) → iterations_at l u ≡ d u
