-- The folding rules of a sheet: raw waits, bounds, retimings, taps. 01, "The folding rules". Assumes nothing.
use Rattle.std.specs.Prelude.{ℕ, ◌+◌, ◌*◌, ◌<◌, length, ℤ, pos, ◌+ℤ◌, ◌-ℤ◌, ◌*ℤ◌, nat_abs, ◌≤ℤ◌}
use Rattle.words.specs.Words.{floor}
use Rattle.sheets.specs.Sheet.{Sheet, unit_of, node_of, wire_of}
use Rattle.folding.specs.Walks.{Net}

-- the depth of the unit that node x runs on
abbrev pub depth_of : Sheet → ℕ → ℕ
depth_of s x = (unit_of s (node_of s x).unit).depth

-- "A wire U→V with w delays has raw wait D = Nw − P_U + v − u"
unfoldable pub raw : Sheet → ℕ → ℤ
raw s e =
    let w = wire_of s e in
    pos (s.fold * w.delays + (node_of s w.to).slot) -ℤ pos (depth_of s w.from + (node_of s w.from).slot)

-- "bound c = D/N rounded towards minus infinity"
unfoldable pub bound : Sheet → ℕ → ℤ
bound s e = floor (raw s e) s.fold

-- "A retiming gives each node a whole number r. The wait after it is D + N(r(V) − r(U))."
unfoldable pub wait : Sheet → (ℕ → ℤ) → ℕ → ℤ
wait s r e = raw s e +ℤ pos s.fold *ℤ (r (wire_of s e).to -ℤ r (wire_of s e).from)

-- "All waits are nonnegative"
abbrev pub Retiming : Sheet → (ℕ → ℤ) → Type 0
Retiming s r = (e : ℕ) → e < length s.wires → pos 0 ≤ℤ wait s r e

-- the sheet's nodes and wires with their bounds
abbrev pub net : Sheet → Net
net s = record {
  nodes = length s.nodes;
  wires = length s.wires;
  from = λ e. (wire_of s e).from;
  to = λ e. (wire_of s e).to;
  bound = bound s;
}

-- "tap = the wire's wait", after the starts r
unfoldable pub tap : Sheet → (ℕ → ℕ) → ℕ → ℕ
tap s r e = nat_abs (wait s (λ u. pos (r u)) e)
