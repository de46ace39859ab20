-- What it is for a plan to fold a sheet, with the starts that the plan prints. Assumes nothing.
use Rattle.std.specs.Prelude.{◌≡◌, ℕ, ◌+◌, ◌<◌, ◌≤◌, length, pos, ◌+ℤ◌, ◌-ℤ◌, ◌*ℤ◌}
use Rattle.sheets.specs.Sheet.{Sheet, unit_of, node_of, wire_of}
use Rattle.folding.specs.Folding.{depth_of}
use Rattle.plans.specs.Plan.{Plan, unit_in, node_in, switch_in}

-- N, units and nodes are the sheet's in order and content; "One `PS` for each wire, in sheet order" joins its wire's ends at its input;
-- every tap is N(w + start of V − start of U) − P_U + v − u; no tap is longer than the line that it reads
pub record Folds (s : Sheet) (p : Plan) : Type 0 where
  pub fold : p.fold ≡ s.fold
  pub units : length p.units ≡ length s.units
  pub nodes : length p.nodes ≡ length s.nodes
  pub wires : length p.switches ≡ length s.wires
  pub unit : (q : ℕ) → q < length s.units → (unit_in p q).unit ≡ unit_of s q
  pub node : (x : ℕ) → x < length s.nodes → (node_in p x).node ≡ node_of s x
  pub joins : (e : ℕ) → e < length s.wires →
      ((switch_in p e).unit ≡ (node_of s (wire_of s e).to).unit) × ((switch_in p e).slot ≡ (node_of s (wire_of s e).to).slot)
      × ((switch_in p e).input ≡ (wire_of s e).input) × ((switch_in p e).source ≡ (node_of s (wire_of s e).from).unit)
  pub taps : (e : ℕ) → e < length s.wires →
      pos (switch_in p e).tap ≡
      pos s.fold *ℤ (pos (wire_of s e).delays +ℤ (pos (node_in p (wire_of s e).to).start -ℤ pos (node_in p (wire_of s e).from).start))
      +ℤ (pos (node_of s (wire_of s e).to).slot -ℤ pos (depth_of s (wire_of s e).from + (node_of s (wire_of s e).from).slot))
  pub lines : (e : ℕ) → e < length s.wires → (switch_in p e).tap ≤ (unit_in p (switch_in p e).source).line
