-- A wire's ranges, whether its node is one or not. Assumes nothing.
use Rattle.std.proofs.Common.{◌≡◌, refl, false, ◌&&◌, ◌<◌, ◌≤◌, ltb, leb, length, lt-ltb, le-ltb}
use mathlib.Core.Bool.{and-true, and-false}
use Rattle.records.specs.Units.{inputs_of}
use Rattle.sheets.specs.declared.Wire.{Wire}
use Rattle.sheets.specs.Sheet.{Sheet, node_of, most_delays, wire_fits}

-- a wire to no node does not fit
pub wire_off : (s : Sheet) (w : Wire) → length s.nodes ≤ w.to → wire_fits s w ≡ false
wire_off s w h = rw (le-ltb w.to (length s.nodes) h, and-false (ltb w.from (length s.nodes))) refl

-- and of one to a node the rest decides
pub wire_on : (s : Sheet) (w : Wire) → w.to < length s.nodes →
    wire_fits s w ≡ (ltb w.from (length s.nodes) && ltb w.input (inputs_of (node_of s w.to).op) && leb w.delays most_delays)
wire_on s w h = rw (lt-ltb w.to (length s.nodes) h, and-true (ltb w.from (length s.nodes))) refl
