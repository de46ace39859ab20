-- `loops::find_loop` meets its contract: the part that closes is a loop, and stands from its lowest wire on. Assumes nothing.
use mathlib.Core.Path.{sym, ap, ◌∙◌}
use Prim.Native.Nat.{ℕ}
use native.Mathlib.Omega.{arith}
use lib.ListN.{take}
use Rattle.rounds.specs.NetOf.{net_of}
use Rattle.rounds.proofs.RowLaws.{closed}
use Rattle.loops.proofs.RingLaws.{walk_wire}
use Rattle.loops.proofs.ShownLaws.{least, some_closes, part, shown_loop}
use Rattle.loops.proofs.find_loop.Goals as goal

pub closes-requires : goal.closes-requires
closes-requires c =
    let n = c.args.net.now in
    let f = c.fall.ensures in
    walk_wire (net_of n) (take n.nodes c.fall.new.walk) f.start f.end f.walk

pub unwrap-span-requires : goal.unwrap-span-requires
unwrap-span-requires c =
    let n = c.args.net.now in
    some_closes (net_of n) (closed n.bounds n.wired) (take n.nodes c.fall.new.walk) c.fall.ensures c.closes.result c.closes.ensures

pub returns : goal.returns
returns c =
    let n = c.args.net.now in
    let g = net_of n in
    let es = take n.nodes c.fall.new.walk in
    let span = c.unwrap-span.result in
    let met = rw c.unwrap-span.ensures at c.closes.ensures in
    let p = part g (closed n.bounds n.wired) es c.fall.ensures span met in
    let low = c.lowest.ensures in
    let t = shown_loop g (closed n.bounds n.wired) es c.fall.ensures span met c.lowest.result low.0 (least _ c.lowest.result low) in
    record {
      first = t.first;
      rest = t.rest;
      wires = ap (λ (k : ℕ). take k c.turn.new.out) (sym p.size) ∙ c.turn.ensures ∙ t.wires;
      loop = t.loop;
      few = omega (arith, p.inside);
    }
