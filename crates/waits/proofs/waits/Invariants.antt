-- `waits::waits` meets its contract: what its loop keeps.
use Prim.Native.Nat.{ℕ, ◌<◌}
use mathlib.Core.Path.{◌≡◌}
use lib.ListN.{length}
use lib.IntN.{pos}
use Rattle.times.specs.Times.{cycles_at}
use Rattle.sheets.specs.Sheet.{sheet_of}
use Rattle.folding.specs.Walks.{start}
use Rattle.folding.specs.Folding.{net, tap}
use Rattle.waits.specs.Fine.{from_node, from_unit}
use Rattle.waits.proofs.LongestLaws.{SoFar}
use Rattle.waits.proofs.waits.Given as goal

abbrev pub invariant-loop-e : goal.invariant-loop-e
invariant-loop-e l =
    let taps = tap (sheet_of l.sheet.b.now) (start (net (sheet_of l.sheet.b.now))) in
    (length l.waited.waits ≡ 96) × ((k : ℕ) → k < l.e → cycles_at l.waited.waits k ≡ pos (taps k))
    × (length l.waited.longest ≡ 48) × SoFar l.e (from_node l.sheet.b.now) taps 48 l.waited.longest × (length l.waited.lines ≡ 8) × SoFar l.e (from_unit l.sheet.b.now) taps 8 l.waited.lines
