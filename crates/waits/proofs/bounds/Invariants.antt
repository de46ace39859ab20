-- `waits::bounds` meets its contract: what its loop keeps.
use Prim.Native.Nat.{ℕ, ◌<◌}
use mathlib.Core.Path.{◌≡◌}
use lib.ListN.{length}
use Rattle.sheets.specs.Sheet.{sheet_of}
use Rattle.folding.specs.Folding.{bound}
use Rattle.times.specs.Times.{iterations_at}
use Rattle.waits.proofs.bounds.Given as goal

abbrev pub invariant-loop-e : goal.invariant-loop-e
invariant-loop-e l = (length l.bounds ≡ 96) × ((k : ℕ) → k < l.e → iterations_at l.bounds k ≡ bound (sheet_of l.sheet.b.now) k)
