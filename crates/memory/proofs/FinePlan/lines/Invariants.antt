-- `memory::FinePlan::lines` meets its contract: what its loop keeps.
use Prim.Native.Nat.{ℕ, suc, ◌+◌, ◌*◌, ◌<◌, ◌≤◌}
use mathlib.Core.Path.{◌≡◌}
use lib.ListN.{length, get_or}
use Rattle.plans.specs.Plan.{plan_read}
use Rattle.memory.specs.Memory.{base}
use Rattle.memory.proofs.FinePlan.lines.Given as goal

abbrev pub invariant-loop-q : goal.invariant-loop-q
invariant-loop-q l = (l.words ≡ suc (base (plan_read l.self.b.now) l.q)) × ((k : ℕ) → k < l.q → get_or l.at k 0 ≡ suc (base (plan_read l.self.b.now) k)) × (l.words ≤ 1 + l.q * 65790) × (length l.at ≡ 8)
