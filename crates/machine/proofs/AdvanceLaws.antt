-- To move all places, with the units' results, is to step. Assumes nothing.
use mathlib.Core.Path.{◌≡◌, ap}
use mathlib.Core.List.{List, ◌∷◌, ◌++◌}
use Prim.Native.Nat.{ℕ, suc}
use lib.ListN.{length, take, drop}
use Rattle.words.proofs.LoopLaws.{joined_cong}
use Rattle.records.specs.Records.{at}
use Rattle.plans.specs.Plan.{Plan}
use Rattle.memory.specs.Memory.{places, base, size}
use Rattle.moving.specs.Moving.{moved_by, advanced}
use Rattle.cycle.specs.Cycle.{moved, stepped}
use Rattle.cycle.specs.Given.{ResultsOf}

-- where r are the units' results, to advance is to step
pub advanced_so : (p : Plan) (m c r : List ℕ) → ResultsOf p m c r → advanced p m r ≡ stepped p m c
unfolding advanced stepped
advanced_so p m c r so =
    ap (λ (k : List ℕ). suc (at m 0) ∷ (k ++ drop (size p) m))
    (joined_cong (length p.units) (moved_by p m r) (moved p m c) (λ q h. ap (λ (x : ℕ). take (places p q) (x ∷ drop (suc (base p q)) m)) (so q h)))
