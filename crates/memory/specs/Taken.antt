-- Only passes between functions: what the parts of a step ask of plan bytes, and where the places stand. Assumes nothing.
use Rattle.std.specs.Prelude.{◌≡◌, List, ℕ, suc, ◌<◌, length, get_or}
use Rattle.plans.specs.declared.Plan as Head
use Rattle.plans.specs.Plan.{Plan}
use Rattle.plans.specs.Judging.{plan_fault}
use Rattle.plans.specs.Heads.{plan_head}
use Rattle.memory.specs.Memory.{base}

-- p is the header of the bytes b, which have no fault
pub record Taken (b : List ℕ) (p : Head.Plan) : Type 0 where
  pub head : p ≡ plan_head b
  pub fine : plan_fault b ≡ 0

-- where the places of each unit begin in memory
abbrev pub LinesAt : Plan → List ℕ → Type 0
LinesAt p l = (q : ℕ) → q < length p.units → get_or l q 0 ≡ suc (base p q)
