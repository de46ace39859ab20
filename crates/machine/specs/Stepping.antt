-- What clear and step answer and what they leave in the lent slices, for all bytes as a plan, memories m, channel words c and
-- outputs o: 01, "Refusal numbers". Assumes nothing.
use Rattle.std.specs.Prelude.{◌≡◌, not, cond, ◌&&◌, List, ℕ, leb, eqb, length}
use Rattle.words.specs.Loops.{unless, ◌then◌}
use Rattle.records.specs.Units.{channels}
use Rattle.records.specs.Records.{at, over}
use Rattle.plans.specs.Plan.{plan_read}
use Rattle.plans.specs.Judging.{plan_fault}
use Rattle.memory.specs.Memory.{size, cleared, leaving}
use Rattle.cycle.specs.Cycle.{stepped}

-- "t is already 4,294,967,295" is 8
abbrev pub last_count : ℕ
last_count = 4294967295

-- "then 4, 5, 9, 7": clear never gives 8
unfoldable pub clear_number : List ℕ → List ℕ → ℕ
clear_number b m = plan_fault b then unless (leb (size (plan_read b)) (length m)) 7

unfoldable pub clear_memory : List ℕ → List ℕ → List ℕ
clear_memory b m = cond (eqb (clear_number b m) 0) (cleared (plan_read b) m) m

-- "then 4, 5, 9, 7, 8": "Step needs the memory, 16 channel words, and one output word per unit."
unfoldable pub step_number : List ℕ → List ℕ → List ℕ → List ℕ → ℕ
step_number b m c o =
    plan_fault b
    then unless (leb (size (plan_read b)) (length m) && leb channels (length c) && leb (length (plan_read b).units) (length o)) 7
    then unless (not (eqb (at m 0) last_count)) 8

unfoldable pub step_memory : List ℕ → List ℕ → List ℕ → List ℕ → List ℕ
step_memory b m c o = cond (eqb (step_number b m c o) 0) (stepped (plan_read b) m c) m

unfoldable pub step_output : List ℕ → List ℕ → List ℕ → List ℕ → List ℕ
step_output b m c o = cond (eqb (step_number b m c o) 0) (over (leaving (plan_read b) m) o) o

-- clear may answer `number` on the plan b, and leave `after` where the memory m was lent
pub record Clearing (b m : List ℕ) (number : ℕ) (after : List ℕ) : Type 0 where
  pub number_is : number ≡ clear_number b m
  pub memory_is : after ≡ clear_memory b m

-- step may answer `number` on the plan b with the channels' words c, and leave `after` and `out` where m and o were lent
pub record Stepping (b m c o : List ℕ) (number : ℕ) (after out : List ℕ) : Type 0 where
  pub number_is : number ≡ step_number b m c o
  pub memory_is : after ≡ step_memory b m c o
  pub output_is : out ≡ step_output b m c o
