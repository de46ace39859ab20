-- The user's three demands as types, over the definitions that the calls' contracts cite. Assumes nothing.
use Rattle.std.specs.Prelude.{◌≡◌, ◌↔◌, ◌⊎◌, List, [], ◌∷◌, ℕ, ◌%◌, ◌<◌, ◌≤◌, length, take, drop, ℤ, pos, ◌<ℤ◌}
use Rattle.words.specs.Words.{turn}
use Rattle.records.specs.Units.{channels, value}
use Rattle.records.specs.Records.{at, over}
use Rattle.sheets.specs.Sheet.{Sheet, sheet_of, sheet_fault}
use Rattle.sheets.specs.Sound.{Sound}
use Rattle.folding.specs.Walks.{Loop, Meets}
use Rattle.folding.specs.Latest.{Latest, IsChain}
use Rattle.folding.specs.Folding.{net, wait, Retiming}
use Rattle.folding.specs.Lifetime.{last_live, live, registers, waiting}
use Rattle.plans.specs.Plan.{Plan, node_in, switch_in, plan_read, loop_read}
use Rattle.plans.specs.Judging.{plan_fault}
use Rattle.drawing.specs.Folds.{Folds}
use Rattle.drawing.specs.PlanOf.{plan_length}
use Rattle.planner.specs.Planning.{Planning}
use Rattle.memory.specs.Memory.{size, leaving}
use Rattle.cycle.specs.Cycle.{run}
use Rattle.machine.specs.Stepping.{Clearing, Stepping}
use Rattle.listings.specs.Listing.{Listing}
use Rattle.demands.specs.Graph.{HasValues}
use Rattle.demands.specs.Running.{Handed, Leaves, last_cycle, Run, Admitted, Runs}

-- ---- demand 1: "Each call ends in its result or one numbered refusal of document 01, given exactly when 01 says. A refusal changes no
-- lent memory, but for an unfoldable sheet, whose loop is written at the head of the plan buffer."

-- of a result of the planner's: `len` bytes at the head are written at 0 and at 6, and none at another number
pub record PlannerEnds (before : List ℕ) (number len : ℕ) (after : List ℕ) : Type 0 where
  pub numbered : number ≤ 7
  pub kept : ¬ (number ≡ 0) → ¬ (number ≡ 6) → after ≡ before
  pub same_length : length after ≡ length before
  pub rest_kept : drop len after ≡ drop len before

-- of a result of clear's on the plan bytes b
pub record ClearEnds (b m : List ℕ) (number : ℕ) (after : List ℕ) : Type 0 where
  pub numbered : (number ≤ 5) ⊎ ((number ≡ 7) ⊎ (number ≡ 9))
  pub kept : ¬ (number ≡ 0) → after ≡ m
  pub same_length : length after ≡ length m
  pub rest_kept : drop (size (plan_read b)) after ≡ drop (size (plan_read b)) m

-- of a result of step's on the plan bytes b
pub record StepEnds (b m o : List ℕ) (number : ℕ) (after out : List ℕ) : Type 0 where
  pub numbered : (number ≤ 5) ⊎ ((7 ≤ number) × (number ≤ 9))
  pub kept : ¬ (number ≡ 0) → (after ≡ m) × (out ≡ o)
  pub same_length : (length after ≡ length m) × (length out ≡ length o)
  pub rest_kept :
      (drop (size (plan_read b)) after ≡ drop (size (plan_read b)) m)
      × (drop (length (plan_read b).units) out ≡ drop (length (plan_read b).units) o)

-- for every sheet, buffer, plan, memory, words and output there is a result, and every result that the definitions admit ends so
pub record Demand1 : Type 0 where
  pub planner_answers : (b before : List ℕ) → (number : ℕ) × (len : ℕ) × (after : List ℕ) × Planning b before number len after
  pub planner : (b before : List ℕ) (number len : ℕ) (after : List ℕ) → Planning b before number len after → PlannerEnds before number len after
  pub clear_answers : (b m : List ℕ) → (number : ℕ) × (after : List ℕ) × Clearing b m number after
  pub clear : (b m : List ℕ) (number : ℕ) (after : List ℕ) → Clearing b m number after → ClearEnds b m number after
  pub step_answers : (b m c o : List ℕ) → (number : ℕ) × (after : List ℕ) × (out : List ℕ) × Stepping b m c o number after out
  pub step : (b m c o : List ℕ) (number : ℕ) (after out : List ℕ) → Stepping b m c o number after out → StepEnds b m o number after out

-- "any two results it admits are shown equal", but for "the choice of loop at 6"
pub record OneResult : Type 0 where
  pub planner : (b before : List ℕ) (n n' len len' : ℕ) (after after' : List ℕ) → Planning b before n len after → Planning b before n' len' after' →
      (n ≡ n') × (¬ (n ≡ 6) → (len ≡ len') × (after ≡ after'))
  pub clear : (b m : List ℕ) (n n' : ℕ) (after after' : List ℕ) → Clearing b m n after → Clearing b m n' after' → (n ≡ n') × (after ≡ after')
  pub step : (b m c o : List ℕ) (n n' : ℕ) (after after' out out' : List ℕ) → Stepping b m c o n after out → Stepping b m c o n' after' out' →
      (n ≡ n') × (after ≡ after') × (out ≡ out')

-- ---- demand 2: "Waits and register count follow Parhi's folding equation and lifetime analysis."

-- bytes are below 256
abbrev pub Bytes : List ℕ → Type 0
Bytes b = (i : ℕ) → at b i < 256

-- of the plan p of the sheet s: "Otherwise the retiming is the latest one, as 01 defines it."
pub record WellPlanned (s : Sheet) (p : Plan) : Type 0 where
  pub folds : Folds s p
  pub latest : Latest (net s) (λ u. (node_in p u).start)
  pub taps : (e : ℕ) → e < length s.wires → pos (switch_in p e).tap ≡ wait s (λ u. pos (node_in p u).start) e
  pub registers_are : p.registers ≡ registers s (λ u. (node_in p u).start)
  pub chain_is : IsChain (net s) p.chain

-- some element of a list
abbrev pub Among : {A : Type 0} → (A → Type 0) → List A → Type 0
Among P [] = ⊥
Among P (a ∷ l) = P a ⊎ Among P l

-- "and the loop shown proves it": whatever the retiming, some wire of the loop has a wait below 0
pub record LoopProves (s : Sheet) (es : List ℕ) : Type 0 where
  pub wire : ℕ
  pub wires : List ℕ
  pub is : es ≡ wire ∷ wires
  pub loop : Loop (net s) wire wires
  pub refutes : (r : ℕ → ℤ) → Among (λ e. wait s r e <ℤ pos 0) es

-- through the call, of the bytes in the buffer
pub record Demand2 (b before : List ℕ) (number len : ℕ) (after : List ℕ) : Type 0 where
  pub at_0 : number ≡ 0 → WellPlanned (sheet_of b) (plan_read (take len after))
  pub at_6 : number ≡ 6 → LoopProves (sheet_of b) (loop_read len after)
  -- "A well-formed sheet with room for its plan is refused as unfoldable exactly when no whole-number retiming makes every wait nonnegative"
  pub exactly : sheet_fault b ≡ 0 → plan_length b ≤ length before →
      ((number ≡ 6) ↔ ((r : ℕ → ℤ) → Retiming (sheet_of b) r → ⊥)) × ((number ≡ 0) ↔ ((r : ℕ → ℤ) × Retiming (sheet_of b) r))
  -- every byte written is one, and the machine takes the plan
  pub bytes_left : Bytes before → Bytes after
  pub taken : number ≡ 0 → plan_fault (take len after) ≡ 0

abbrev pub Demand2Met : Type 0
Demand2Met = (b before : List ℕ) (number len : ℕ) (after : List ℕ) → Planning b before number len after → Demand2 b before number len after

-- "All waits are nonnegative exactly when r(U) − r(V) ≤ c on every wire."
abbrev pub WaitsByBounds : Type 0
WaitsByBounds = (s : Sheet) → Sound s → (r : ℕ → ℤ) → Retiming s r ↔ Meets (net s) r

-- what the register figure means: at no cycle do more words wait, and once every node's first word has been read for the last time
-- as many wait at cycle t as the live count of slot t mod N
pub record RegistersMean (s : Sheet) (r : ℕ → ℕ) : Type 0 where
  pub enough : (t : ℕ) → waiting s r t ≤ registers s r
  pub late : (t : ℕ) → ((u : ℕ) → u < length s.nodes → last_live s r u ≤ t) → waiting s r t ≡ live s r (t % s.fold)

abbrev pub RegistersMeant : Type 0
RegistersMeant = (s : Sheet) → Sound s → (r : ℕ → ℕ) → RegistersMean s r

-- "Words have 32 bits": every word that an op gives is one, where the sample is
abbrev pub OpsGiveWords : Type 0
OpsGiveWords = (op : ℕ) (k : ℤ) (sample a b : ℕ) → sample < turn → value op k sample a b < turn

-- ---- demand 3: "Take any sheet we pass, any sample streams, cleared memory, its plan stepped from cycle 0 on, to 4,294,967,294 at most."

-- of any plan that folds a sound sheet: the graph has values, one on each streams, and they are the words that leave
abbrev pub Demand3Folds : Type 0
Demand3Folds =
    (s : Sheet) (p : Plan) → Sound s → Folds s p → (xs : ℕ → ℕ → ℕ) →
    (v : HasValues s xs)
    × ((m : List ℕ) → size p ≤ length m → (hand : ℕ → List ℕ) (last : ℕ) → Handed s p xs hand last →
    Leaves s p v.val (λ t q. at (leaving p (run p m hand t)) q) last)

-- from a result 0 of the planner's: the plan bytes in the buffer, any streams, any lent memory, words and outputs that are long enough.
-- There is a run that the relations `Clearing` and `Stepping` admit, and every one that they admit is as demanded
abbrev pub Demand3 : Type 0
Demand3 =
    (b before : List ℕ) (len : ℕ) (after : List ℕ) → Planning b before 0 len after →
    let s = sheet_of b in
    let plan = take len after in
    let p = plan_read plan in
    (xs : ℕ → ℕ → ℕ) →
    (v : HasValues s xs)
    × ((m : List ℕ) → size p ≤ length m → (hand lent : ℕ → List ℕ) →
    ((t : ℕ) → channels ≤ length (hand t)) → ((t : ℕ) → length s.units ≤ length (lent t)) → Handed s p xs hand last_cycle →
    ((r : Run) × Admitted plan m hand lent r) × ((r : Run) → Admitted plan m hand lent r → Runs s p v.val hand r))

-- ---- the listing

-- whatever a listing of the sheet b may answer and leave, with room for its plan and for the text, this text is put out
abbrev pub Prints : List ℕ → List ℕ → Type 0
Prints b text =
    (plan out : List ℕ) (number len : ℕ) (left after : List ℕ) → plan_length b ≤ length plan → length text ≤ length out →
    Listing b plan out number len left after → (number ≡ 0) × (len ≡ length text) × (after ≡ over text out)
