-- Runs of a plan from cleared memory: what the ports are handed, and which words leave. Assumes nothing.
use Rattle.std.specs.Prelude.{◌≡◌, List, ℕ, suc, ◌+◌, ◌*◌, ◌-◌, ◌<◌, ◌≤◌, length, nat_abs}
use Rattle.records.specs.Units.{op_port, word_before}
use Rattle.records.specs.Records.{at}
use Rattle.sheets.specs.Sheet.{Sheet, unit_of, node_of}
use Rattle.folding.specs.Folding.{depth_of}
use Rattle.plans.specs.Plan.{Plan, node_in}
use Rattle.memory.specs.Memory.{places, place}
use Rattle.cycle.specs.Cycle.{result}
use Rattle.machine.specs.Stepping.{Clearing, Stepping}
use Rattle.demands.specs.Graph.{delayed}

-- "In iteration l each port is handed sample l-r of its channel once l reaches its start r", in the cycles up to `last`.
-- `hand t` are the words lent at cycle t; what stands there on other cycles and channels is open
abbrev pub Handed : Sheet → Plan → (ℕ → ℕ → ℕ) → (ℕ → List ℕ) → ℕ → Type 0
Handed s p xs hand last =
    (x : ℕ) → x < length s.nodes → (node_of s x).op ≡ op_port → (l : ℕ) → (node_in p x).start ≤ l → s.fold * l + (node_of s x).slot ≤ last →
    at (hand (s.fold * l + (node_of s x).slot)) (nat_abs (node_of s x).k) ≡ xs (nat_abs (node_of s x).k) (l - (node_in p x).start)

-- the words leaving, `out t q` of unit q at cycle t, in the cycles up to `last`
pub record Leaves (s : Sheet) (p : Plan) (val out : ℕ → ℕ → ℕ) (last : ℕ) : Type 0 where
  -- "the word leaving a unit at cycle Nl+u+P is the unfolded graph's value of that node at iteration l-r, and 0 while l<r"
  pub words : (x : ℕ) → x < length s.nodes → (l : ℕ) → s.fold * l + (node_of s x).slot + depth_of s x ≤ last →
      out (s.fold * l + (node_of s x).slot + depth_of s x) (node_of s x).unit ≡ delayed val x (node_in p x).start l
  -- "Idle slots and cycles before the first result give 0."
  pub idle : (q : ℕ) → q < length s.units → (v : ℕ) → v < s.fold →
      ((x : ℕ) → x < length s.nodes → (node_of s x).unit ≡ q → (node_of s x).slot ≡ v → ⊥) →
      (l : ℕ) → s.fold * l + v + (unit_of s q).depth ≤ last → out (s.fold * l + v + (unit_of s q).depth) q ≡ 0
  pub early : (q : ℕ) → q < length s.units → (t : ℕ) → t ≤ last → t < (unit_of s q).depth → out t q ≡ word_before

-- ---- runs by the calls on plan bytes b: lent memory m, and at each cycle t the channels' words and a lent output

-- "stepped from cycle 0 on, to 4,294,967,294 at most"
abbrev pub last_cycle : ℕ
last_cycle = 4294967294

-- what clear answered, what step answered and put out at each cycle, and the memory before each
pub record Run : Type 0 where
  pub cleared : ℕ
  pub number : ℕ → ℕ
  pub out : ℕ → List ℕ
  pub memory : ℕ → List ℕ

-- the calls' contracts admit the run: memory is lent to clear, and from then on each step is lent what the call before it left
pub record Admitted (b m : List ℕ) (hand lent : ℕ → List ℕ) (r : Run) : Type 0 where
  pub clears : Clearing b m r.cleared (r.memory 0)
  pub steps : (t : ℕ) → t ≤ last_cycle → Stepping b (r.memory t) (hand t) (lent t) (r.number t) (r.memory (suc t)) (r.out t)

-- the run is as demanded: every call answers 0, the words leave as said, and memory holds what it should
pub record Runs (s : Sheet) (p : Plan) (val : ℕ → ℕ → ℕ) (hand : ℕ → List ℕ) (r : Run) : Type 0 where
  pub clears : r.cleared ≡ 0
  pub steps : (t : ℕ) → t ≤ last_cycle → r.number t ≡ 0
  pub leaves : Leaves s p val (λ t q. at (r.out t) q) last_cycle
  -- "place i holds the result begun at cycle t−1−i", and the word before where that is before cycle 0
  pub begun : (q : ℕ) → q < length p.units → (i : ℕ) → i < places p q → (t : ℕ) → t + suc i ≤ suc last_cycle →
      place p (r.memory (t + suc i)) q i ≡ result p (r.memory t) (hand t) q
  pub before : (q : ℕ) → q < length p.units → (i : ℕ) → i < places p q → (t : ℕ) → t ≤ i → t ≤ suc last_cycle →
      place p (r.memory t) q i ≡ word_before
