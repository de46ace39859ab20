-- Only passes between functions: what the nodes of a slot give, from the words at the inputs. Assumes nothing.
use Rattle.std.specs.Prelude.{◌≡◌, Bool, cond, List, ℕ, ◌+◌, ◌*◌, ◌/◌, ◌<◌, ltb, eqb, length, get_or}
use Rattle.records.specs.declared.Node.{Node}
use Rattle.records.specs.Units.{value, word_before}
use Rattle.records.specs.Records.{at}
use Rattle.records.specs.Answers.{channel_of}
use Rattle.plans.specs.Plan.{Plan, node_in}
use Rattle.cycle.specs.Cycle.{result}

-- the nodes of slot v, and the unit of each
abbrev pub node_in_slot : Plan → ℕ → ℕ → Bool
node_in_slot p v x = eqb (node_in p x).node.slot v

abbrev pub node_unit : Plan → ℕ → ℕ
node_unit p x = (node_in p x).node.unit

-- "it gives 0 while (t div N) is below its start": a node in iteration `turn`, on its sample and the words at its inputs
abbrev pub begun_by : ℕ → ℕ → Node → ℕ → ℕ → ℕ → ℕ
begun_by turn start n sample a b = cond (ltb turn start) word_before (value n.op n.k sample a b)

-- what node x gives at cycle t, with the channels' words c and the words at the inputs: input i of unit q at 2q + i
abbrev pub given : Plan → ℕ → List ℕ → List ℕ → ℕ → ℕ
given p t c words x =
    let n = (node_in p x).node in
    begun_by (t / p.fold) (node_in p x).start n (at c (channel_of n)) (at words (2 * n.unit)) (at words (2 * n.unit + 1))

-- the result that each unit begins
abbrev pub ResultsOf : Plan → List ℕ → List ℕ → List ℕ → Type 0
ResultsOf p m c r = (q : ℕ) → q < length p.units → get_or r q 0 ≡ result p m c q
