-- One step of the cycle machine: the words at the inputs, the results, the memory afterwards, and a run of steps. 01, "One cycle".
-- Assumes nothing.
use Rattle.std.specs.Prelude.{cond, List, ◌∷◌, ◌++◌, ℕ, zero, suc, ◌/◌, ◌%◌, ltb, length, take, drop, nat_abs}
use Rattle.std.proofs.Math.Option.{Option, some, none}
use Rattle.words.specs.Loops.{lowest, joined}
use Rattle.records.specs.Units.{value, word_before}
use Rattle.records.specs.Records.{at, runs_in}
use Rattle.plans.specs.Plan.{Plan, node_in, switch_in}
use Rattle.plans.specs.Judging.{switched}
use Rattle.memory.specs.Memory.{places, base, size, cleared, reading}

-- "all as they stood before the step", in memory m, with the channels' words c

-- what a switch reads; an input without one reads 0
abbrev pub through : Plan → List ℕ → Option ℕ → ℕ
through p m none = 0
through p m (some e) = reading p m (switch_in p e).source (switch_in p e).tap

-- the word at input i of unit q in slot v
abbrev pub input_word : Plan → List ℕ → ℕ → ℕ → ℕ → ℕ
input_word p m q v i = through p m (lowest (length p.switches) (switched p q v i))

-- "The unit's node in slot t mod N works out its op; it gives 0 while (t div N) is below its start; an empty slot gives 0.
-- A port takes its channel's word from 16 lent words."
abbrev pub worked : Plan → List ℕ → List ℕ → ℕ → Option ℕ → ℕ
worked p m c q none = 0
worked p m c q (some x) =
    let t = at m 0 in
    let n = (node_in p x).node in
    cond (ltb (t / p.fold) (node_in p x).start) word_before
    (value n.op n.k (at c (nat_abs n.k)) (input_word p m q (t % p.fold) 0) (input_word p m q (t % p.fold) 1))

-- the result that unit q begins
unfoldable pub result : Plan → List ℕ → List ℕ → ℕ → ℕ
result p m c q = worked p m c q (lowest (length p.nodes) (λ x. runs_in q (at m 0 % p.fold) (node_in p x).node))

-- "Each unit's places move by one, the new result goes to place 0"
abbrev pub moved : Plan → List ℕ → List ℕ → ℕ → List ℕ
moved p m c q = take (places p q) (result p m c q ∷ drop (suc (base p q)) m)

-- "t rises by 1"; "Words beyond these stay."
unfoldable pub stepped : Plan → List ℕ → List ℕ → List ℕ
stepped p m c = suc (at m 0) ∷ (joined (length p.units) (moved p m c) ++ drop (size p) m)

-- the memory before cycle t, stepped from cleared memory on; `hand t` are the channels' words at cycle t
unfoldable pub run : Plan → List ℕ → (ℕ → List ℕ) → ℕ → List ℕ
run p m hand zero = cleared p m
run p m hand (suc t) = stepped p (run p m hand t) (hand t)
