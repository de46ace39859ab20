-- The cycle machine's memory: where its places stand, clearing, what a tap reads and what leaves. 01, "One cycle". Assumes nothing.
use Rattle.std.specs.Prelude.{List, ◌∷◌, ◌++◌, ℕ, zero, suc, ◌+◌, ◌-◌, length, drop, replicate}
use Rattle.words.specs.Loops.{tab}
use Rattle.records.specs.Units.{word_before}
use Rattle.records.specs.Records.{at}
use Rattle.plans.specs.Plan.{Plan, unit_in}

-- "for each unit depth + line length words"
abbrev pub places : Plan → ℕ → ℕ
places p q = (unit_in p q).unit.depth + (unit_in p q).line

-- how many places the units before unit q have
unfoldable pub base : Plan → ℕ → ℕ
base p zero = 0
base p (suc q) = base p q + places p q

-- the memory's words: "word 0 is the cycle number t; then" all places
unfoldable pub size : Plan → ℕ
size p = suc (base p (length p.units))

-- place i of unit q: "newest first"
abbrev pub place : Plan → List ℕ → ℕ → ℕ → ℕ
place p m q i = at m (suc (base p q + i))

-- "Clearing writes 0 to all of these."
unfoldable pub cleared : Plan → List ℕ → List ℕ
cleared p m = (0 ∷ replicate (base p (length p.units)) word_before) ++ drop (size p) m

-- "tap d reads place P−1+d"
abbrev pub reading : Plan → List ℕ → ℕ → ℕ → ℕ
reading p m q d = place p m q ((unit_in p q).unit.depth - 1 + d)

-- "place P−1 is the word leaving now", "the leaving words go to the output, one per unit"
unfoldable pub leaving : Plan → List ℕ → List ℕ
leaving p m = tab (length p.units) (λ q. reading p m q 0)
