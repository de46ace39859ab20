-- Only passes between functions: what the parts of a step that write leave behind. Assumes nothing.
use Rattle.std.specs.Prelude.{List, ◌∷◌, ◌++◌, ℕ, suc, ◌+◌, ◌-◌, length, take, drop, replicate}
use Rattle.words.specs.Loops.{joined}
use Rattle.records.specs.Units.{word_before}
use Rattle.records.specs.Records.{at}
use Rattle.plans.specs.Plan.{Plan}
use Rattle.memory.specs.Memory.{places, base, size}

-- memory m with t at 0 and n − 1 places behind it cleared
abbrev pub wiped : List ℕ → ℕ → List ℕ
wiped m n = (0 ∷ replicate (n - 1) word_before) ++ drop n m

-- m with its n places from `from` on moved by one, the new word x first
abbrev pub shifted : List ℕ → ℕ → ℕ → ℕ → List ℕ
shifted m from n x = take from m ++ (take n (x ∷ drop from m) ++ drop (from + n) m)

-- the places of unit q moved by one, its word of r the new first
abbrev pub moved_by : Plan → List ℕ → List ℕ → ℕ → List ℕ
moved_by p m r q = take (places p q) (at r q ∷ drop (suc (base p q)) m)

-- memory m with all units' places moved by one, and t one higher
unfoldable pub advanced : Plan → List ℕ → List ℕ → List ℕ
advanced p m r = suc (at m 0) ∷ (joined (length p.units) (moved_by p m r) ++ drop (size p) m)
