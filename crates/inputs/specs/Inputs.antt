-- Only passes between functions: what the records of a slot bring to the inputs. Assumes nothing.
use Rattle.std.specs.Prelude.{◌≡◌, Bool, cond, ◌&&◌, List, ℕ, zero, suc, ◌+◌, ◌*◌, ◌-◌, ◌<◌, eqb, get_or}
use Rattle.plans.specs.Plan.{Plan, unit_in, switch_in}
use Rattle.memory.specs.Memory.{base, reading}

-- the places of the unit that switch e reads begin at `from`
abbrev pub Begins : Plan → ℕ → ℕ → Type 0
Begins p e from = from ≡ suc (base p (switch_in p e).source)

-- the last of f 0, .., f (n − 1) that passes, and 0 where none does
unfoldable pub last_of : ℕ → (ℕ → Bool) → (ℕ → ℕ) → ℕ
last_of zero passes f = 0
last_of (suc n) passes f = cond (passes n) (f n) (last_of n passes f)

-- l has, at each k below `many`, what the last of n records that is chosen and belongs at k brings
abbrev pub Gathered : ℕ → (ℕ → Bool) → (ℕ → ℕ) → (ℕ → ℕ) → ℕ → List ℕ → Type 0
Gathered n chosen place brings many l = (k : ℕ) → k < many → get_or l k 0 ≡ last_of n (λ e. chosen e && eqb (place e) k) brings

-- the switches of slot v, the place 2q + i of the input that each feeds, and the word that it reads
abbrev pub in_slot : Plan → ℕ → ℕ → Bool
in_slot p v e = eqb (switch_in p e).slot v

abbrev pub input_place : Plan → ℕ → ℕ
input_place p e = 2 * (switch_in p e).unit + (switch_in p e).input

abbrev pub tapped_place : Plan → ℕ → ℕ
tapped_place p e =
    let w = switch_in p e in
    suc (base p w.source + ((unit_in p w.source).unit.depth - 1 + w.tap))

abbrev pub tapped : Plan → List ℕ → ℕ → ℕ
tapped p m e = reading p m (switch_in p e).source (switch_in p e).tap
