-- Only passes between functions: counts of live cycles by slot. Assumes nothing.
use Rattle.std.specs.Prelude.{◌≡◌, cond, List, ℕ, ◌+◌, ◌/◌, ◌%◌, ◌<◌, ◌≤◌, ltb, get_or}
use Rattle.words.specs.Loops.{total}
use Rattle.sheets.specs.Sheet.{sheet_of}
use Rattle.folding.specs.Walks.{start}
use Rattle.folding.specs.Folding.{net}
use Rattle.folding.specs.Lifetime.{longest_wait, first_live}
use Rattle.folding.specs.Offset.{offset}
use Rattle.lifetimes.specs.declared.Live.{Live}

-- the longest wait of node x, after the starts
abbrev pub wait_of : List ℕ → ℕ → ℕ
wait_of b x = longest_wait (sheet_of b) (start (net (sheet_of b))) x

-- of the first n nodes: whole rounds, and what is left of each wait in slot t
abbrev pub rounds_of : List ℕ → ℕ → ℕ
rounds_of b n = total n (λ x. wait_of b x / (sheet_of b).fold)

abbrev pub rest_of : List ℕ → ℕ → ℕ → ℕ
rest_of b n t = total n (λ x. cond (ltb (offset (sheet_of b).fold (first_live (sheet_of b) x) t) (wait_of b x % (sheet_of b).fold)) 1 0)

-- none of the first n counts is above m
abbrev pub Small : ℕ → List ℕ → ℕ → Type 0
Small n counts m = (t : ℕ) → t < n → get_or counts t 0 ≤ m

-- the counts r are those before with `rest` live cycles more from cycle `first` on, fewer than a round: one in each slot that they reach
abbrev pub Counted : ℕ → ℕ → ℕ → List ℕ → List ℕ → Type 0
Counted fold first rest counts r = (t : ℕ) → t < fold → get_or r t 0 ≡ get_or counts t 0 + cond (ltb (offset fold first t) rest) 1 0

pub record LiveOf (b : List ℕ) (n : ℕ) (r : Live) : Type 0 where
  pub turns_so : r.turns ≡ rounds_of b n
  pub counts_so : (t : ℕ) → t < (sheet_of b).fold → get_or r.counts t 0 ≡ rest_of b n t
