-- Only passes between functions: what a writer of text does to the lent buffer. Assumes nothing.
use Rattle.std.specs.Prelude.{◌≡◌, List, ℕ, ◌+◌, ◌≤◌, length}
use Rattle.writing.specs.Laid.{laid}

-- bs, of which there are at most `most`, were laid from `at` on, up to `next`
pub record Wrote (most : ℕ) (before : List ℕ) (at : ℕ) (bs after : List ℕ) (next : ℕ) : Type 0 where
  pub laid_so : after ≡ laid before at bs
  pub next_is : next ≡ at + length bs
  pub few : length bs ≤ most

-- a number below 2^32 has at most 10 digits
abbrev pub most_digits : ℕ
most_digits = 10
