-- Only passes between functions: what a writer does to a text. Assumes nothing.
use Rattle.std.specs.Prelude.{◌≡◌, List, ℕ}
use Rattle.numerals.specs.declared.Text.{Text}
use Rattle.numerals.specs.Wrote.{Wrote}

-- bs, of which there are at most `most`, were laid where the text went on, in the buffer that was lent
pub record Written (most : ℕ) (before : Text) (bs : List ℕ) (after : Text) : Type 0 where
  pub wrote : Wrote most before.out.now before.to bs after.out.now after.to
  pub same : after.out.ghost_name ≡ before.out.ghost_name
