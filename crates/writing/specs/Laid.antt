-- Only passes between functions: bytes laid over a lent slice from a place on; the rest is kept. Assumes nothing.
use Rattle.std.specs.Prelude.{List, [], ◌∷◌, ℕ, ◌+◌, set}

-- l with the bytes from `at` on
unfoldable pub laid : List ℕ → ℕ → List ℕ → List ℕ
laid l at [] = l
laid l at (b ∷ bs) = laid (set l at b) (at + 1) bs
