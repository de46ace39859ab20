-- Only passes between functions: one node's total after k rounds. Assumes nothing.
use Rattle.std.specs.Prelude.{ℕ, get_or, ℤ, pos}
use Rattle.folding.specs.Walks.{Net, row}

-- the least total over walks of at most k wires from u
abbrev pub round : Net → ℕ → ℕ → ℤ
round g k u = get_or (row g k) u (pos 0)
