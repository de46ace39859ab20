-- Only passes between functions: the test that two waits are equal, and the numbers in arrays of cycles and of iterations. Assumes
-- nothing.
use Rattle.std.specs.Prelude.{Bool, false, List, ℕ, eqb, get_or, ℤ, pos, negsuc}
use Rattle.times.specs.declared.Cycles.{Cycles}
use Rattle.times.specs.declared.Iterations.{Iterations}

abbrev pub eqZ : ℤ → ℤ → Bool
eqZ (pos a) (pos b) = eqb a b
eqZ (pos a) (negsuc b) = false
eqZ (negsuc a) (pos b) = false
eqZ (negsuc a) (negsuc b) = eqb a b

-- the number of element i
abbrev pub iterations_at : List Iterations → ℕ → ℤ
iterations_at l i = (get_or l i (record { 0 = pos 0 })).0

abbrev pub cycles_at : List Cycles → ℕ → ℤ
cycles_at l i = (get_or l i (record { 0 = pos 0 })).0
