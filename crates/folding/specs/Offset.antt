-- Only passes between functions: where a slot's first live cycle falls. Assumes nothing.
use Rattle.std.specs.Prelude.{ℕ, ◌+◌, ◌-◌, ◌%◌}

-- the first offset from cycle b that falls in slot t: in closed form m live cycles from b on count m / N in slot t, and one more where
-- this offset is below m mod N
abbrev pub offset : ℕ → ℕ → ℕ → ℕ
offset fold b t = (t + fold - b % fold) % fold
