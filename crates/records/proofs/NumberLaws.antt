-- A reason is known by its number. Assumes nothing.
use mathlib.Core.Path.{◌≡◌}
use Prim.Native.Nat.{ℕ}
use Rattle.records.specs.declared.reading.Reason.{Reason}
use Rattle.records.specs.declared.reading.Reason.TheVariants.{Length, Mark, Range, Clash, Unfed, Figures}
use Rattle.records.specs.Numbers.{reason_number}

-- what is made of a reason's number is that of the reason, where it is so of each
pub by_number : {A : Type 0} (made : ℕ → A) (of : Reason → A) → made 1 ≡ of Length → made 2 ≡ of Mark → made 3 ≡ of Range → made 4 ≡ of Clash → made 5 ≡ of Unfed → made 9 ≡ of Figures →
    (why : Reason) → made (reason_number why) ≡ of why
by_number made of a b c d e f Length = a
by_number made of a b c d e f Mark = b
by_number made of a b c d e f Range = c
by_number made of a b c d e f Clash = d
by_number made of a b c d e f Unfed = e
by_number made of a b c d e f Figures = f
