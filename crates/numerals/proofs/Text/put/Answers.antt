-- `numerals::Text::put` meets its contract: a byte beyond the end changes nothing. Assumes nothing.
use mathlib.Core.Path.{refl, sym}
use native.Mathlib.Omega.{arith}
use lib.Seq.{set_out}
use Rattle.writing.specs.Laid.{laid}
use Rattle.numerals.proofs.Text.put.Goals as goal
use Rattle.numerals.proofs.Text.put.Goals.{then-to-self, else-to-self}

pub returns : goal.returns
unfolding laid
returns c = elim c.if-to-self.branch [
  | then-to-self w ↦ record { wrote = record { laid_so = rw w.self-is refl; next_is = omega arith; few = omega arith }; same = rw w.self-is refl }
  | else-to-self w ↦ record { wrote = record { laid_so = rw w.self-is (sym (set_out _ _ _ w.if-to-self.false)); next_is = omega arith; few = omega arith }; same = rw w.self-is refl }
]
