-- `text::refusals::wire_fields` meets its contract: what its loop keeps.
use Prim.Native.Nat.{ℕ, ◌*◌}
use Rattle.numerals.specs.Numerals.{field}
use Rattle.numerals.specs.Written.{Written}
use Rattle.words.specs.Loops.{joined}
use Rattle.text.specs.Texting.{wire_at}
use Rattle.text.proofs.refusals.wire_fields.Given as goal

abbrev pub invariant-loop-i : goal.invariant-loop-i
invariant-loop-i l = Written (11 * l.i) l.initial.text (joined l.i (λ (i : ℕ). field " " (wire_at l.b i))) l.text
