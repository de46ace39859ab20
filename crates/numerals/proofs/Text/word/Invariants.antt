-- `numerals::Text::word` meets its contract: what its loop keeps.
use Rattle.std.proofs.Common.{take}
use Rattle.numerals.specs.Written.{Written}
use Rattle.numerals.proofs.Text.word.Given as goal

abbrev pub invariant-loop-b : goal.invariant-loop-b
invariant-loop-b l = Written l.b-index l.initial.self (take l.b-index l.w) l.self
