-- `sheets::held::HeldSheet::fed` meets its contract: what its loop keeps.
use Rattle.slots.proofs.FeedingLaws.{Feeding}
use Rattle.sheets.specs.Sheet.{sheet_of}
use Rattle.sheets.specs.Answers.{input_of}
use Rattle.sheets.proofs.held.HeldSheet.fed.Given as goal

abbrev pub invariant-loop-e : goal.invariant-loop-e
invariant-loop-e l = Feeding (input_of (sheet_of l.self.sheet.b.now)) l.e l.fed
