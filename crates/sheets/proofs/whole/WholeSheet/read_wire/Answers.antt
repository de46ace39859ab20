-- `sheets::whole::WholeSheet::read_wire` meets its contract: the mark's fault stands before the range's. Assumes nothing.
use Rattle.std.proofs.Common.{◌∙◌}
use Rattle.sheets.specs.Answers.{wire_fault}
use Rattle.sheets.proofs.HeldLaws.{wire_marked}
use Rattle.sheets.proofs.whole.WholeSheet.read_wire.Goals as goal

pub returns : goal.returns
unfolding wire_fault
returns c =
    let right = c.marked.ensures ∙ wire_marked _ _ c.args.self.whole c.wire_run.result c.wire_run.ensures c.args.e in
    c.mark_before_range.ensures ∙ simp (right, c.fits-fits.ensures, c.wire-wire.ensures)
