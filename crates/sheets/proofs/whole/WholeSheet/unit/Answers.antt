-- `sheets::whole::WholeSheet::unit` meets its contract: the header says where the record stands. Assumes nothing.
use Rattle.std.proofs.Common.{◌∙◌}
use Rattle.sheets.proofs.HeldLaws.{unit_got}
use Rattle.sheets.proofs.whole.WholeSheet.unit.Goals as goal

pub returns : goal.returns
returns c = c.unit_in.ensures ∙ unit_got _ _ c.args.self.whole c.unit_run.result c.unit_run.ensures c.args.q c.requires
