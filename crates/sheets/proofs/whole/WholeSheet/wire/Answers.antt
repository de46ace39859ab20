-- `sheets::whole::WholeSheet::wire` meets its contract: the header says where the record stands. Assumes nothing.
use Rattle.std.proofs.Common.{◌∙◌}
use Rattle.sheets.proofs.HeldLaws.{wire_got}
use Rattle.sheets.proofs.whole.WholeSheet.wire.Goals as goal

pub returns : goal.returns
returns c = c.wire_in.ensures ∙ wire_got _ _ c.args.self.whole c.wire_run.result c.wire_run.ensures c.args.e c.requires
