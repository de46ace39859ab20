-- `sheets::whole::WholeSheet::node` meets its contract: the header says where the record stands. Assumes nothing.
use Rattle.std.proofs.Common.{◌∙◌}
use Rattle.sheets.proofs.HeldLaws.{node_got}
use Rattle.sheets.proofs.whole.WholeSheet.node.Goals as goal

pub returns : goal.returns
returns c = c.node_in.ensures ∙ node_got _ _ c.args.self.whole c.node_run.result c.node_run.ensures c.args.x c.requires
