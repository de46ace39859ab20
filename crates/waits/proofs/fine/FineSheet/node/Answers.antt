-- `waits::fine::FineSheet::node` meets its contract: a node runs on a unit of the sheet. Assumes nothing.
use Rattle.waits.proofs.FineLaws.{on_unit_so}
use Rattle.waits.proofs.fine.FineSheet.node.Goals as goal

pub returns-clause-on_unit : goal.returns-clause-on_unit
returns-clause-on_unit c =
    let s = c.args.self.now in
    rw (c.node.ensures, c.whole.ensures.b_is) (on_unit_so s.b.now s.head s.fine c.args.x c.requires)
