-- `waits::fine::FineSheet::wire` meets its contract: a wire's ends are nodes of the sheet. Assumes nothing.
use Rattle.waits.proofs.FineLaws.{leaves_so, meets_so}
use Rattle.waits.proofs.fine.FineSheet.wire.Goals as goal

pub returns-clause-leaves : goal.returns-clause-leaves
returns-clause-leaves c =
    let s = c.args.self.now in
    rw (c.wire.ensures, c.whole.ensures.b_is) (leaves_so s.b.now s.head s.fine c.args.e c.requires)

pub returns-clause-meets : goal.returns-clause-meets
returns-clause-meets c =
    let s = c.args.self.now in
    rw (c.wire.ensures, c.whole.ensures.b_is) (meets_so s.b.now s.head s.fine c.args.e c.requires)
