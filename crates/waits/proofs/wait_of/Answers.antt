-- `waits::wait_of` meets its contract: the raw wait and N times the difference of the starts, all of which fit. Assumes nothing.
use Rattle.waits.proofs.WaitSizes.{turns_fit, wait_fits}
use Rattle.waits.proofs.wait_of.Goals as goal

pub cycles-requires : goal.cycles-requires
cycles-requires c =
    rw c.sub.ensures (turns_fit c.args.sheet.now.head.fold c.args.from.0 c.args.to.0 c.args.sheet.now.within.fold_most c.requires.near.0 c.requires.near.1)

pub add-requires : goal.add-requires
add-requires c =
    let s = c.args.sheet.now in
    rw (c.raw_wait.ensures, c.cycles.ensures, c.sub.ensures)
    (wait_fits s.b.now s.head s.fine c.args.e c.requires.e_lt_wires c.args.from.0 c.args.to.0 c.requires.near.0 c.requires.near.1)
