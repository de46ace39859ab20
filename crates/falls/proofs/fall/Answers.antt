-- `falls::fall` meets its contract: the kept choices, followed back. Assumes nothing.
use Rattle.falls.proofs.FallLaws.{kept_backed, kept_falling}
use Rattle.falls.proofs.fall.Goals as goal

pub follow-requires-clause-backed : goal.follow-requires-clause-backed
follow-requires-clause-backed c =
    let n = c.args.net.now in
    kept_backed n.bounds n.wired c.keep-first.new.choices c.keep-first.result c.keep-first.ensures

pub returns : goal.returns
returns c =
    let n = c.args.net.now in
    rw c.follow.ensures (kept_falling n.bounds n.wired c.keep-first.new.choices c.keep-first.result c.keep-first.ensures)
