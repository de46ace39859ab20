-- `starts::retime` meets its contract: the settled totals are the latest row, and their starts its own. Assumes nothing.
use Rattle.rounds.specs.NetOf.{net_of}
use Rattle.rounds.proofs.RowLaws.{closed}
use Rattle.starts.proofs.ShiftLaws.{starts_fit, some_timed}
use Rattle.starts.proofs.retime.Goals as goal

pub starts-requires-clause-by_index : goal.starts-requires-clause-by_index
starts-requires-clause-by_index c =
    let n = c.args.net.now in
    starts_fit (net_of n) c.in_ok-settled.settled c.in_ok-settled.ensures (closed n.bounds n.wired) n.moderate n.wired.few_nodes

pub returns : goal.returns
returns c =
    some_timed (net_of c.args.net.now) c.in_ok-settled.settled c.in_ok-settled.ensures c.starts.result c.starts.ensures
