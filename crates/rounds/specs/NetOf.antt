-- Only passes between functions: what a net in the code stands for. Assumes nothing.
use Rattle.folding.specs.Walks.{Net}
use Rattle.rounds.specs.Rounds.{bytes_net}
use Rattle.rounds.specs.declared.net.Net as Code

-- the nodes and wires of it, each wire with its ends and its bound
abbrev pub net_of : Code.Net → Net
net_of n = bytes_net n.b.now n.at n.nodes n.wires n.bounds
