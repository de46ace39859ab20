-- What the register figure means, and that every word an op gives is a word. Assumes nothing.
use Rattle.folding.proofs.WaitingLaws.{waiting_enough, waiting_late}
use Rattle.records.proofs.NodeLaws.{value_below}
use Rattle.demands.specs.Demands.{RegistersMeant, OpsGiveWords}

pub registers_mean : RegistersMeant
registers_mean s sound r = record { enough = waiting_enough s sound r; late = waiting_late s sound r }

pub ops_give_words : OpsGiveWords
ops_give_words = value_below
