-- `text::refused_text` meets its contract: 7 where the text that was measured has no room, else it is written. Assumes nothing.
use Rattle.std.proofs.Common.{refl, arith}
use Rattle.text.proofs.TextingLaws.{texting_short, texting_done}
use Rattle.text.proofs.refused_text.Goals as goal

pub returns-then-out-size : goal.returns-then-out-size
returns-then-out-size c = texting_short _ refl (omega arith) c.refused_line-size.ensures c.if-out-size.true

pub returns : goal.returns
returns c = texting_done _ refl (omega arith) c.refused_line-size.ensures c.if-out-size.false c.refused_line.ensures
