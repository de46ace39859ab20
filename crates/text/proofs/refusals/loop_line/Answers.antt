-- `text::refusals::loop_line` meets its contract: the number, the word, the wires and the line feed. Assumes nothing.
use borrow.Author.Rules.{rules}
use native.Mathlib.Omega.{arith}
use Rattle.numerals.proofs.WrittenLaws.{written_then, written_within, written_out}
use Rattle.lines.specs.Text.{loop_text}
use Rattle.text.specs.Texting.{longest}
use Rattle.text.proofs.LoopLaws.{loop_so, wires_so}
use Rattle.text.proofs.refusals.loop_line.Goals as goal

pub wire_fields-requires : goal.wire_fields-requires
wire_fields-requires c =
    let h = loop_so c.args.b.now c.requires in record { count_in_bounds = h.0; count_bound = omega (arith, h.1, c.new-text.ensures.begins.1, c.word.ensures.wrote.next_is, c.field.ensures.wrote) }

pub line_feed-requires : goal.line_feed-requires
line_feed-requires c =
    let h = loop_so c.args.b.now c.requires in omega (arith, h.1, c.new-text.ensures.begins.1, c.wire_fields.ensures.wrote, c.word.ensures.wrote, c.field.ensures.wrote)

pub returns : goal.returns
unfolding loop_text
returns c =
    let h = loop_so c.args.b.now c.requires in
    let line = written_then c.field.ensures (written_then c.word.ensures (written_then c.wire_fields.ensures c.line_feed.ensures)) in
    written_out c.new-text.ensures.begins (search rules) (written_within longest (omega (arith, h.1)) (rw (wires_so c.args.b.now) at line))
