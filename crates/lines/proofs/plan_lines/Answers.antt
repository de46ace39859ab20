-- `lines::plan_lines` meets its contract: the header's line, then each sort of record. Assumes nothing.
use Prim.Native.Nat.{◌+◌, ◌*◌}
use borrow.Author.Rules.{rules}
use native.Mathlib.Omega.{arith}
use Rattle.numerals.proofs.WrittenLaws.{written_then, written_within, written_out}
use Rattle.lines.proofs.LineLaws.{text_so}
use Rattle.lines.proofs.plan_lines.Goals as goal

pub returns : goal.returns
returns c =
    let lines = written_then c.head_line.ensures (written_then c.unit_lines.ensures (written_then c.node_lines.ensures c.switch_lines.ensures)) in
    let p = c.args.plan.now in
    let all = written_within (128 * (1 + p.head.units + p.head.nodes + p.head.wires)) (omega arith) (rw (text_so _ _ p.whole) at lines) in
    written_out c.new-text.ensures.begins (search rules) all
