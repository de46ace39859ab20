-- `lines::switch_lines` meets its contract: what its loop keeps.
use Rattle.std.proofs.Common.{◌*◌}
use Rattle.plans.specs.Plan.{plan_read}
use Rattle.words.specs.Loops.{joined}
use Rattle.lines.specs.Text.{switch_lines, line_most}
use Rattle.numerals.specs.Written.{Written}
use Rattle.lines.proofs.switch_lines.Given as goal

abbrev pub invariant-loop-i : goal.invariant-loop-i
invariant-loop-i l = Written (line_most * l.i) l.initial.text (joined l.i (switch_lines (plan_read l.plan.b.now))) l.text
