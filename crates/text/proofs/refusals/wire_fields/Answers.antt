-- `text::refusals::wire_fields` meets its contract: each turn writes one wire more. Assumes nothing.
use mathlib.Core.Path.{refl}
use native.Mathlib.Omega.{arith}
use Rattle.lines.proofs.LineLaws.{lines_none, lines_more, lines_done}
use Rattle.text.proofs.refusals.wire_fields.Goals as goal

pub loop-i-init : goal.loop-i-init
loop-i-init c = lines_none 11 _ _

pub byte_field-requires : goal.byte_field-requires
byte_field-requires c = record { most_digits_bound = omega (arith, c.loop-i.invariant.wrote); i_in_bounds = omega arith }

pub loop-i-preserved : goal.loop-i-preserved
loop-i-preserved c = lines_more _ _ refl c.loop-i.invariant c.byte_field.ensures

pub returns : goal.returns
returns c = lines_done _ _ _ c.loop-i.auto.i-end c.loop-i-test.false c.loop-i.invariant
