-- `sheets::held::HeldSheet::input` meets its contract: the wire names its node. Assumes nothing.
use mathlib.Core.Path.{subst⁻¹}
use Rattle.std.proofs.Common.{◌<◌, arith}
use Rattle.sheets.specs.declared.Wire.{Wire}
use Rattle.sheets.proofs.SheetLaws.{nodes_is, wires_is}
use Rattle.sheets.proofs.HeldLaws.{nodes_said, wires_said}
use Rattle.sheets.proofs.MaskedLaws.{wire_fit}
use Rattle.sheets.proofs.held.HeldSheet.input.Goals as goal

pub node-n-requires : goal.node-n-requires
node-n-requires c =
    let b = c.args.self.sheet.b.now in
    let w = c.args.self.held.whole in
    let f = wire_fit b c.args.self.sheet.head c.args.self.held c.args.e (omega (arith, c.requires, wires_is b, wires_said _ _ w)) in
    subst⁻¹ (λ (v : Wire). v.to < c.args.self.sheet.head.nodes) c.wire-w.ensures (omega (arith, f.meets, nodes_is b, nodes_said _ _ w))
