-- `sheets::whole::WholeSheet::fits` meets its contract: the node is looked up only where it is one. Assumes nothing.
use mathlib.Core.Path.{◌≡◌, sym, ap, ◌∙◌}
use native.Mathlib.Omega.{arith}
use lib.ListN.{length}
use Rattle.records.specs.declared.Node.{Node}
use Rattle.records.specs.Units.{inputs, inputs_of}
use Rattle.sheets.specs.Sheet.{sheet_of}
use Rattle.sheets.proofs.SheetLaws.{nodes_is}
use Rattle.sheets.proofs.HeldLaws.{nodes_said}
use Rattle.sheets.proofs.WireLaws.{wire_off, wire_on}
use Rattle.sheets.proofs.whole.WholeSheet.fits.Goals as goal
use Rattle.sheets.proofs.whole.WholeSheet.fits.Goals.{Start}

counted : (c : Start) → c.args.self.head.nodes ≡ length (sheet_of c.args.self.b.now).nodes
counted c = nodes_said _ _ c.args.self.whole ∙ sym (nodes_is c.args.self.b.now)

pub returns-then-self-w : goal.returns-then-self-w
returns-then-self-w c =
    let m = counted (goal.at.returns-then-self-w c).Start in
    sym (wire_off (sheet_of c.args.self.b.now) c.args.w (omega (arith, c.if-self-w.true)))

pub returns : goal.returns
returns c =
    let m = counted (goal.at.returns c).Start in
    let has = c.inputs.ensures ∙ ap inputs c.kind_of.ensures ∙ ap (λ (x : Node). inputs_of x.op) c.node-n.ensures in
    simp (has, m) (sym (wire_on (sheet_of c.args.self.b.now) c.args.w (omega (arith, c.if-self-w.false))))
