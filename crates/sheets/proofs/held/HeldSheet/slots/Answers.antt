-- `sheets::held::HeldSheet::slots` meets its contract: the nodes of the sheet are those of the run. Assumes nothing.
use mathlib.Core.Path.{ap, subst, subst⁻¹}
use Prim.Native.Nat.{ℕ, ◌<◌}
use native.Mathlib.Omega.{arith}
use Rattle.records.specs.declared.reading.Run.{Run}
use Rattle.records.specs.Answers.{nodes_in_run}
use Rattle.slots.specs.Slots.{Masked, SlotsOf}
use Rattle.slots.proofs.SlotLaws.{slots_same}
use Rattle.sheets.proofs.SheetLaws.{nodes_is}
use Rattle.sheets.proofs.HeldLaws.{nodes_said, node_room, node_got}
use Rattle.sheets.proofs.MaskedLaws.{node_masked}
use Rattle.sheets.proofs.held.HeldSheet.slots.Goals as goal

pub slots_in-requires : goal.slots_in-requires
slots_in-requires c =
    let b = c.args.self.sheet.b.now in
    let w = c.args.self.held.whole in
    let r = c.node_run.result in
    let n = ap (λ (r : Run). r.count) c.node_run.ensures in record {
      inside = node_room _ _ w r c.node_run.ensures;
      by_index = λ x l. let k : x < c.args.self.sheet.head.nodes = omega arith in
          subst⁻¹ Masked (node_got _ _ w r c.node_run.ensures x k) (node_masked b c.args.self.sheet.head c.args.self.held x (omega (arith, nodes_is b, nodes_said _ _ w)));
    }

pub returns : goal.returns
returns c =
    let r = c.node_run.result in
    let n = ap (λ (r : Run). r.count) c.node_run.ensures in
    let got = subst (λ (k : ℕ). SlotsOf k (nodes_in_run c.args.self.sheet.b.now r) c.slots_in.result) n c.slots_in.ensures in
    slots_same _ _ _ _ (λ x l. node_got _ _ c.args.self.held.whole r c.node_run.ensures x l) got
