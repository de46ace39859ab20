-- `sheets::held::HeldSheet::judge_nodes` meets its contract: clashes by the masks of slots, then inputs by the masks of inputs. Assumes nothing.
use Rattle.std.proofs.Common.{sym, ◌∙◌}
use Rattle.records.specs.Answers.{reason_of}
use Rattle.sheets.proofs.FeedLaws.{clash_counted, fed_by_masks}
use Rattle.sheets.proofs.held.HeldSheet.judge_nodes.Goals as goal

pub returns-then-slots : goal.returns-then-slots
unfolding reason_of
returns-then-slots c = simp (clash_counted c.args.self.sheet.b.now c.args.self.sheet.head c.args.self.held c.slots-slots.result c.slots-slots.ensures ∙ c.if-slots.true)

pub returns-then-not-once : goal.returns-then-not-once
unfolding reason_of
returns-then-not-once c =
    let b = c.args.self.sheet.b.now in
    let none = clash_counted b c.args.self.sheet.head c.args.self.held c.slots-slots.result c.slots-slots.ensures ∙ c.if-slots.false in
    let once = fed_by_masks b c.args.self.sheet.head c.args.self.held none c.slots-slots.result c.fed-fed.result c.unit_run.result c.unit_run.ensures c.slots-slots.ensures c.fed-fed.ensures in
    simp (none, sym once ∙ sym c.once.ensures ∙ c.if-not-once.true)

pub returns : goal.returns
returns c =
    let b = c.args.self.sheet.b.now in
    let none = clash_counted b c.args.self.sheet.head c.args.self.held c.slots-slots.result c.slots-slots.ensures ∙ c.if-slots.false in
    let once = fed_by_masks b c.args.self.sheet.head c.args.self.held none c.slots-slots.result c.fed-fed.result c.unit_run.result c.unit_run.ensures c.slots-slots.ensures c.fed-fed.ensures in
    simp (none, sym once ∙ sym c.once.ensures ∙ c.if-not-once.false)
