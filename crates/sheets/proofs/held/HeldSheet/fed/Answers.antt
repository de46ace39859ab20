-- `sheets::held::HeldSheet::fed` meets its contract: the masks hold the inputs that the wires passed feed. Assumes nothing.
use mathlib.Core.Path.{subst⁻¹}
use Rattle.std.proofs.Common.{◌≡◌, arith}
use Rattle.slots.specs.Feeding.{InputMasked}
use Rattle.slots.proofs.FeedingLaws.{feeding_none, feeding_more, feeding_fed}
use Rattle.sheets.proofs.SheetLaws.{wires_is}
use Rattle.sheets.proofs.HeldLaws.{wires_said}
use Rattle.sheets.proofs.MaskedLaws.{input_masked}
use Rattle.sheets.proofs.held.HeldSheet.fed.Goals as goal

pub loop-e-init : goal.loop-e-init
loop-e-init c = rw c.none-fed.ensures (feeding_none _)

pub feed-requires : goal.feed-requires
feed-requires c =
    let b = c.args.self.sheet.b.now in
    subst⁻¹ InputMasked c.input.ensures
    (input_masked b c.args.self.sheet.head c.args.self.held c.loop-e.e (omega (arith, c.loop-e-test.true, wires_is b, wires_said _ _ c.args.self.held.whole)))

pub loop-e-preserved : goal.loop-e-preserved
loop-e-preserved c =
    let b = c.args.self.sheet.b.now in
    let m = input_masked b c.args.self.sheet.head c.args.self.held c.loop-e.e (omega (arith, c.loop-e-test.true, wires_is b, wires_said _ _ c.args.self.held.whole)) in
    rw (c.feed.ensures, c.input.ensures) (feeding_more _ c.loop-e.e c.loop-e.fed c.loop-e.invariant m)

pub returns : goal.returns
returns c =
    let b = c.args.self.sheet.b.now in
    let e : c.loop-e.e ≡ c.args.self.sheet.head.wires = omega arith in
    feeding_fed _ _ _ (λ i k. input_masked b c.args.self.sheet.head c.args.self.held i (omega (arith, wires_is b, wires_said _ _ c.args.self.held.whole))) (rw e at c.loop-e.invariant)
