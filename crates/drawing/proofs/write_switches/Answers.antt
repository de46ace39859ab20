-- `drawing::write_switches` meets its contract: each turn lays one switch behind the last. Assumes nothing.
use mathlib.Core.Path.{refl}
use native.Mathlib.Omega.{arith}
use lib.IntN.{nat_abs}
use Rattle.times.specs.Times.{cycles_at}
use Rattle.words.proofs.Ints.{from_pos}
use Rattle.sheets.specs.Sheet.{sheet_of}
use Rattle.plans.specs.Plan.{switch_bytes}
use Rattle.waits.proofs.FineLaws.{wires_so}
use Rattle.writing.proofs.RecordLaws.{laid_none, laid_more}
use Rattle.drawing.specs.PlanOf.{plan_switch}
use Rattle.drawing.specs.Laying.{starts_in}
use Rattle.drawing.proofs.write_switches.Goals as goal

pub loop-e-init : goal.loop-e-init
loop-e-init c =
    let b = c.args.sheet.now.b.now in
    laid_none switch_bytes 8 (λ a. refl) (plan_switch (sheet_of b) (starts_in b)) c.args.out.now c.args.at

pub write_switch-requires-clause-pos_bound : goal.write_switch-requires-clause-pos_bound
write_switch-requires-clause-pos_bound c =
    let s = c.args.sheet.now in
    from_pos _ (c.requires.tapped c.loop-e.e (omega (arith, wires_so s.b.now s.head s.fine)))

pub loop-e-preserved : goal.loop-e-preserved
loop-e-preserved c =
    let s = c.args.sheet.now in
    let b = s.b.now in
    let l = c.loop-e in
    let joint = c.joint_of-joint in
    let tapped = c.requires.tapped l.e (omega (arith, wires_so b s.head s.fine)) in
    laid_more switch_bytes 8 (λ a. refl) (plan_switch (sheet_of b) (starts_in b)) c.args.out.now c.args.at l.e l.out c.write_switch.new.out
    (record { unit = joint.result.unit; input = joint.result.input; slot = joint.result.slot; source = joint.result.source; tap = nat_abs (cycles_at c.args.waited.now.waits l.e) })
    l.invariant (rw (joint.ensures, tapped) refl) c.write_switch.ensures
