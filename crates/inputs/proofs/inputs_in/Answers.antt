-- `inputs::inputs_in` meets its contract: what each switch of the slot reads goes to its input. Assumes nothing.
use native.Mathlib.Omega.{arith}
use Prim.Native.Nat.{ℕ, ◌+◌, ◌*◌, ◌<◌}
use mathlib.Core.Path.{◌≡◌, refl, sym, ap, ◌∙◌, subst}
use mathlib.Core.Bool.{true, false}
use lib.ListN.{length, set, length-set, get_or-replicate}
use borrow.Author.Tests.{eq-eqb, ne_eqb}
use mathlib.Core.List.{List}
use Rattle.records.specs.Records.{wire_place}
use Rattle.plans.specs.Heads.{joint_at}
use Rattle.inputs.proofs.InputLaws.{gathered_in, gathered_past, joint_so}
use Rattle.plans.specs.Plan.{switch_in, plan_format, plan_read}
use Rattle.inputs.specs.Inputs.{last_of, Gathered, in_slot, input_place, tapped}
use Rattle.inputs.proofs.inputs_in.Goals as goal
use Rattle.inputs.proofs.inputs_in.Goals.{After-joint-joint, then-joint-slot, else-joint-slot}

pub loop-e-init : goal.loop-e-init
unfolding last_of
loop-e-init c = (refl, λ k h. get_or-replicate 16 k 0 0 h)

pub joint-joint-requires : goal.joint-joint-requires
joint-joint-requires c = let more : c.loop-e.e < c.args.lines.now.plan.head.wires = omega arith in rw c.whole-plan.ensures.1 more

pub tapped-requires : goal.tapped-requires
tapped-requires c = record { e_lt_wires = omega arith; room = c.requires }

-- what the switch joins
joined : (c : After-joint-joint) →
    let pl = plan_read c.args.lines.now.plan.b.now in
    let j = c.joint-joint.result in
    (j.slot ≡ (switch_in pl c.loop-e.e).slot) × (2 * j.unit + j.input ≡ input_place pl c.loop-e.e) × (input_place pl c.loop-e.e < 16)
joined c =
    let p = c.args.lines.now.plan in
    joint_so p.b.now p.head p.taken c.loop-e.e (omega arith) c.joint-joint.result (c.joint-joint.ensures ∙ ap (λ (b : List ℕ). joint_at b (wire_place plan_format b c.loop-e.e)) c.whole-plan.ensures.0)

pub bounds-words-k : goal.bounds-words-k
bounds-words-k c = let j = joined (goal.at.bounds-words-k c).After-joint-joint in omega (arith, j.1, j.2)

pub loop-e-preserved : goal.loop-e-preserved
loop-e-preserved c =
    let l = c.loop-e in
    let pl = plan_read c.args.lines.now.plan.b.now in
    let reads = tapped pl c.args.memory.now in
    let j = joined (goal.at.loop-e-preserved c).After-joint-joint in
    elim c.if-joint-slot.branch [
      | then-joint-slot w ↦
          let here : in_slot pl c.args.slot l.e ≡ true = eq-eqb _ _ (sym j.0 ∙ w.if-joint-slot.true) in
          let next = gathered_in (in_slot pl c.args.slot) (input_place pl) reads 16 l.e l.words l.invariant.1 l.invariant.0 here j.2 w.tapped.result w.tapped.ensures in
          let is = w.words-is ∙ ap (λ (k : ℕ). set l.words k w.tapped.result) j.1 in
          (ap length is ∙ simp length-set l.invariant.0, subst (Gathered (l.e + 1) (in_slot pl c.args.slot) (input_place pl) reads 16) (sym is) next)
      | else-joint-slot w ↦
          let past : in_slot pl c.args.slot l.e ≡ false = ne_eqb _ _ (λ same. w.if-joint-slot.false (j.0 ∙ same)) in
          let next = gathered_past (in_slot pl c.args.slot) (input_place pl) reads 16 l.e l.words l.invariant.1 past in
          (ap length w.words-is ∙ l.invariant.0, subst (Gathered (l.e + 1) (in_slot pl c.args.slot) (input_place pl) reads 16) (sym w.words-is) next)
    ]
