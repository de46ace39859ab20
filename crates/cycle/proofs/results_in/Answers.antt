-- `cycle::results_in` meets its contract: what each node of the slot gives goes to its unit. Assumes nothing.
use Prim.Native.Nat.{ℕ, ◌+◌, ◌%◌, ◌<◌}
use mathlib.Core.Path.{◌≡◌, refl, sym, ap, ◌∙◌, subst}
use mathlib.Core.Bool.{true}
use native.Mathlib.Omega.{arith}
use lib.ListN.{length, set, length-set, get_or-replicate}
use Rattle.records.specs.declared.Node.{Node}
use Rattle.records.specs.Units.{k_fits}
use Rattle.plans.specs.Plan.{node_in, plan_read}
use Rattle.inputs.specs.Inputs.{last_of, Gathered}
use Rattle.cycle.specs.Given.{node_in_slot, node_unit, given}
use Rattle.inputs.proofs.InputLaws.{gathered_in, gathered_past}
use Rattle.cycle.proofs.GivenLaws.{turns, k_taken, unit_few, slot_so, given_is}
use Rattle.cycle.proofs.results_in.Goals as goal
use Rattle.cycle.proofs.results_in.Goals.{then-n-slot, else-n-slot}

pub slot_at-slot-requires : goal.slot_at-slot-requires
slot_at-slot-requires c = turns c.args.plan.now.b.now c.args.plan.now.head c.args.plan.now.taken

pub loop-x-init : goal.loop-x-init
unfolding last_of
loop-x-init c = (refl, λ k h. get_or-replicate 8 k 0 0 h)

pub bounds-words-first : goal.bounds-words-first
bounds-words-first c =
    let n = c.node_of-n in
    omega (arith, unit_few c.args.plan.now.b.now c.args.plan.now.head c.args.plan.now.taken c.loop-x.x (omega arith) n.result n.ensures)

pub bounds-words-first-then-n-slot : goal.bounds-words-first-then-n-slot
bounds-words-first-then-n-slot c =
    let n = c.node_of-n in
    omega (arith, unit_few c.args.plan.now.b.now c.args.plan.now.head c.args.plan.now.taken c.loop-x.x (omega arith) n.result n.ensures)

pub sample_of-requires : goal.sample_of-requires
sample_of-requires c =
    let n = c.node_of-n in
    record { channels_in_bounds = c.requires; k_value = subst (λ (n : Node). k_fits n.op n.k ≡ true) (sym n.ensures) (k_taken c.args.plan.now.b.now c.args.plan.now.head c.args.plan.now.taken c.loop-x.x (omega arith)) }

pub bounds-results-q : goal.bounds-results-q
bounds-results-q c =
    let n = c.node_of-n in
    omega (arith, unit_few c.args.plan.now.b.now c.args.plan.now.head c.args.plan.now.taken c.loop-x.x (omega arith) n.result n.ensures)

pub loop-x-preserved : goal.loop-x-preserved
loop-x-preserved c =
    let l = c.loop-x in
    let n = c.node_of-n in
    let pl = plan_read c.args.plan.now.b.now in
    let chosen = node_in_slot pl (c.args.t % pl.fold) in
    let brings = given pl c.args.t c.args.samples.now c.args.words in
    let more : l.x < c.args.plan.now.head.nodes = omega arith in
    let slot = slot_so c.args.plan.now.b.now c.args.plan.now.head c.args.plan.now.taken l.x c.args.t c.slot_at-slot.result n.result n.ensures c.slot_at-slot.ensures in
    elim c.if-n-slot.branch [
      | then-n-slot w ↦
          let on = ap (λ (n : Node). n.unit) n.ensures in
          let few : node_unit pl l.x < 8 = unit_few c.args.plan.now.b.now c.args.plan.now.head c.args.plan.now.taken l.x more (node_in pl l.x).node refl in
          let is = given_is c.args.plan.now.b.now c.args.plan.now.head c.args.plan.now.taken l.x c.args.t c.args.samples.now c.args.words n.result w.sample_of.result w.begun_by.result n.ensures w.sample_of.ensures w.begun_by.ensures in
          let next = gathered_in chosen (node_unit pl) brings 8 l.x l.results l.invariant.1 l.invariant.0 (slot.0 w.if-n-slot.true) few w.begun_by.result is in
          let now_is = w.results-is ∙ ap (λ (k : ℕ). set l.results k w.begun_by.result) on in
          (ap length now_is ∙ simp length-set l.invariant.0, subst (Gathered (l.x + 1) chosen (node_unit pl) brings 8) (sym now_is) next)
      | else-n-slot w ↦
          let next = gathered_past chosen (node_unit pl) brings 8 l.x l.results l.invariant.1 (slot.1 w.if-n-slot.false) in
          (ap length w.results-is ∙ l.invariant.0, subst (Gathered (l.x + 1) chosen (node_unit pl) brings 8) (sym w.results-is) next)
    ]
