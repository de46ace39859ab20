-- `cycle::results` meets its contract: one node runs in each slot and one switch feeds each input. Assumes nothing.
use Prim.Native.Nat.{ℕ, ◌%◌}
use mathlib.Core.Path.{ap, ◌∙◌, subst}
use native.Mathlib.Omega.{arith}
use Rattle.records.specs.Records.{at}
use Rattle.plans.specs.Plan.{plan_read}
use Rattle.memory.specs.Memory.{size}
use Rattle.inputs.specs.Inputs.{Gathered, in_slot, input_place, tapped}
use Rattle.plans.proofs.WholeLaws.{folds_so}
use Rattle.memory.proofs.TakenLaws.{whole_taken}
use Rattle.cycle.proofs.GivenLaws.{turns}
use Rattle.cycle.proofs.ResultLaws.{results_so}
use Rattle.cycle.proofs.results.Goals as goal

pub bounds-memory-0 : goal.bounds-memory-0
unfolding size
bounds-memory-0 c = omega (arith, c.requires.room, c.args.lines.now.long)

pub slot_at-requires : goal.slot_at-requires
slot_at-requires c = let p = c.args.lines.now.plan in turns p.b.now p.head p.taken

pub returns : goal.returns
returns c =
    let p = c.args.lines.now.plan in
    let m = c.args.memory.now in
    let pl = plan_read p.b.now in
    let words = c.inputs_in-words in
    let turn = c.slot_at.ensures ∙ ap (λ (n : ℕ). at m 0 % n) (folds_so p.b.now p.head (whole_taken p.taken)) in
    results_so p.b.now p.head p.taken m c.args.samples.now words.result c.results_in.result
    (subst (λ (v : ℕ). Gathered p.head.wires (in_slot pl v) (input_place pl) (tapped pl m) 16 words.result) turn words.ensures) c.results_in.ensures
