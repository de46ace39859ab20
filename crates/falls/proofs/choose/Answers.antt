-- `falls::choose` meets its contract: after e wires each node that fell has its choice. Assumes nothing.
use mathlib.Core.Path.{refl, ◌∙◌}
use Prim.Native.Nat.{◌+◌, ◌*◌, ◌<◌}
use native.Mathlib.Omega.{arith}
use lib.ListN.{length}
use lib.Seq.{get_or-set_other}
use Rattle.times.specs.Times.{iterations_at}
use Rattle.records.specs.Records.{most_nodes}
use Rattle.folding.specs.Walks.{better}
use Rattle.rounds.specs.NetOf.{net_of}
use Rattle.rounds.proofs.StepLaws.{reached_more}
use Rattle.falls.proofs.KeepLaws.{picking_none, picking_more}
use Rattle.falls.proofs.choose.Goals as goal
use Rattle.falls.proofs.choose.Goals.{in-Some, in_default}

pub loop-e-init : goal.loop-e-init
unfolding better
loop-e-init c =
    let s = c.args in
    rw c.requires.same (λ u. refl, picking_none (net_of s.net.now) s.k s.former.now s.choices.now 0, λ i h. refl)

pub loop-e-preserved : goal.loop-e-preserved
loop-e-preserved c =
    let n = c.args.net.now in
    let g = net_of n in
    let d = iterations_at c.args.former.now in
    let l = c.loop-e in
    let r = c.relax in
    let node = n.wired.leaves l.e c.loop-e-test.true in
    let long : g.from l.e < length r.new.totals = omega (arith, n.wired.few_nodes, r.array_long) in
    let reached = reached_more g d l.e l.totals r.new.totals r.result long r.ensures l.invariant.0 in
    elim c.match-relax.branch [
      | in-Some w ↦
          let u = w.in-Some.u in
          let more = w.in-Some.ensures in
          let place : u < most_nodes = omega (arith, more.0, n.wired.few_nodes) in
          rw (w.choices-is, w.fell-is) (
            reached,
            picking_more g d c.args.k l.e u l.totals r.new.totals l.choices l.fell node c.loop-e-test.true more long (omega (arith, c.requires.room)) l.invariant.1,
            (λ i h. get_or-set_other l.choices (most_nodes * c.args.k + u) i l.e 0 (λ z. omega arith) ∙ l.invariant.2 i h),
          )
      | in_default w ↦ rw (w.choices-is, w.fell-is) (reached, rw w.in_default.ensures.0 l.invariant.1, l.invariant.2)
    ]
