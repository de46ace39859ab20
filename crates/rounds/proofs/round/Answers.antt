-- `rounds::round` meets its contract: after e wires the totals are those of a round over these. Assumes nothing.
use mathlib.Core.Path.{refl, sym, ◌∙◌}
use Prim.Native.Nat.{◌<◌}
use native.Mathlib.Omega.{arith}
use lib.ListN.{length}
use Rattle.times.specs.Times.{iterations_at}
use Rattle.folding.specs.Walks.{better}
use Rattle.rounds.specs.NetOf.{net_of}
use Rattle.rounds.proofs.StepLaws.{reached_more, some_fell, none_fell}
use Rattle.rounds.proofs.round.Goals as goal
use Rattle.rounds.proofs.round.Goals.{then-is_some, else-is_some}

pub loop-e-init : goal.loop-e-init
unfolding better
loop-e-init c = rw c.requires.same (λ u. refl, λ u. refl)

pub loop-e-preserved : goal.loop-e-preserved
loop-e-preserved c =
    let n = c.args.net.now in
    let d = iterations_at c.args.former.now in
    let l = c.loop-e in
    let r = c.relax in
    let node = n.wired.leaves l.e c.loop-e-test.true in
    let long : (net_of n).from l.e < length r.new.totals = omega (arith, n.wired.few_nodes, r.array_long) in (
      reached_more (net_of n) d l.e l.totals r.new.totals r.result long r.ensures l.invariant.0,
      elim c.if-is_some.branch [
        | then-is_some w ↦ rw w.fell-is (some_fell (net_of n) d l.e l.totals r.new.totals n.nodes r.result (sym c.is_some.ensures ∙ w.if-is_some.true) node long r.ensures l.fell l.invariant.1)
        | else-is_some w ↦ rw (w.fell-is, none_fell (net_of n) d l.e l.totals r.new.totals r.result (sym c.is_some.ensures ∙ w.if-is_some.false) r.ensures) l.invariant.1
      ],
    )
