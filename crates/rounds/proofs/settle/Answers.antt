-- `rounds::settle` meets its contract: after k rounds the totals are those of round k, and no round before it is settled. Assumes
-- nothing.
use mathlib.Core.Path.{refl, sym, ◌∙◌, subst}
use Prim.Native.Nat.{◌-◌}
use native.Mathlib.Numerals.{add-one}
use native.Mathlib.Omega.{arith}
use borrow.Author.Count.{below_more}
use lib.IntN.{pos}
use Rattle.times.specs.declared.Iterations.{Iterations}
use Rattle.times.proofs.ArrayLaws.{none_filled}
use Rattle.times.specs.Times.{iterations_at}
use Rattle.records.specs.Records.{most_nodes}
use Rattle.folding.proofs.RoundLaws.{round_zero}
use Rattle.rounds.specs.Rounds.{Fell}
use Rattle.rounds.specs.NetOf.{net_of}
use Rattle.rounds.proofs.RowLaws.{sum_fits, rounded_more, stays_settled, falls_unsettled, settled_answer, unsettled_answer}
use Rattle.rounds.proofs.settle.Goals as goal

pub loop-k-init : goal.loop-k-init
loop-k-init c =
    (λ u h. none_filled (λ (x : Iterations). x.0) (record { 0 = pos 0 }) refl _ refl most_nodes u ∙ sym (round_zero (net_of c.args.net.now) u h), λ j h. absurd (omega arith))

pub round-requires-clause-sums : goal.round-requires-clause-sums
round-requires-clause-sums c =
    let n = c.args.net.now in
    sum_fits n.bounds n.wired c.loop-k.k c.loop-k.totals c.loop-k.invariant.0 (omega arith) n.moderate

pub returns-then-not-round : goal.returns-then-not-round
returns-then-not-round c =
    let n = c.args.net.now in
    let l = c.loop-k in
    let t = c.round.new.totals in
    let same = subst (Fell n.nodes (iterations_at l.totals) t) c.if-not-round.true c.round.ensures.fell in
    settled_answer n.bounds n.wired l.k t (λ u h. same u ∙ l.invariant.0 u h) c.loop-k-test.true l.invariant.1
    (stays_settled n.bounds n.wired l.k l.totals l.invariant.0 t c.round.ensures.reached same)

pub loop-k-preserved : goal.loop-k-preserved
loop-k-preserved c =
    let n = c.args.net.now in
    let l = c.loop-k in
    let t = c.round.new.totals in
    let fell = subst (Fell n.nodes (iterations_at l.totals) t) c.if-not-round.false c.round.ensures.fell in (
      rw (add-one l.k) (rounded_more n.bounds n.wired l.k l.totals l.invariant.0 t c.round.ensures.reached),
      below_more _ _ l.invariant.1 (falls_unsettled n.bounds n.wired l.k l.totals l.invariant.0 t c.round.ensures.reached fell),
    )

pub returns : goal.returns
returns c =
    let n = c.args.net.now in
    unsettled_answer n.bounds n.wired (c.loop-k.invariant.1 (n.nodes - 1) (omega (arith, n.wired.some_node)))
