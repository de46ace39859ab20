-- `falls::keep` meets its contract: after k rounds the totals are those of round k, and each node that fell with one has its choice.
-- Assumes nothing.
use mathlib.Core.Path.{◌≡◌, refl, sym, ◌∙◌}
use Prim.Native.Nat.{◌-◌}
use native.Mathlib.Numerals.{add-one}
use native.Mathlib.Omega.{arith}
use lib.IntN.{pos}
use Rattle.times.specs.declared.Iterations.{Iterations}
use Rattle.times.proofs.ArrayLaws.{none_filled}
use Rattle.records.specs.Records.{most_nodes}
use Rattle.folding.specs.Walks.{foldable}
use Rattle.folding.proofs.RoundLaws.{round_zero}
use Rattle.rounds.specs.NetOf.{net_of}
use Rattle.rounds.proofs.RowLaws.{sum_fits, rounded_more}
use Rattle.falls.proofs.KeepLaws.{chosen_kept, chosen_more, last_fell}
use Rattle.falls.proofs.keep.Goals as goal

pub loop-k-init : goal.loop-k-init
loop-k-init c = (
  (λ u h. none_filled (λ (x : Iterations). x.0) (record { 0 = pos 0 }) refl _ refl most_nodes u ∙ sym (round_zero (net_of c.args.net.now) u h)),
  (λ j u h. absurd (omega arith)),
  (λ j h. absurd (omega arith)),
)

pub choose-fell-requires-clause-sums : goal.choose-fell-requires-clause-sums
choose-fell-requires-clause-sums c =
    let n = c.args.net.now in
    sum_fits n.bounds n.wired c.loop-k.k c.loop-k.totals c.loop-k.invariant.0 (omega arith) n.moderate

pub loop-k-preserved : goal.loop-k-preserved
loop-k-preserved c =
    let n = c.args.net.now in
    let l = c.loop-k in
    let r = c.choose-fell in
    let t = r.new.totals in
    let e = r.ensures in (
      rw (add-one l.k) (rounded_more n.bounds n.wired l.k l.totals l.invariant.0 t e.reached),
      rw (add-one l.k)
          (chosen_more n.bounds n.wired l.k l.totals t r.new.choices r.result l.invariant.0 e.reached e.picking
          (chosen_kept (net_of n) l.k l.choices r.new.choices n.wired.few_nodes e.before l.invariant.1)),
      (λ j h z. let same : j ≡ l.k = omega arith in
          rw same (last_fell n.bounds n.wired l.k l.totals t r.new.choices r.result l.invariant.0 e.reached e.picking (rw same at z))),
    )

pub returns : goal.returns
unfolding foldable
returns c =
    let l = c.loop-k in
    let n = c.args.net.now in
    let all : l.k ≡ n.nodes = omega (arith, l.auto.k-end, c.loop-k-test.false) in
    let last = l.invariant.2 (n.nodes - 1) (omega (arith, n.wired.some_node)) c.requires.does_not_fold in
    record { node = last.0; falls = last.1; chosen = λ k u h hu fall. l.invariant.1 k u (omega arith) hu fall }
