-- `waits::waits` meets its contract: the wait between the starts of each wire is its tap, and the longest so far is kept for its node and its
-- unit. Assumes nothing.
use mathlib.Core.Path.{◌≡◌, refl, ap, ◌∙◌}
use mathlib.Core.Bool.{cond}
use Prim.Native.Nat.{ℕ}
use native.Mathlib.Omega.{arith}
use borrow.Author.Rules.{rules}
use lib.Dec.{eqb}
use lib.ListN.{length, get_or, length-set, replicate}
use lib.IntN.{pos}
use Rattle.times.specs.declared.Cycles.{Cycles}
use Rattle.times.proofs.ArrayLaws.{filled_more, none_filled}
use Rattle.times.proofs.OrderLaws.{larger_is}
use Rattle.words.specs.Loops.{largest}
use Rattle.records.specs.declared.Node.{Node}
use Rattle.sheets.specs.declared.Wire.{Wire}
use Rattle.sheets.specs.Sheet.{sheet_of}
use Rattle.folding.specs.Walks.{start}
use Rattle.folding.specs.Folding.{net, tap}
use Rattle.waits.specs.Fine.{from_node, from_unit}
use Rattle.waits.proofs.FineLaws.{wires_so}
use Rattle.waits.proofs.WaitSizes.{start_near, wait_is_tap}
use Rattle.waits.proofs.LongestLaws.{longest_none, longest_more}
use Rattle.waits.proofs.waits.Goals as goal

pub loop-e-init : goal.loop-e-init
loop-e-init c =
    let b = c.args.sheet.now.b.now in
    let zero : Cycles = record { 0 = pos 0 } in
    let taps = tap (sheet_of b) (start (net (sheet_of b))) in (
      search rules,
      (λ k h. absurd (omega arith)),
      refl,
      longest_none (from_node b) taps 48 (replicate 48 zero) (none_filled (λ (x : Cycles). x.0) zero refl zero refl 48),
      refl,
      longest_none (from_unit b) taps 8 (replicate 8 zero) (none_filled (λ (x : Cycles). x.0) zero refl zero refl 8),
    )

pub wait_of-wait-requires-clause-near : goal.wait_of-wait-requires-clause-near
wait_of-wait-requires-clause-near c =
    let s = c.args.sheet.now in
    let near = start_near s.b.now s.head s.fine c.args.starts c.requires in
    (near _ (omega arith), near _ (omega arith))

pub loop-e-preserved : goal.loop-e-preserved
loop-e-preserved c =
    let s = c.args.sheet.now in
    let b = s.b.now in
    let l = c.loop-e in
    let wire = c.wire-wire.ensures in
    let node = c.node.ensures in
    let wait = c.wait_of-wait in
    let taps = tap (sheet_of b) (start (net (sheet_of b))) in
    let zero : Cycles = record { 0 = pos 0 } in
    let grows = ap (λ (x : Cycles). x.0) c.max.ensures ∙ larger_is (get_or l.waited.longest c.from-from.result zero) wait.result in
    let line = ap (λ (x : Cycles). x.0) c.max-in-loop-e.ensures ∙ larger_is (get_or l.waited.lines c.from-unit.result zero) wait.result in
    let from : c.from-from.result ≡ from_node b l.e = c.from-from.ensures ∙ ap (λ (w : Wire). w.from) wire.is in
    let unit : c.from-unit.result ≡ from_unit b l.e = c.from-unit.ensures ∙ ap (λ (n : Node). n.unit) (rw from at node.is) in
    let is : wait.result.0 ≡ pos (taps l.e) = wait.ensures ∙ rw (c.from-to.ensures, c.from-from.ensures, wire.is) (wait_is_tap b s.head s.fine c.args.starts c.requires l.e (omega arith)) in (
      simp length-set l.invariant.0,
      filled_more (λ (x : Cycles). x.0) zero (λ k. pos (taps k)) l.e l.waited.waits wait.result (omega arith) l.invariant.1 is,
      simp length-set l.invariant.2,
      rw from (longest_more l.e (from_node b) taps 48 l.waited.longest l.invariant.2 l.invariant.3 (omega arith)
          (get_or l.waited.longest (from_node b l.e) zero) c.max.result wait.result refl is (rw from at grows)),
      simp length-set l.invariant.4,
      rw unit (longest_more l.e (from_unit b) taps 8 l.waited.lines l.invariant.4 l.invariant.5 (omega arith)
          (get_or l.waited.lines (from_unit b l.e) zero) c.max-in-loop-e.result wait.result refl is (rw unit at line)),
    )

pub returns : goal.returns
returns c =
    let l = c.loop-e in
    let s = c.args.sheet.now in
    let b = s.b.now in
    let all : l.e ≡ length (sheet_of b).wires = omega (arith, wires_so b s.head s.fine) in
    record {
      tapped = λ e h. l.invariant.1 e (omega (arith, h));
      longest = λ k h. l.invariant.3 k h ∙ ap (λ (n : ℕ). pos (largest n (λ e. cond (eqb (from_node b e) k) (tap (sheet_of b) (start (net (sheet_of b))) e) 0))) all;
      lines = λ k h. l.invariant.5 k h ∙ ap (λ (n : ℕ). pos (largest n (λ e. cond (eqb (from_unit b e) k) (tap (sheet_of b) (start (net (sheet_of b))) e) 0))) all;
    }
