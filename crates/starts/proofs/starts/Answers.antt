-- `starts::starts` meets its contract: before turn u the starts of the first u nodes are made. Assumes nothing.
use mathlib.Core.Path.{◌≡◌, ◌∙◌}
use native.Mathlib.Omega.{arith}
use lib.ListN.{length-set}
use lib.IntN.{◌-ℤ◌, pos}
use Rattle.times.specs.declared.Iterations.{Iterations}
use Rattle.times.specs.Times.{iterations_at}
use Rattle.rounds.specs.Rounds.{row_of}
use Rattle.starts.specs.Starts.{shifted}
use Rattle.starts.proofs.ShiftLaws.{shift_at}
use Rattle.times.proofs.ArrayLaws.{filled_more}
use Rattle.starts.proofs.starts.Goals as goal
use Rattle.starts.proofs.starts.Goals.{In-loop-u}

at_u : (c : In-loop-u) →
    let s = c.args in
    let u = c.loop-u.u in
    iterations_at s.totals u -ℤ c.deepest-least.result.0 ≡ shifted (row_of s.nodes s.totals) s.nodes u
at_u c =
    let s = c.args in
    shift_at s.nodes c.loop-u.u s.totals _ c.loop-u-test.true c.deepest-least.ensures

pub sub-requires : goal.sub-requires
sub-requires c = rw (at_u (goal.at.sub-requires c).In-loop-u) (c.requires.by_index _ c.loop-u-test.true)

pub loop-u-preserved : goal.loop-u-preserved
loop-u-preserved c =
    let l = c.loop-u in
    let s = c.args in
    let long = l.invariant.0 in
    (simp length-set long, filled_more (λ (x : Iterations). x.0) (record { 0 = pos 0 }) (shifted (row_of s.nodes s.totals) s.nodes) l.u l.starts c.sub.result (omega arith) l.invariant.1 (c.sub.ensures ∙ at_u (goal.at.loop-u-preserved c).In-loop-u))
