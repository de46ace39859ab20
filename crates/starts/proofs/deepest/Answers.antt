-- `starts::deepest` meets its contract: before turn u it has the least of the first u totals. Assumes nothing.
use mathlib.Core.Path.{refl, ap, ◌∙◌}
use Rattle.times.specs.declared.Iterations.{Iterations}
use Rattle.times.proofs.OrderLaws.{lesser_is}
use Rattle.folding.specs.Walks.{deepest}
use Rattle.starts.proofs.ShiftLaws.{least_more}
use Rattle.starts.proofs.deepest.Goals as goal

pub loop-u-init : goal.loop-u-init
unfolding deepest
loop-u-init c = refl

pub loop-u-preserved : goal.loop-u-preserved
loop-u-preserved c =
    let l = c.loop-u in
    let s = c.args in
    least_more s.nodes l.u s.totals l.least c.min-least.result c.loop-u-test.true l.invariant (ap (λ (x : Iterations). x.0) c.min-least.ensures ∙ lesser_is l.least _)
