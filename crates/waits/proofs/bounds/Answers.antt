-- `waits::bounds` meets its contract: the bound of each wire goes to its place. Assumes nothing.
use mathlib.Core.Path.{◌≡◌, refl, ◌∙◌}
use native.Mathlib.Omega.{arith}
use lib.ListN.{length-set}
use lib.IntN.{pos}
use Rattle.times.specs.declared.Iterations.{Iterations}
use Rattle.times.proofs.ArrayLaws.{filled_more}
use Rattle.sheets.specs.Sheet.{sheet_of}
use Rattle.folding.specs.Folding.{bound}
use Rattle.waits.proofs.FineLaws.{fold_so}
use Rattle.waits.proofs.bounds.Goals as goal

pub loop-e-preserved : goal.loop-e-preserved
loop-e-preserved c =
    let s = c.args.sheet.now in
    let l = c.loop-e in
    let is : c.bound.result.0 ≡ bound (sheet_of s.b.now) l.e = c.bound.ensures ∙ rw (c.raw_wait.ensures, fold_so s.b.now s.head s.fine) (unfold bound in refl) in (
      simp length-set l.invariant.0,
      filled_more (λ (x : Iterations). x.0) (record { 0 = pos 0 }) (bound (sheet_of s.b.now)) l.e l.bounds c.bound.result (omega arith) l.invariant.1 is,
    )
