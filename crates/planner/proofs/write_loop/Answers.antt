-- `planner::write_loop` meets its contract: each turn lays one wire behind the last. Assumes nothing.
use Prim.Native.Nat.{ℕ, ◌+◌, ◌*◌}
use mathlib.Core.Path.{◌≡◌, refl, ap, ◌∙◌}
use native.Mathlib.Omega.{arith}
use lib.ListN.{get_or}
use Rattle.plans.specs.Plan.{loop_wire_bytes}
use Rattle.writing.specs.Laid.{laid}
use Rattle.writing.proofs.RecordLaws.{laid_none, laid_more, loop_laid}
use Rattle.planner.proofs.write_loop.Goals as goal

pub loop-i-init : goal.loop-i-init
loop-i-init c = laid_none loop_wire_bytes 3 (λ a. refl) (λ j. get_or c.args.wires.now j 0) c.args.out.now 0

pub loop-i-preserved : goal.loop-i-preserved
loop-i-preserved c =
    let l = c.loop-i in
    let now = c.write_loop_wire in
    laid_more loop_wire_bytes 3 (λ a. refl) (λ j. get_or c.args.wires.now j 0) c.args.out.now 0 l.i l.out now.new.out (get_or c.args.wires.now l.i 0) l.invariant refl
    (now.ensures ∙ ap (λ (n : ℕ). laid l.out n (loop_wire_bytes (get_or c.args.wires.now l.i 0))) (let e : 3 * l.i ≡ 0 + 3 * l.i = omega arith in e))

pub returns : goal.returns
returns c =
    let l = c.loop-i in
    loop_laid c.args.wires.now c.args.out.now l.out l.i (omega arith) (omega (arith, c.requires)) l.invariant
