-- `drawing::write_nodes` meets its contract: each turn lays one node behind the last. Assumes nothing.
use mathlib.Core.Path.{refl}
use native.Mathlib.Omega.{arith}
use lib.IntN.{nat_abs}
use Rattle.times.specs.Times.{iterations_at}
use Rattle.words.proofs.Ints.{from_pos}
use Rattle.sheets.specs.Sheet.{sheet_of}
use Rattle.plans.specs.Plan.{node_bytes}
use Rattle.waits.proofs.FineLaws.{nodes_so}
use Rattle.writing.proofs.RecordLaws.{laid_none, laid_more}
use Rattle.drawing.specs.PlanOf.{plan_node}
use Rattle.drawing.specs.Laying.{starts_in}
use Rattle.drawing.proofs.write_nodes.Goals as goal

pub loop-x-init : goal.loop-x-init
loop-x-init c =
    let b = c.args.sheet.now.b.now in
    laid_none node_bytes 9 (λ a. refl) (plan_node (sheet_of b) (starts_in b)) c.args.out.now c.args.at

pub write_node-requires-clause-pos_bound : goal.write_node-requires-clause-pos_bound
write_node-requires-clause-pos_bound c =
    let s = c.args.sheet.now in
    from_pos _ (c.requires.started.starts_so c.loop-x.x (omega (arith, nodes_so s.b.now s.head s.fine)))

pub loop-x-preserved : goal.loop-x-preserved
loop-x-preserved c =
    let s = c.args.sheet.now in
    let b = s.b.now in
    let l = c.loop-x in
    let started = c.requires.started.starts_so l.x (omega (arith, nodes_so b s.head s.fine)) in
    laid_more node_bytes 9 (λ a. refl) (plan_node (sheet_of b) (starts_in b)) c.args.out.now c.args.at l.x l.out c.write_node.new.out
    (record { node = c.node-node.result; start = nat_abs (iterations_at c.args.starts.now l.x) }) l.invariant (rw (c.node-node.ensures.is, started) refl) c.write_node.ensures
