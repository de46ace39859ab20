-- `planner::show_loop` meets its contract: the loop that is found is one of the sheet's net, and is laid at the head. Assumes nothing.
use mathlib.Core.Path.{◌≡◌, ◌∙◌}
use Prim.Native.Nat.{◌≤◌}
use native.Mathlib.Omega.{arith}
use borrow.Author.Rules.{rules}
use lib.ListN.{length, take}
use lib.Seq.{length-take-le}
use Rattle.folding.proofs.AlikeLaws.{foldable_cong}
use Rattle.rounds.specs.NetOf.{net_of}
use Rattle.planner.proofs.LoopLaws.{loop_fits, loop_shown}
use Rattle.planner.proofs.show_loop.Goals as goal
use Rattle.planner.proofs.show_loop.Goals.{After-find_loop-found}

pub find_loop-found-requires : goal.find_loop-found-requires
find_loop-found-requires c = foldable_cong (net_of c.args.sheet_net.now) _ c.requires.of_sheet.alike ∙ c.requires.does_not_fold

-- the loop that is found fits its array
counted : (c : After-find_loop-found) → let r = c.find_loop-found.result in (r.count ≤ length r.wires) × (length (take r.count r.wires) ≡ r.count)
counted c =
    let r = c.find_loop-found in
    let long : length r.result.wires ≡ 48 = search rules in
    let few : r.result.count ≤ length r.result.wires = omega (arith, long, r.ensures.few, c.args.sheet_net.now.wired.few_nodes) in
    (few, length-take-le _ _ few)

pub write_loop-requires : goal.write_loop-requires
write_loop-requires c =
    let found = c.find_loop-found in
    let s = c.requires.of_sheet in
    loop_fits c.args.sheet_net.now.b.now s.fine _ s.alike found.result found.ensures (counted (goal.at.write_loop-requires c).After-find_loop-found).1 c.args.out.now c.requires.b_in_bounds

pub returns : goal.returns
returns c =
    let found = c.find_loop-found in
    let s = c.requires.of_sheet in
    loop_shown c.args.sheet_net.now.b.now s.fine _ s.alike found.result found.ensures (counted (goal.at.returns c).After-find_loop-found).1 c.args.out.now _ c.write_loop.ensures
