-- `inputs::place_of` meets its contract: what it read of the plan makes the place, which lies in the memory. Assumes nothing.
use Prim.Native.Nat.{ℕ, ◌+◌, ◌<◌}
use mathlib.Core.Path.{◌≡◌, ap, ◌∙◌}
use mathlib.Core.List.{List}
use lib.IntN.{pos}
use native.Mathlib.Omega.{arith}
use lib.ListN.{get_or}
use Rattle.plans.specs.Plan.{switch_in, plan_read}
use Rattle.memory.specs.Memory.{size}
use Rattle.memory.proofs.TakenLaws.{few_units}
use Rattle.inputs.specs.Inputs.{tapped_place}
use Rattle.inputs.proofs.InputLaws.{place_read, source_begins}
use Rattle.inputs.proofs.place_of.Goals as goal
use Rattle.inputs.proofs.place_of.Goals.{After-place}

pub offset_bounds-lines-source : goal.offset_bounds-lines-source
offset_bounds-lines-source c =
    let p = c.args.lines.now.plan in omega (arith, c.source_of-source.ensures.1, few_units p.b.now p.head p.taken)

pub bounds-lines-source : goal.bounds-lines-source
bounds-lines-source c =
    let p = c.args.lines.now.plan in omega (arith, c.source_of-source.ensures.1, few_units p.b.now p.head p.taken)

pub tap-requires : goal.tap-requires
tap-requires c = rw c.whole.ensures.1 c.requires

-- what it read
read : (c : After-place) →
    let pl = plan_read c.args.lines.now.plan.b.now in
    let at = get_or c.args.lines.now.at c.source_of-source.result 0 + c.place.result in (at ≡ tapped_place pl c.args.e) × (at < size pl)
read c =
    let lines = c.args.lines.now in
    let p = lines.plan in
    let source = c.source_of-source in
    place_read p.b.now p.head p.taken _ c.args.e (source_begins p.b.now p.head p.taken lines.at lines.placed c.args.e source.result c.requires source.ensures.0) c.requires
    source.result c.depth-depth.result c.tap.result.0 c.place.result source.ensures.0 c.depth-depth.ensures.is (c.tap.ensures ∙ ap (λ (b : List ℕ). pos (switch_in (plan_read b) c.args.e).tap) c.whole.ensures.0) c.place.ensures

pub overflow_add-result : goal.overflow_add-result
overflow_add-result c = omega (arith, (read c).1, c.args.lines.now.long)

pub returns : goal.returns
returns c = ((read c).0, omega (arith, (read c).1, c.args.lines.now.long))
