-- `cycle::begun_by` meets its contract: the start rule, then the op. Assumes nothing.
use mathlib.Core.Path.{◌≡◌, refl, sym, ap, ◌∙◌}
use mathlib.Core.List.{List}
use Prim.Native.Nat.{ℕ}
use lib.IntN.{pos}
use mir.Syntax.{w16}
use mir.Val.{SFits}
use mir.ValLaws.{to_z-of_z}
use Rattle.words.proofs.Ints.{from_pos}
use Rattle.plans.specs.Plan.{node_in, plan_read}
use Rattle.cycle.proofs.GivenLaws.{turns, below_start}
use borrow.Author.Rules.{rules}
use Rattle.cycle.proofs.begun_by.Goals as goal
use Rattle.cycle.proofs.begun_by.Goals.{Start, After-start}

k_held : (c : Start) → SFits w16 c.args.n.k
k_held c = search rules

-- its start is the plan's
start_so : (c : After-start) → c.start.result.0 ≡ pos (node_in (plan_read c.args.plan.now.b.now) c.args.x).start
start_so c = c.start.ensures ∙ ap (λ (b : List ℕ). pos (node_in (plan_read b) c.args.x).start) c.whole.ensures.0

pub start-requires : goal.start-requires
start-requires c = rw c.whole.ensures.1 c.requires

pub ahead-requires : goal.ahead-requires
ahead-requires c =
    record { pos_bound = from_pos _ c.start.ensures; fold_nonzero = turns c.args.plan.now.b.now c.args.plan.now.head c.args.plan.now.taken }

pub returns-then-ahead : goal.returns-then-ahead
returns-then-ahead c =
    let flag = below_start c.args.plan.now.b.now c.args.plan.now.head c.args.plan.now.taken c.args.x c.args.t c.start.result.0 c.ahead.result
    (start_so (goal.at.returns-then-ahead c).After-start) c.ahead.ensures in
    rw (sym flag ∙ c.if-ahead.true) refl

pub returns-else-ahead : goal.returns-else-ahead
returns-else-ahead c =
    let flag = below_start c.args.plan.now.b.now c.args.plan.now.head c.args.plan.now.taken c.args.x c.args.t c.start.result.0 c.ahead.result
    (start_so (goal.at.returns-else-ahead c).After-start) c.ahead.ensures in
    c.value.ensures ∙ rw (sym flag ∙ c.if-ahead.false, to_z-of_z w16 c.args.n.k (k_held (goal.at.returns-else-ahead c).Start)) refl
