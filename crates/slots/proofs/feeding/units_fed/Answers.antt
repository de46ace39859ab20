-- `slots::feeding::units_fed` meets its contract: the units passed are fed. Assumes nothing.
use Rattle.std.proofs.Common.{refl, rules}
use Rattle.records.specs.Answers.{units_in_run}
use Rattle.slots.proofs.FeedingLaws.{units_none, units_more, units_stop}
use Rattle.slots.proofs.feeding.units_fed.Goals as goal

pub loop-q-init : goal.loop-q-init
loop-q-init c = units_none _ _ _

pub returns-then-not-unit_fed : goal.returns-then-not-unit_fed
returns-then-not-unit_fed c =
    let a = c.args in
    rw (units_stop (units_in_run a.b.now a.units) a.occupied.now a.masks.now a.units.count c.loop-q.q c.loop-q-test.true (search rules)) refl

pub loop-q-preserved : goal.loop-q-preserved
loop-q-preserved c = units_more _ _ _ c.loop-q.q c.loop-q.invariant (search rules)
