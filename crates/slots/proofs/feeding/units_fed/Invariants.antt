-- `slots::feeding::units_fed` meets its contract: what its loop keeps.
use Rattle.std.proofs.Common.{◌≡◌, true}
use Rattle.records.specs.Answers.{units_in_run}
use Rattle.slots.specs.Feeding.{units_fed}
use Rattle.slots.proofs.feeding.units_fed.Given as goal

abbrev pub invariant-loop-q : goal.invariant-loop-q
invariant-loop-q l = units_fed l.q (units_in_run l.b l.units) l.occupied l.masks ≡ true
