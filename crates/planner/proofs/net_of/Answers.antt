-- `planner::net_of` meets its contract: the net of the bytes is the sheet's. Assumes nothing.
use mathlib.Core.Path.{refl, ap}
use Rattle.records.specs.declared.reading.Run.{Run}
use Rattle.planner.proofs.NetLaws.{here_wired, here_moderate, here_alike}
use Rattle.planner.proofs.net_of.Goals as goal

pub invariant_of-result : goal.invariant_of-result
invariant_of-result c =
    let s = c.args.sheet.now in
    let there = ap (λ (r : Run). r.at) c.wire_run.ensures in
    rw (c.from.ensures, c.from-2.ensures) (record {
      wired = here_wired s.b.now s.head s.fine c.bounds.result c.bounds.ensures _ there;
      moderate = here_moderate s.b.now s.head s.fine c.bounds.result c.bounds.ensures _ there;
    })

pub returns : goal.returns
returns c =
    let s = c.args.sheet.now in
    let there = ap (λ (r : Run). r.at) c.wire_run.ensures in
    record { fine = s.fine.fine; over_them = refl; alike = rw (c.from.ensures, c.from-2.ensures) (here_alike s.b.now s.head s.fine c.bounds.result c.bounds.ensures _ there) }
