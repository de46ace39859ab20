-- `machine::step` meets its contract: refused by the plan, then room, then t, then the results, the leaving words and the move. Assumes
-- nothing.
use Rattle.std.proofs.Common.{◌≡◌, ◌<◌, ◌≤◌, refl, length, arith, rules}
use Rattle.std.proofs.lemmas.Result.{err_from_is_err_and}
use Rattle.records.specs.Units.{channels}
use Rattle.records.specs.Records.{at}
use Rattle.plans.specs.Plan.{plan_read}
use Rattle.plans.proofs.WholeLaws.{units_so}
use Rattle.memory.specs.Memory.{size}
use Rattle.memory.specs.Taken.{Taken}
use Rattle.memory.proofs.TakenLaws.{whole_taken, few_units}
use Rattle.machine.specs.Stepping.{last_count}
use Rattle.machine.proofs.CallLaws.{known, step_refused, short_memory, short_channels, short_output, too_late, step_done}
use Rattle.machine.proofs.step.Goals as goal
use Rattle.machine.proofs.step.Goals.{After-results-words, After-lines-lines, Else-memory, Else-out-lines}

pub returns-in_err-judged : goal.returns-in_err-judged
returns-in_err-judged c =
    let p = err_from_is_err_and c.from_residual.result c.from_residual.ensures.1 in
    rw (p.1, p.2) (step_refused _ _ _ _ c.in_err-judged.field-0.0 _ c.in_err-judged.ensures.refused refl)

-- the plan has no fault, and the lines its memory's words
said : (c : After-lines-lines) → let l = c.lines-lines.result in Taken c.args.plan.now l.plan.head × (l.words ≡ size (plan_read c.args.plan.now))
said c = let l = c.lines-lines.result in known c.args.plan.now _ _ _ (rw c.lines-lines.ensures c.in_ok-judged.ensures.got) l.plan.taken l.long

pub returns-then-memory-lines : goal.returns-then-memory-lines
returns-then-memory-lines c =
    let s = said (goal.at.returns-then-memory-lines c).After-lines-lines in short_memory _ _ _ _ _ s.0 (omega (arith, s.1, c.if-memory-lines.true))

pub returns-then-channels-lt-CHANNELS : goal.returns-then-channels-lt-CHANNELS
returns-then-channels-lt-CHANNELS c =
    short_channels _ _ _ _ _ (said (goal.at.returns-then-channels-lt-CHANNELS c).After-lines-lines).0 c.if-channels-lt-CHANNELS.true

pub returns-then-out-lines : goal.returns-then-out-lines
returns-then-out-lines c =
    let s = said (goal.at.returns-then-out-lines c).After-lines-lines in short_output _ _ _ _ _ s.0 (omega (arith, c.if-out-lines.true, units_so _ _ (whole_taken s.0)))

-- the lent slices have room
room : (c : Else-out-lines) → let l = c.lines-lines.result in Taken c.args.plan.now l.plan.head × (l.words ≡ size (plan_read c.args.plan.now)) →
    (size (plan_read c.args.plan.now) ≤ length c.args.memory.now) × (channels ≤ length c.args.channels.now) × (length (plan_read c.args.plan.now).units ≤ length c.args.out.now)
room c s =
    (omega (arith, s.1, c.if-memory-lines.false), c.if-channels-lt-CHANNELS.false, omega (arith, c.if-out-lines.false, units_so _ _ (whole_taken s.0)))

pub bounds-memory-0 : goal.bounds-memory-0
unfolding size
bounds-memory-0 c = omega (arith, c.if-memory-lines.false, c.lines-lines.result.long)

pub returns-then-memory : goal.returns-then-memory
returns-then-memory c =
    let at = goal.at.returns-then-memory c in
    let s = said at.After-lines-lines in
    let r = room at.Else-out-lines s in
    too_late _ _ _ _ _ s.0 r.0 r.1 r.2 c.if-memory.true

-- t has not reached its last number
in_time : (c : Else-memory) → at c.args.memory.now 0 < last_count
in_time c = omega (arith, c.if-memory.false, c.slice_known-3-1.given 0)

-- a word for each of eight units
eight : (c : After-results-words) → length c.results-words.result ≡ 8
eight c = search rules

pub advance-requires : goal.advance-requires
advance-requires c =
    let at = goal.at.advance-requires c in
    record { room = c.if-memory-lines.false; memory_bound = omega (arith, in_time at.Else-memory); units_in_bounds = omega (arith, eight at.After-results-words, few_units c.args.plan.now _ (said at.After-lines-lines).0) }

pub returns : goal.returns
returns c =
    let s = said (goal.at.returns c).After-lines-lines in
    let r = room (goal.at.returns c).Else-out-lines s in
    let got : c.lines-lines.result.plan.b.now ≡ c.args.plan.now = rw c.lines-lines.ensures c.in_ok-judged.ensures.got in
    step_done _ _ _ _ _ s.0 r.0 r.1 r.2 (in_time (goal.at.returns c).Else-memory) c.results-words.result _ _
    (rw got at c.results-words.ensures) (rw got at c.advance.ensures) (rw got at c.leave.ensures)
