-- `machine::memory_words` meets its contract: the lines end where the memory does. Assumes nothing.
use Rattle.std.proofs.Common.{◌≡◌, Err, refl, rules}
use Rattle.machine.proofs.CallLaws.{known, needed_refused, needed_said}
use Rattle.machine.proofs.memory_words.Goals as goal

pub returns-in_err-judged : goal.returns-in_err-judged
returns-in_err-judged c =
    let why : c.from_residual.result ≡ Err c.in_err-judged.field-0.0 = search rules in
    rw why (needed_refused _ c.in_err-judged.field-0.0 _ _ c.in_err-judged.ensures.refused refl refl)

pub returns : goal.returns
returns c =
    let l = c.lines.result in
    let k = known c.args.plan.now _ _ _ (rw c.lines.ensures c.in_ok-judged.ensures.got) l.plan.taken l.long in
    needed_said _ _ _ k.0 k.1
