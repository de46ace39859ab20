-- `machine::clear` meets its contract: refused by the plan, 7 where there is no room, else cleared. Assumes nothing.
use Rattle.std.proofs.Common.{refl, arith}
use Rattle.std.proofs.lemmas.Result.{err_from_is_err_and}
use Rattle.memory.specs.Memory.{size}
use Rattle.machine.proofs.CallLaws.{known, clear_refused, clear_short, clear_done}
use Rattle.machine.proofs.clear.Goals as goal

pub returns-in_err-judged : goal.returns-in_err-judged
returns-in_err-judged c =
    let p = err_from_is_err_and c.from_residual.result c.from_residual.ensures.1 in
    rw (p.1, p.2) (clear_refused _ _ c.in_err-judged.field-0.0 _ c.in_err-judged.ensures.refused refl)

pub returns-then-memory-words : goal.returns-then-memory-words
returns-then-memory-words c =
    let l = c.lines-words.result in
    let k = known c.args.plan.now _ _ _ (rw c.lines-words.ensures c.in_ok-judged.ensures.got) l.plan.taken l.long in
    clear_short _ _ _ k.0 _ k.1 c.if-memory-words.true

pub wipe-requires : goal.wipe-requires
unfolding size
wipe-requires c = omega (arith, c.lines-words.result.long, c.if-memory-words.false)

pub returns : goal.returns
returns c =
    let l = c.lines-words.result in
    let k = known c.args.plan.now _ _ _ (rw c.lines-words.ensures c.in_ok-judged.ensures.got) l.plan.taken l.long in
    clear_done _ _ _ k.0 _ k.1 c.if-memory-words.false _ c.wipe.ensures
