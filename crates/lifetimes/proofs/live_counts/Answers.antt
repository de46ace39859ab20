-- `lifetimes::live_counts` meets its contract: each node adds its whole rounds at once, and its rest cycle by cycle. Assumes nothing.
use mathlib.Core.Path.{◌≡◌, refl, ap, ◌∙◌}
use Prim.Native.Nat.{ℕ, ◌+◌, ◌/◌, ◌<◌}
use native.Mathlib.Omega.{arith}
use lib.ListN.{get_or-replicate, get_or}
use lib.IntN.{pos}
use Rattle.times.specs.Times.{cycles_at}
use Rattle.words.specs.Loops.{total}
use Rattle.sheets.specs.Sheet.{sheet_of}
use Rattle.waits.proofs.FineLaws.{fold_so}
use Rattle.lifetimes.specs.Counts.{wait_of, rounds_of, rest_of}
use Rattle.lifetimes.proofs.LiveSums.{rest_le, rest_more, rounds_more, wait_so, rounds_le}
use Rattle.lifetimes.proofs.live_counts.Goals as goal
use Rattle.lifetimes.proofs.live_counts.Goals.{In-loop-x, After-turns-turns}

pub loop-x-init : goal.loop-x-init
unfolding total
loop-x-init c = (refl, λ t h. get_or-replicate 32 t 0 0 (let few : t < 32 = omega arith in few))

pub count-requires-clause-small : goal.count-requires-clause-small
count-requires-clause-small c = λ t h. omega (arith, c.loop-x.invariant.1 t h, rest_le c.args.sheet.now.b.now c.loop-x.x t)

-- the node's longest wait
long : (c : In-loop-x) → cycles_at c.args.waited.now.longest c.loop-x.x ≡ pos (wait_of c.args.sheet.now.b.now c.loop-x.x)
long c =
    let s = c.args.sheet.now in
    wait_so s.b.now s.head s.fine c.requires.folds c.args.waited.now.longest c.requires.longest c.loop-x.x (omega arith)

turns_so : (c : After-turns-turns) →
    let b = c.args.sheet.now.b.now in
    cycles_at c.args.waited.now.longest c.loop-x.x ≡ pos (wait_of b c.loop-x.x) →
    c.turns-turns.result ≡ wait_of b c.loop-x.x / (sheet_of b).fold
turns_so c wait =
    let s = c.args.sheet.now in
    c.turns-turns.ensures ∙ rw (wait, fold_so s.b.now s.head s.fine) refl

pub overflow_add-turns : goal.overflow_add-turns
overflow_add-turns c =
    let s = c.args.sheet.now in
    let l = c.loop-x in
    let at = goal.at.overflow_add-turns c in
    omega (arith, turns_so at.After-turns-turns (long at.In-loop-x), rounds_more s.b.now l.x l.turns l.invariant.0, rounds_le s.b.now s.head s.fine c.requires.folds (l.x + 1))

pub loop-x-preserved : goal.loop-x-preserved
loop-x-preserved c =
    let s = c.args.sheet.now in
    let b = s.b.now in
    let l = c.loop-x in
    let at = goal.at.loop-x-preserved c in
    let wait = long at.In-loop-x in (
      rw (turns_so at.After-turns-turns wait) (rounds_more b l.x l.turns l.invariant.0),
      (λ t h. rest_more b l.x t (get_or l.counts t 0) (get_or c.count.new.counts t 0) (l.invariant.1 t h)
          (c.count.ensures t h ∙ rw (c.first_live.ensures, c.rest.ensures, wait, fold_so b s.head s.fine) refl)),
    )

pub returns : goal.returns
returns c =
    let s = c.args.sheet.now in
    let b = s.b.now in
    let l = c.loop-x in
    let all : l.x ≡ s.head.nodes = omega arith in
    record {
      turns_so = l.invariant.0 ∙ ap (rounds_of b) all;
      counts_so = λ t h. l.invariant.1 t (omega (arith, fold_so b s.head s.fine)) ∙ ap (λ (x : ℕ). rest_of b x t) all;
    }
