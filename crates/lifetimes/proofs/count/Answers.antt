-- `lifetimes::count` meets its contract: after some cycles the slots of these have one more. Assumes nothing.
use mathlib.Core.Path.{◌≡◌, sym, ap, ◌∙◌, subst}
use Prim.Native.Nat.{ℕ, ◌+◌, ◌%◌}
use native.Mathlib.Nat.{mod-add-mod}
use native.Mathlib.Omega.{arith}
use lib.ListN.{length-set, get_or, set}
use Rattle.lifetimes.specs.Counts.{Counted}
use Rattle.lifetimes.proofs.CountedLaws.{counted_more}
use Rattle.lifetimes.proofs.count.Goals as goal

pub loop-preserved : goal.loop-preserved
loop-preserved c =
    let s = c.args in
    let l = c.loop in
    let n = s.fold in (
      (rw c.from.ensures at c.next_slot-t.ensures)
          ∙ ap (λ (z : ℕ). (z + 1) % n) l.invariant.0
          ∙ mod-add-mod (s.first + l.counter) n 1
          ∙ ap (λ (z : ℕ). z % n) (let e : s.first + l.counter + 1 ≡ s.first + (l.counter + 1) = omega arith in e),
      simp length-set l.invariant.1,
      subst (λ (k : ℕ). Counted n s.first (l.counter + 1) s.counts.now (set l.counts k (get_or l.counts k 0 + 1))) (sym l.invariant.0)
          (counted_more n s.first c.requires.turns.0 c.requires.turns.1 s.counts.now l.counter l.counts (omega (arith, c.requires.short)) l.invariant.1 l.invariant.2),
    )
