-- `lifetimes::registers` meets its contract: the largest rest and the whole rounds are the largest live count. Assumes nothing.
use mathlib.Core.Path.{◌≡◌, ap, ◌∙◌}
use Prim.Native.Nat.{ℕ, ◌+◌}
use native.Mathlib.Omega.{arith}
use lib.ListN.{get_or}
use Rattle.words.specs.Loops.{largest}
use Rattle.sheets.specs.Sheet.{sheet_of}
use Rattle.folding.specs.Walks.{start}
use Rattle.folding.specs.Folding.{net}
use Rattle.folding.specs.Lifetime.{registers}
use Rattle.waits.proofs.FineLaws.{fold_so}
use Rattle.lifetimes.proofs.LiveSums.{registers_so, registers_narrow}
use Rattle.lifetimes.proofs.registers.Goals as goal
use Rattle.lifetimes.proofs.registers.Goals.{After-most}

figure : (c : After-most) → c.most.result + c.live_counts-live.result.turns ≡ registers (sheet_of c.args.sheet.now.b.now) (start (net (sheet_of c.args.sheet.now.b.now)))
figure c =
    let s = c.args.sheet.now in
    let live = c.live_counts-live in
    ap (λ (m : ℕ). m + live.result.turns) (c.most.ensures ∙ rw (c.from.ensures) (ap (λ (n : ℕ). largest n (λ t. get_or live.result.counts t 0)) (fold_so s.b.now s.head s.fine)))
    ∙ registers_so s.b.now s.head s.fine c.requires.folds live.result live.ensures

pub overflow_add-result : goal.overflow_add-result
overflow_add-result c =
    let s = c.args.sheet.now in
    omega (arith, figure (goal.at.overflow_add-result c).After-most, registers_narrow s.b.now s.head s.fine c.requires.folds)

pub overflow_cast-result : goal.overflow_cast-result
overflow_cast-result c =
    let s = c.args.sheet.now in
    omega (arith, figure (goal.at.overflow_cast-result c).After-most, registers_narrow s.b.now s.head s.fine c.requires.folds)

pub returns : goal.returns
returns c = figure (goal.at.returns c).After-most
