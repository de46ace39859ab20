-- Lines one after the other are all the lines. Assumes nothing.
use mathlib.Core.Path.{◌≡◌, refl}
use mathlib.Core.List.{List, ◌++◌}
use Prim.Native.Nat.{ℕ, suc, ◌+◌, ◌*◌, ◌≤◌}
use native.Mathlib.Omega.{arith}
use native.Mathlib.Numerals.{add-one}
use Rattle.records.specs.Records.{at, two}
use Rattle.plans.specs.declared.Plan as Head
use Rattle.plans.specs.Plan.{plan_read}
use Rattle.plans.specs.Heads.{Whole}
use Rattle.plans.proofs.ReadLaws.{fold_read, units_read, nodes_read, switches_read}
use Rattle.plans.proofs.WholeLaws.{units_so, nodes_so, wires_so}
use Rattle.words.specs.Loops.{joined}
use Rattle.lines.specs.Text.{head_line, header_line, unit_lines, node_lines, switch_lines, plan_text}
use Rattle.numerals.specs.declared.Text.{Text}
use Rattle.numerals.specs.Written.{Written}
use Rattle.numerals.proofs.WrittenLaws.{written_nothing, written_then, written_within}

module _ (m : ℕ) (f : ℕ → List ℕ) where
  pub lines_none : (t : Text) → Written (m * 0) t (joined 0 f) t
  unfolding joined
  lines_none t = written_within (m * 0) (omega arith) (written_nothing t)

  pub lines_more : {i : ℕ} {before mid after : Text} {bs : List ℕ} → bs ≡ f i → Written (m * i) before (joined i f) mid → Written m mid bs after → Written (m * (i + 1)) before (joined (i + 1) f) after
  unfolding joined
  lines_more {i} e x y = rw (add-one i) (written_within (m * suc i) (omega arith) (written_then x (rw e at y)))

  pub lines_done : {i : ℕ} {before after : Text} (n : ℕ) → i ≤ n → n ≤ i → Written (m * i) before (joined i f) after → Written (m * n) before (joined n f) after
  lines_done {i} n h l x = let e : i ≡ n = omega arith in rw e at x

-- ---- the plan that bytes say

registers_read : (b : List ℕ) → (plan_read b).registers ≡ two b 6
unfolding plan_read
registers_read b = refl

chain_read : (b : List ℕ) → (plan_read b).chain ≡ at b 8
unfolding plan_read
chain_read b = refl

abbrev header_at : List ℕ → List ℕ
header_at b = head_line (at b 2) (at b 3) (at b 4) (at b 5) (two b 6) (at b 8)

header_so : (b : List ℕ) → header_line (plan_read b) ≡ header_at b
header_so b = rw (units_read b, nodes_read b, switches_read b, fold_read b, registers_read b, chain_read b) refl

pub text_so : (b : List ℕ) (p : Head.Plan) → Whole b p →
    header_at b
    ++ (joined p.units (unit_lines (plan_read b)) ++ (joined p.nodes (node_lines (plan_read b)) ++ joined p.wires (switch_lines (plan_read b))))
    ≡ plan_text (plan_read b)
unfolding plan_text
text_so b p w = rw (units_so b p w, nodes_so b p w, wires_so b p w, header_so b) refl
