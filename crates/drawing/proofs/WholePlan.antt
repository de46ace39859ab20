-- The header and the records of each sort, laid one run behind the other, are the plan's bytes at the head of the buffer.
-- Assumes nothing.
use mathlib.Core.Path.{◌≡◌, refl, sym, ap, ◌∙◌}
use mathlib.Core.List.{List, ◌++◌}
use Prim.Native.Nat.{ℕ, ◌+◌, ◌*◌, ◌≤◌}
use native.Mathlib.Omega.{arith}
use lib.ListN.{length}
use Rattle.records.specs.Records.{over}
use Rattle.sheets.specs.declared.Sheet as Head
use Rattle.sheets.specs.Sheet.{sheet_of}
use Rattle.sheets.proofs.HeldLaws.{units_said, nodes_said, wires_said}
use Rattle.folding.specs.Walks.{chain}
use Rattle.folding.specs.Folding.{net}
use Rattle.folding.specs.Lifetime.{registers}
use Rattle.folding.proofs.FoldingLaws.{Foldable}
use Rattle.plans.specs.Plan.{Plan, unit_bytes, node_bytes, head_bytes, plan_bytes}
use Rattle.waits.specs.Fine.{Fine}
use Rattle.waits.proofs.FineLaws.{passed_so, fold_so, units_so, nodes_so, wires_so}
use Rattle.writing.specs.Laid.{laid}
use Rattle.writing.proofs.LaidLaws.{laid_append, laid_over}
use Rattle.drawing.specs.PlanOf.{plan_unit, plan_node, plan_with, plan_of, plan_length}
use Rattle.drawing.specs.Laying.{starts_in, unit_records, node_records, switch_records}
use Rattle.drawing.proofs.PlanLaws.{units_as, nodes_as, wires_as}
use Rattle.drawing.proofs.PassedPlan.{length_written}
use Rattle.writing.proofs.RecordLaws.{length_records}

-- four runs of bytes, each laid behind the last, are one run
runs_laid : (l H U X W : List ℕ) → laid l 0 (H ++ (U ++ (X ++ W))) ≡ laid (laid (laid (laid l 0 H) (length H) U) (length H + length U) X) (length H + length U + length X) W
runs_laid l H U X W =
    laid_append l 0 H (U ++ (X ++ W))
    ∙ ap (λ (n : ℕ). laid (laid l 0 H) n (U ++ (X ++ W))) (let e : 0 + length H ≡ length H = omega arith in e)
    ∙ laid_append (laid l 0 H) (length H) U (X ++ W)
    ∙ laid_append (laid (laid l 0 H) (length H) U) (length H + length U) X W

-- the plan's length by the header's numbers
pub room_so : (b : List ℕ) (s : Head.Sheet) → Fine b s → plan_length b ≡ 9 + 7 * s.units + 9 * s.nodes + 8 * s.wires
room_so b s f = rw (units_said b s f.whole, nodes_said b s f.whole, wires_said b s f.whole) refl

module _ (b : List ℕ) (s : Head.Sheet) (f : Fine b s) (ok : Foldable (sheet_of b)) where
  abbrev p : Plan
  p = plan_with (sheet_of b) (starts_in b)

  abbrev head : ℕ → ℕ → List ℕ
  head = head_bytes s.fold s.units s.nodes s.wires

  -- the plan's bytes are the runs that are laid
  runs : (n k : ℕ) → n ≡ registers (sheet_of b) (starts_in b) → k ≡ chain (net (sheet_of b)) →
      head n k ++ (unit_records b s.units ++ (node_records b s.nodes ++ switch_records b s.wires)) ≡ plan_bytes (plan_of (sheet_of b))
  unfolding plan_bytes plan_of
  runs n k en ek =
      rw (units_as (sheet_of b) (starts_in b), nodes_as (sheet_of b) (starts_in b), wires_as (sheet_of b) (starts_in b))
      (rw (en, ek, fold_so b s f, units_so b s f, nodes_so b s f, wires_so b s f) refl)

  pub plan_laid : (l : List ℕ) (n k units nodes wires : ℕ) → n ≡ registers (sheet_of b) (starts_in b) → k ≡ chain (net (sheet_of b)) → plan_length b ≤ length l →
      units ≡ 9 → nodes ≡ 9 + 7 * s.units → wires ≡ 9 + 7 * s.units + 9 * s.nodes → (l₁ l₂ l₃ l₄ : List ℕ) → l₁ ≡ laid l 0 (head n k) →
      l₂ ≡ laid l₁ units (unit_records b s.units) → l₃ ≡ laid l₂ nodes (node_records b s.nodes) → l₄ ≡ laid l₃ wires (switch_records b s.wires) →
      l₄ ≡ over (plan_bytes (plan_of (sheet_of b))) l
  plan_laid l n k units nodes wires en ek room eu ex ew l₁ l₂ l₃ l₄ h u x w =
      let U = unit_records b s.units in
      let X = node_records b s.nodes in
      let W = switch_records b s.wires in
      let lu = length_records unit_bytes 7 (λ a. refl) (plan_unit (sheet_of b) (starts_in b)) s.units in
      let lx = length_records node_bytes 9 (λ a. refl) (plan_node (sheet_of b) (starts_in b)) s.nodes in
      let after_units : 9 + length U ≡ nodes = omega (arith, lu, ex) in
      let after_nodes : 9 + length U + length X ≡ wires = omega (arith, lu, lx, ew) in
      w ∙ rw (x, u, h, eu)
      (sym (
      ap (λ (z : ℕ). laid (laid (laid (laid l 0 (head n k)) 9 U) z X) wires W) after_units))
      ∙ sym (ap (λ (z : ℕ). laid (laid (laid (laid l 0 (head n k)) 9 U) (9 + length U) X) z W) after_nodes)
      ∙ sym (runs_laid l (head n k) U X W)
      ∙ ap (laid l 0) (runs n k en ek)
      ∙ laid_over l (plan_bytes (plan_of (sheet_of b))) (omega (arith, length_written b (passed_so b s f) ok))
