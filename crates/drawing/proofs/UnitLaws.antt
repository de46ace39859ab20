-- A unit's figures from the masks and the longest taps: the record that is laid is the plan's. Assumes nothing.
use mathlib.Core.Path.{◌≡◌, refl, ap, ◌∙◌}
use mathlib.Core.List.{List}
use Prim.Native.Nat.{ℕ, ◌-◌, ◌<◌, ◌≤◌}
use native.Mathlib.Omega.{arith}
use lib.Count.{ones}
use lib.ListN.{length, get_or}
use lib.IntN.{nat_abs}
use Rattle.times.specs.declared.Cycles.{Cycles}
use Rattle.times.specs.Times.{cycles_at}
use Rattle.records.specs.declared.Unit.{Unit}
use Rattle.records.specs.Records.{most_units, occupied}
use Rattle.slots.specs.declared.Slots.{Slots}
use Rattle.slots.specs.Slots.{SlotsOf}
use Rattle.slots.proofs.SlotLaws.{occupied_ones, occupied_most}
use Rattle.sheets.specs.declared.Sheet as Head
use Rattle.sheets.specs.Sheet.{sheet_of, unit_of, node_of}
use Rattle.sheets.specs.Answers.{Held}
use Rattle.sheets.proofs.AnswerLaws.{held_of}
use Rattle.plans.specs.Judging.{longest_tap}
use Rattle.waits.specs.Fine.{Fine, Longest, from_unit}
use Rattle.waits.proofs.FineLaws.{sound_so, fold_so, nodes_so, within_so}
use Rattle.drawing.specs.PlanOf.{plan_unit}
use Rattle.drawing.specs.Laying.{Counted, starts_in}

-- a sheet without fault holds what the masks ask
pub held_so : (b : List ℕ) (s : Head.Sheet) → Fine b s → Held b s
held_so b s f = rw f.whole.said (held_of b f.fine)

module _ (b : List ℕ) (s : Head.Sheet) (f : Fine b s) where
  pub slots_counted : (slots : Slots) → SlotsOf s.nodes (node_of (sheet_of b)) slots → Counted b slots.occupied
  slots_counted slots taken q =
      occupied_ones (sheet_of b).fold s.nodes (node_of (sheet_of b)) slots q taken (omega (arith, fold_so b s f, (within_so b s f).fold_most))
      (λ x h. (sound_so b s f).in_turn x (omega (arith, nodes_so b s f)))
      ∙ ap (λ (n : ℕ). occupied (sheet_of b).fold n (node_of (sheet_of b)) q) (nodes_so b s f)

  module _ (masks : List ℕ) (counted : Counted b masks) (q : ℕ) where
    -- a mask has at most N ones
    pub mask_most : ones (get_or masks q 0) ≤ s.fold
    mask_most = omega (arith, counted q, fold_so b s f, occupied_most (sheet_of b).fold (length (sheet_of b).nodes) (node_of (sheet_of b)) q)

    -- the unit with its longest tap and the slots that its mask leaves free is the plan's
    pub unit_figures : (lines : List Cycles) → Longest b (from_unit b) most_units lines → q < most_units → (u : Unit) → u ≡ unit_of (sheet_of b) q → (idle : ℕ) → idle ≡ s.fold - ones (get_or masks q 0) →
        record { unit = u; line = nat_abs (cycles_at lines q); idle = idle } ≡ plan_unit (sheet_of b) (starts_in b) q
    unfolding longest_tap
    unit_figures lines longest few u is idle free = rw (is, longest q few, free, counted q, fold_so b s f) refl
