-- The loop that is found in the bytes' net is a loop of the sheet's, fits where the plan would, and is shown by its wires. Assumes nothing.
use mathlib.Core.Path.{◌≡◌, sym, ap, ◌∙◌}
use mathlib.Core.List.{List}
use Prim.Native.Nat.{ℕ, suc, ◌*◌, ◌≤◌}
use native.Mathlib.Omega.{arith}
use lib.ListN.{length, take}
use Rattle.records.specs.Records.{over}
use Rattle.sheets.specs.Sheet.{sheet_of, sheet_fault}
use Rattle.folding.specs.Walks.{Net, Loop}
use Rattle.folding.specs.Folding.{net}
use Rattle.folding.specs.Alike.{Alike}
use Rattle.folding.proofs.AlikeLaws.{loop_cong}
use Rattle.loops.specs.declared.Looped.{Looped}
use Rattle.loops.specs.Shown.{Shown}
use Rattle.plans.specs.Plan.{loop_length, loop_bytes}
use Rattle.drawing.specs.PlanOf.{plan_length}
use Rattle.planner.specs.Planning.{LoopShown}
use Rattle.planner.proofs.PlanningLaws.{loop_room}

module _ (b : List ℕ) (fine : sheet_fault b ≡ 0) (g : Net) (alike : Alike g (net (sheet_of b))) (r : Looped) (shown : Shown g r)
    (long : length (take r.count r.wires) ≡ r.count) where
  in_sheet : Loop (net (sheet_of b)) shown.first shown.rest
  in_sheet = loop_cong g (net (sheet_of b)) alike shown.first shown.rest shown.loop

  counted : r.count ≡ suc (length shown.rest)
  counted = sym long ∙ ap length shown.wires

  -- there is room for it where there is room for the plan
  pub loop_fits : (l : List ℕ) → plan_length b ≤ length l → loop_length * length (take r.count r.wires) ≤ length l
  loop_fits l room = omega (arith, room, long, counted, loop_room b fine shown.first shown.rest in_sheet)

  pub loop_shown : (l after : List ℕ) → after ≡ over (loop_bytes (take r.count r.wires)) l → LoopShown b l (loop_length * r.count) after
  loop_shown l after lays = record {
    wire = shown.first;
    wires = shown.rest;
    loop = in_sheet;
    length_is = ap (λ (n : ℕ). loop_length * n) counted;
    left = lays ∙ ap (λ (es : List ℕ). over (loop_bytes es) l) shown.wires;
  }
