-- What is known of plan bytes that have no fault: where records stand, and what their numbers name. Assumes nothing.
use mathlib.Core.Path.{◌≡◌, ap}
use mathlib.Core.Bool.{Bool, ◌&&◌}
use mathlib.Core.List.{List}
use Prim.Native.Nat.{ℕ, ◌+◌, ◌*◌, ◌<◌, ◌≤◌}
use native.Mathlib.Omega.{arith}
use lib.Dec.{leb, eqb}
use lib.ListN.{length}
use borrow.Author.Tests.{eqb-true}
use Rattle.words.proofs.LoopLaws.{and_split, every_at}
use Rattle.records.specs.Records.{at, two, counts_fit}
use Rattle.records.proofs.ReadingLaws.{Counts, counts_split}
use Rattle.records.proofs.NodeLaws.{UnitFits, unit_split, NodeFits, node_split}
use Rattle.plans.specs.declared.Plan as Head
use Rattle.plans.specs.Plan.{PlanUnit, unit_in, node_in, switch_in, plan_read}
use Rattle.plans.specs.Heads.{Whole}
use Rattle.plans.specs.Judging.{most_chain, longest_tap, idle_slots, figures_right}
use Rattle.plans.proofs.JudgingLaws.{Judged, judged, SwitchFits, switch_split}
use Rattle.plans.proofs.ReadLaws.{units_read, nodes_read, switches_read}
use Rattle.plans.proofs.WholeLaws.{units_so, nodes_so, wires_so, unit_so}
use Rattle.memory.specs.Memory.{places}
use Rattle.memory.specs.Taken.{Taken}

pub whole_taken : {b : List ℕ} {p : Head.Plan} → Taken b p → Whole b p
whole_taken {b} t = record { said = t.head; long = (judged b (plan_read b) t.fine).records.whole }

module _ (b : List ℕ) (p : Head.Plan) (t : Taken b p) where
  pub judgement : Judged b (plan_read b)
  judgement = judged b (plan_read b) t.fine

  pub counts_taken : Counts b
  counts_taken = counts_split b (and_split (counts_fit b) (leb (plan_read b).chain most_chain) judgement.records.in_ranges).0

  pub few_units : p.units ≤ 8
  few_units = omega (arith, counts_taken.units_most, units_so b p (whole_taken t), units_read b)

  pub few_nodes : p.nodes ≤ 48
  few_nodes = omega (arith, counts_taken.nodes_most, nodes_so b p (whole_taken t), nodes_read b)

  pub few_wires : p.wires ≤ 96
  few_wires = omega (arith, counts_taken.wires_most, wires_so b p (whole_taken t), switches_read b)

  -- ---- ranges

  pub unit_fine : (q : ℕ) → q < p.units → UnitFits (unit_in (plan_read b) q).unit
  unit_fine q h = unit_split (unit_in (plan_read b) q).unit (judgement.records.unit_ok q (omega (arith, units_so b p (whole_taken t), units_read b)))

  pub node_fine : (x : ℕ) → x < p.nodes → NodeFits (plan_read b).fold (length (plan_read b).units) (λ q. (unit_in (plan_read b) q).unit) (node_in (plan_read b) x).node
  node_fine x h =
      let pl = plan_read b in
      node_split pl.fold (length pl.units) (λ q. (unit_in pl q).unit) (node_in pl x).node (judgement.records.node_ok x (omega (arith, nodes_so b p (whole_taken t), nodes_read b)))

  pub switch_fine : (e : ℕ) → e < p.wires → SwitchFits (plan_read b) (switch_in (plan_read b) e)
  switch_fine e h = switch_split (plan_read b) (switch_in (plan_read b) e) (judgement.records.wire_ok e (omega (arith, wires_so b p (whole_taken t), switches_read b)))

  -- a unit's line is the largest tap that reads it
  pub line_so : (q : ℕ) → q < p.units → (unit_in (plan_read b) q).line ≡ longest_tap (length (plan_read b).switches) (switch_in (plan_read b)) q
  unfolding figures_right
  line_so q h =
      let pl = plan_read b in
      let line : ℕ → Bool = λ q. eqb (unit_in pl q).line (longest_tap (length pl.switches) (switch_in pl) q) in
      let idle : ℕ → Bool = λ q. eqb (unit_in pl q).idle (idle_slots pl q) in
      eqb-true (unit_in pl q).line (longest_tap (length pl.switches) (switch_in pl) q)
      (and_split (line q) (idle q) (every_at (length pl.units) (λ q. line q && idle q) judgement.figures q (omega (arith, units_so b p (whole_taken t))))).0

  pub places_so : (q : ℕ) → q < p.units → places (plan_read b) q ≡ at b (9 + 7 * q + 3) + two b (9 + 7 * q + 4)
  places_so q h = ap (λ (u : PlanUnit). u.unit.depth + u.line) (unit_so b p (whole_taken t) q h)
