-- Where the records of a plan stand in bytes that are as long as its header says, and that what is read there is the plan's. Assumes nothing.
use mathlib.Core.Path.{◌≡◌, refl, sym, ap, ◌∙◌}
use mathlib.Core.List.{List}
use Prim.Native.Nat.{ℕ, ◌+◌, ◌*◌, ◌<◌, ◌≤◌}
use native.Mathlib.Omega.{arith}
use lib.ListN.{length}
use Rattle.records.proofs.ReadingLaws.{Counts}
use Rattle.plans.specs.declared.Plan as Head
use Rattle.records.specs.Records.{wire_place}
use Rattle.plans.specs.Plan.{unit_in, node_in, switch_in, plan_format, plan_unit_at, plan_node_at, switch_at, plan_read}
use Rattle.plans.specs.Heads.{Counted, Whole}
use Rattle.plans.proofs.ReadLaws.{fold_read, units_read, nodes_read, switches_read, unit_read, node_read, switch_read}

module _ (b : List ℕ) (p : Head.Plan) (w : Whole b p) where
  -- the header's numbers
  pub folds_so : p.fold ≡ (plan_read b).fold
  folds_so = ap (λ (h : Head.Plan). h.fold) w.said ∙ sym (fold_read b)

  pub units_so : p.units ≡ length (plan_read b).units
  units_so = ap (λ (h : Head.Plan). h.units) w.said ∙ sym (units_read b)

  pub nodes_so : p.nodes ≡ length (plan_read b).nodes
  nodes_so = ap (λ (h : Head.Plan). h.nodes) w.said ∙ sym (nodes_read b)

  pub wires_so : p.wires ≡ length (plan_read b).switches
  wires_so = ap (λ (h : Head.Plan). h.wires) w.said ∙ sym (switches_read b)

  pub counted_so : Counts b → Counted p
  counted_so n = record {
    few_units = omega (arith, units_so, units_read b, n.units_most);
    few_nodes = omega (arith, nodes_so, nodes_read b, n.nodes_most);
    few_wires = omega (arith, wires_so, switches_read b, n.wires_most);
  }

  -- records lie in the bytes
  pub whole_so : length b ≡ 9 + 7 * p.units + 9 * p.nodes + 8 * p.wires
  whole_so = w.long ∙ sym (rw w.said refl)

  pub unit_inside : (q : ℕ) → q < p.units → 9 + 7 * q + 7 ≤ length b
  unit_inside q h = omega (arith, whole_so)

  pub node_inside : (x : ℕ) → x < p.nodes → 9 + 7 * p.units + 9 * x + 9 ≤ length b
  node_inside x h = omega (arith, whole_so)

  pub switch_inside : (e : ℕ) → e < p.wires → 9 + 7 * p.units + 9 * p.nodes + 8 * e + 8 ≤ length b
  switch_inside e h = omega (arith, whole_so)

  -- and say the plan's
  pub unit_so : (q : ℕ) → q < p.units → unit_in (plan_read b) q ≡ plan_unit_at b (9 + 7 * q)
  unit_so q h = unit_read b q (omega (arith, units_so, units_read b))

  pub node_so : (x : ℕ) → x < p.nodes → node_in (plan_read b) x ≡ plan_node_at b (9 + 7 * p.units + 9 * x)
  node_so x h = node_read b x (omega (arith, nodes_so, nodes_read b)) ∙ ap (λ (u : ℕ). plan_node_at b (9 + 7 * u + 9 * x)) (sym (units_so ∙ units_read b))

  pub switch_said : (e : ℕ) → e < p.wires → switch_in (plan_read b) e ≡ switch_at b (wire_place plan_format b e)
  switch_said e h = switch_read b e (omega (arith, wires_so, switches_read b))

  pub switch_so : (e : ℕ) → e < p.wires → switch_in (plan_read b) e ≡ switch_at b (9 + 7 * p.units + 9 * p.nodes + 8 * e)
  switch_so e h = switch_said e h ∙ sym (rw w.said refl)
