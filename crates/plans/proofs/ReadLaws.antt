-- Each record of the plan that bytes say is read at its place. Assumes nothing.
use mathlib.Core.Path.{◌≡◌, refl}
use mathlib.Core.List.{List}
use Prim.Native.Nat.{ℕ, ◌<◌}
use lib.ListN.{length}
use Rattle.words.proofs.LoopLaws.{length_tab, getD_tab}
use Rattle.records.specs.Records.{fold_in, units_in, nodes_in, wires_in, unit_place, node_place, wire_place}
use Rattle.plans.specs.Plan.{no_unit, no_node, no_switch, unit_in, node_in, switch_in, plan_format, plan_unit_at, plan_node_at, switch_at, plan_read}

module _ (b : List ℕ) where
  pub fold_read : (plan_read b).fold ≡ fold_in b
  unfolding plan_read
  fold_read = refl

  pub units_read : length (plan_read b).units ≡ units_in b
  unfolding plan_read
  units_read = length_tab (units_in b) (λ i. plan_unit_at b (unit_place plan_format b i))

  pub nodes_read : length (plan_read b).nodes ≡ nodes_in b
  unfolding plan_read
  nodes_read = length_tab (nodes_in b) (λ i. plan_node_at b (node_place plan_format b i))

  pub switches_read : length (plan_read b).switches ≡ wires_in b
  unfolding plan_read
  switches_read = length_tab (wires_in b) (λ i. switch_at b (wire_place plan_format b i))

  pub unit_read : (q : ℕ) → q < units_in b → unit_in (plan_read b) q ≡ plan_unit_at b (unit_place plan_format b q)
  unfolding plan_read
  unit_read q h = getD_tab (units_in b) (λ i. plan_unit_at b (unit_place plan_format b i)) q no_unit h

  pub node_read : (x : ℕ) → x < nodes_in b → node_in (plan_read b) x ≡ plan_node_at b (node_place plan_format b x)
  unfolding plan_read
  node_read x h = getD_tab (nodes_in b) (λ i. plan_node_at b (node_place plan_format b i)) x no_node h

  pub switch_read : (e : ℕ) → e < wires_in b → switch_in (plan_read b) e ≡ switch_at b (wire_place plan_format b e)
  unfolding plan_read
  switch_read e h = getD_tab (wires_in b) (λ i. switch_at b (wire_place plan_format b i)) e no_switch h
