-- A reading's first fault, part by part: the header, then the total length with the units and the nodes, then the wires. Sheets and
-- plans are judged so. Assumes nothing.
use mathlib.Core.Path.{◌≡◌, refl, ap, ◌∙◌}
use mathlib.Core.Bool.{Bool, true}
use mathlib.Core.List.{List}
use Prim.Native.Nat.{ℕ, zero, suc, ◌<◌}
use lib.Dec.{leb, eqb}
use lib.ListN.{length}
use borrow.Author.Tests.{eqb-true}
use Rattle.words.specs.Loops.{first, unless, ◌then◌}
use Rattle.words.proofs.FaultLaws.{then_split, unless_true, first_at, first_cong}
use Rattle.records.specs.declared.Unit.{Unit}
use Rattle.records.specs.declared.Node.{Node}
use Rattle.records.specs.declared.reading.Run.{Run}
use Rattle.records.specs.Units.{unit_fits}
use Rattle.records.specs.Records.{Format, fold_in, units_in, nodes_in, wires_in, unit_place, node_place, wire_place, whole_length, unit_at, node_at, record_fault, reading_fault, node_fits}
use Rattle.records.specs.Answers.{place, mark_of, unit_run, node_run, wire_run, units_in_run, nodes_in_run, unit_fault, units_fault, node_fault, nodes_fault, parts_fault, front_fault}
use Rattle.records.proofs.NodeLaws.{node_fits_same}
use Rattle.records.proofs.ReadingLaws.{record_split}

module _ (f : Format) (b : List ℕ) where
  -- ---- the runs that the header's numbers give

  module _
      (fold u n w whole : ℕ) (us ns ws : Run) (ef : fold ≡ fold_in b) (eu : u ≡ units_in b) (en : n ≡ nodes_in b) (ew : w ≡ wires_in b)
      (ws_is : ws ≡ wire_run f u n w) (whole_is : whole ≡ place ws ws.count) (us_is : us ≡ unit_run f u) (ns_is : ns ≡ node_run f u n)
    where
      pub front_said : parts_fault b whole fold us ns ≡ front_fault f b
      unfolding front_fault
      front_said = rw (whole_is, ws_is, us_is, ns_is, ef, eu, en, ew) refl

  -- ---- the parts of a reading

  module _ (ranges : Bool) (unit : ℕ → Unit) (node : ℕ → Node) (wire : ℕ → Bool)
      (units_read : (i : ℕ) → i < units_in b → unit i ≡ unit_at b (unit_place f b i))
      (nodes_read : (i : ℕ) → i < nodes_in b → node i ≡ node_at b (node_place f b i))
    where
      -- units and nodes, as they are read and as they stand in the bytes
      units_same : first (units_in b) (λ i. record_fault b (unit_place f b i) f.unit_mark (unit_fits (unit i))) ≡ units_fault b (unit_run f (units_in b))
      unfolding unit_fault
      units_same = first_cong (units_in b) _ _ (λ i l. ap (λ (u : Unit). record_fault b (unit_place f b i) f.unit_mark (unit_fits u)) (units_read i l))

      pub node_same : (i : ℕ) → i < nodes_in b → node_fits (fold_in b) (units_in b) unit (node i)
          ≡ node_fits (fold_in b) (units_in b) (units_in_run b (unit_run f (units_in b))) (nodes_in_run b (node_run f (units_in b) (nodes_in b)) i)
      node_same i l =
          ap (node_fits (fold_in b) (units_in b) unit) (nodes_read i l)
          ∙ node_fits_same (fold_in b) (units_in b) unit (units_in_run b (unit_run f (units_in b))) (node_at b (node_place f b i)) units_read

      nodes_same : first (nodes_in b) (λ i. record_fault b (node_place f b i) f.node_mark (node_fits (fold_in b) (units_in b) unit (node i)))
          ≡ nodes_fault b (fold_in b) (unit_run f (units_in b)) (node_run f (units_in b) (nodes_in b))
      unfolding node_fault
      nodes_same = first_cong (nodes_in b) _ _ (λ i l. ap (record_fault b (node_place f b i) f.node_mark) (node_same i l))

      -- the length, the units and the nodes
      pub front_same : (unless (eqb (length b) (whole_length f b)) 1
          then first (units_in b) (λ i. record_fault b (unit_place f b i) f.unit_mark (unit_fits (unit i)))
          then first (nodes_in b) (λ i. record_fault b (node_place f b i) f.node_mark (node_fits (fold_in b) (units_in b) unit (node i))))
          ≡ front_fault f b
      unfolding front_fault
      front_same = rw (units_same, nodes_same) refl

      pub reading_parts : reading_fault f b ranges (λ i. unit_fits (unit i)) (λ i. node_fits (fold_in b) (units_in b) unit (node i)) wire
          ≡ (unless (leb f.header_length (length b)) 1 then record_fault b 0 f.header_mark ranges
          then (front_fault f b then first (wires_in b) (λ i. record_fault b (wire_place f b i) f.wire_mark (wire i))))
      unfolding reading_fault front_fault
      reading_parts =
          rw (units_same, nodes_same)
          (regrouped (unless (leb f.header_length (length b)) 1 then record_fault b 0 f.header_mark ranges) (unless (eqb (length b) (whole_length f b)) 1) _ _ _)
        where
          regrouped : (a l u n e : ℕ) → (a then l then u then n then e) ≡ (a then (l then u then n then e))
          regrouped zero l u n e = refl
          regrouped (suc a) l u n e = refl

  -- ---- what a front without fault has passed

  module _ (z : front_fault f b ≡ 0) where
    length_fault : ℕ
    length_fault = unless (eqb (length b) (whole_length f b)) 1

    pub front_whole : length b ≡ whole_length f b
    unfolding front_fault length_fault
    front_whole =
        let us = units_fault b (unit_run f (units_in b)) in
        let t = then_split (length_fault then us) (nodes_fault b (fold_in b) (unit_run f (units_in b)) (node_run f (units_in b) (nodes_in b))) z in
        eqb-true (length b) (whole_length f b) (unless_true _ 0 (then_split length_fault us t.0).0)

    pub front_nodes : (i : ℕ) → i < nodes_in b →
        node_fits (fold_in b) (units_in b) (units_in_run b (unit_run f (units_in b))) (nodes_in_run b (node_run f (units_in b) (nodes_in b)) i) ≡ true
    unfolding front_fault length_fault node_fault
    front_nodes i l =
        let us = unit_run f (units_in b) in
        let ns = node_run f (units_in b) (nodes_in b) in
        let t = then_split (length_fault then units_fault b us) (nodes_fault b (fold_in b) us ns) z in
        (record_split b (place ns i) (mark_of ns) _ (first_at (nodes_in b) (node_fault b (fold_in b) us ns) t.1 i l)).1
