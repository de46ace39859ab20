-- What a reading without fault has passed, and that whatever passes all of it has no fault. Assumes nothing.
use mathlib.Core.Path.{◌≡◌}
use mathlib.Core.Bool.{Bool, true, ◌&&◌}
use mathlib.Core.List.{List}
use Prim.Native.Nat.{ℕ, ◌<◌, ◌≤◌}
use native.Mathlib.Omega.{arith}
use lib.Dec.{leb, eqb}
use lib.ListN.{length}
use borrow.Author.Tests.{leb-true, le-leb, eqb-true, eq-eqb}
use Rattle.words.specs.Loops.{first, unless, ◌then◌}
use Rattle.words.proofs.LoopLaws.{and_split, and_join}
use Rattle.words.proofs.FaultLaws.{then_split, then_join, unless_true, unless_ok, first_at, first_none, then_le, unless_le, first_le}
use Rattle.records.specs.Records.{Format, fold_in, units_in, nodes_in, wires_in, most_fold, most_units, most_nodes, most_wires, between, counts_fit, unit_place, node_place, wire_place, whole_length, marked, record_fault, reading_fault}

pub record_split : (b : List ℕ) (o : ℕ) (m : List ℕ) (fits : Bool) → record_fault b o m fits ≡ 0 → (marked b o m ≡ true) × (fits ≡ true)
record_split b o m fits h =
    let t = then_split (unless (marked b o m) 2) (unless fits 3) h in
    (unless_true (marked b o m) 1 t.0, unless_true fits 2 t.1)

pub record_join : (b : List ℕ) (o : ℕ) (m : List ℕ) (fits : Bool) → marked b o m ≡ true → fits ≡ true → record_fault b o m fits ≡ 0
record_join b o m fits h k = then_join (unless (marked b o m) 2) (unless fits 3) (unless_ok (marked b o m) 2 h) (unless_ok fits 3 k)

pub record_le : (b : List ℕ) (o : ℕ) (m : List ℕ) (fits : Bool) → record_fault b o m fits ≤ 3
record_le b o m fits = then_le _ _ 3 (unless_le (marked b o m) 2 3 (omega arith)) (unless_le fits 3 3 (omega arith))

module _ (f : Format) (b : List ℕ) (ranges : Bool) (unit node wire : ℕ → Bool) where
  pub record Read : Type 0 where
    pub long : f.header_length ≤ length b
    pub head_marked : marked b 0 f.header_mark ≡ true
    pub in_ranges : ranges ≡ true
    pub whole : length b ≡ whole_length f b
    pub unit_marked : (i : ℕ) → i < units_in b → marked b (unit_place f b i) f.unit_mark ≡ true
    pub unit_ok : (i : ℕ) → i < units_in b → unit i ≡ true
    pub node_marked : (i : ℕ) → i < nodes_in b → marked b (node_place f b i) f.node_mark ≡ true
    pub node_ok : (i : ℕ) → i < nodes_in b → node i ≡ true
    pub wire_marked : (i : ℕ) → i < wires_in b → marked b (wire_place f b i) f.wire_mark ≡ true
    pub wire_ok : (i : ℕ) → i < wires_in b → wire i ≡ true

  -- the faults up to each place, in order
  up_to_head : ℕ
  up_to_head = unless (leb f.header_length (length b)) 1 then record_fault b 0 f.header_mark ranges

  up_to_length : ℕ
  up_to_length = up_to_head then unless (eqb (length b) (whole_length f b)) 1

  units_fault : ℕ → ℕ
  units_fault i = record_fault b (unit_place f b i) f.unit_mark (unit i)

  nodes_fault : ℕ → ℕ
  nodes_fault i = record_fault b (node_place f b i) f.node_mark (node i)

  wires_fault : ℕ → ℕ
  wires_fault i = record_fault b (wire_place f b i) f.wire_mark (wire i)

  up_to_units : ℕ
  up_to_units = up_to_length then first (units_in b) units_fault

  up_to_nodes : ℕ
  up_to_nodes = up_to_units then first (nodes_in b) nodes_fault

  pub read : reading_fault f b ranges unit node wire ≡ 0 → Read
  unfolding reading_fault up_to_head up_to_length up_to_units up_to_nodes units_fault nodes_fault wires_fault
  read h =
      let tw = then_split up_to_nodes (first (wires_in b) wires_fault) h in
      let tn = then_split up_to_units (first (nodes_in b) nodes_fault) tw.0 in
      let tu = then_split up_to_length (first (units_in b) units_fault) tn.0 in
      let tl = then_split up_to_head (unless (eqb (length b) (whole_length f b)) 1) tu.0 in
      let th = then_split (unless (leb f.header_length (length b)) 1) (record_fault b 0 f.header_mark ranges) tl.0 in
      let head = record_split b 0 f.header_mark ranges th.1 in
      let units : (i : ℕ) → i < units_in b → (marked b (unit_place f b i) f.unit_mark ≡ true) × (unit i ≡ true) =
      λ i l. record_split b (unit_place f b i) f.unit_mark (unit i) (first_at (units_in b) units_fault tu.1 i l) in
      let nodes : (i : ℕ) → i < nodes_in b → (marked b (node_place f b i) f.node_mark ≡ true) × (node i ≡ true) =
      λ i l. record_split b (node_place f b i) f.node_mark (node i) (first_at (nodes_in b) nodes_fault tn.1 i l) in
      let wires : (i : ℕ) → i < wires_in b → (marked b (wire_place f b i) f.wire_mark ≡ true) × (wire i ≡ true) =
      λ i l. record_split b (wire_place f b i) f.wire_mark (wire i) (first_at (wires_in b) wires_fault tw.1 i l) in
      record {
        long = leb-true f.header_length (length b) (unless_true (leb f.header_length (length b)) 0 th.0);
        head_marked = head.0;
        in_ranges = head.1;
        whole = eqb-true (length b) (whole_length f b) (unless_true (eqb (length b) (whole_length f b)) 0 tl.1);
        unit_marked = λ i l. (units i l).0;
        unit_ok = λ i l. (units i l).1;
        node_marked = λ i l. (nodes i l).0;
        node_ok = λ i l. (nodes i l).1;
        wire_marked = λ i l. (wires i l).0;
        wire_ok = λ i l. (wires i l).1;
      }

  pub faultless : Read → reading_fault f b ranges unit node wire ≡ 0
  unfolding reading_fault up_to_head up_to_length up_to_units up_to_nodes units_fault nodes_fault wires_fault
  faultless r =
      then_join up_to_nodes (first (wires_in b) wires_fault)
      (then_join up_to_units (first (nodes_in b) nodes_fault)
      (then_join up_to_length (first (units_in b) units_fault)
      (then_join up_to_head (unless (eqb (length b) (whole_length f b)) 1)
      (then_join (unless (leb f.header_length (length b)) 1) (record_fault b 0 f.header_mark ranges)
      (unless_ok (leb f.header_length (length b)) 1 (le-leb f.header_length (length b) r.long))
      (record_join b 0 f.header_mark ranges r.head_marked r.in_ranges))
      (unless_ok (eqb (length b) (whole_length f b)) 1 (eq-eqb (length b) (whole_length f b) r.whole)))
      (first_none (units_in b) units_fault (λ i l. record_join b (unit_place f b i) f.unit_mark (unit i) (r.unit_marked i l) (r.unit_ok i l))))
      (first_none (nodes_in b) nodes_fault (λ i l. record_join b (node_place f b i) f.node_mark (node i) (r.node_marked i l) (r.node_ok i l))))
      (first_none (wires_in b) wires_fault (λ i l. record_join b (wire_place f b i) f.wire_mark (wire i) (r.wire_marked i l) (r.wire_ok i l)))

  -- a reading's fault is one of 0 to 3
  pub reading_le : reading_fault f b ranges unit node wire ≤ 3
  unfolding reading_fault units_fault nodes_fault wires_fault
  reading_le =
      then_le _ _ 3
      (then_le _ _ 3
      (then_le _ _ 3
      (then_le _ _ 3
      (then_le _ _ 3 (unless_le (leb f.header_length (length b)) 1 3 (omega arith)) (record_le b 0 f.header_mark ranges))
      (unless_le (eqb (length b) (whole_length f b)) 1 3 (omega arith)))
      (first_le (units_in b) units_fault 3 (λ i l. record_le b (unit_place f b i) f.unit_mark (unit i))))
      (first_le (nodes_in b) nodes_fault 3 (λ i l. record_le b (node_place f b i) f.node_mark (node i))))
      (first_le (wires_in b) wires_fault 3 (λ i l. record_le b (wire_place f b i) f.wire_mark (wire i)))

-- ---- N and the counts lie in their ranges

pub record Counts (b : List ℕ) : Type 0 where
  pub fold_least : 1 ≤ fold_in b
  pub fold_most : fold_in b ≤ most_fold
  pub units_least : 1 ≤ units_in b
  pub units_most : units_in b ≤ most_units
  pub nodes_least : 1 ≤ nodes_in b
  pub nodes_most : nodes_in b ≤ most_nodes
  pub wires_most : wires_in b ≤ most_wires

between_split : (lo x hi : ℕ) → between lo x hi ≡ true → (lo ≤ x) × (x ≤ hi)
between_split lo x hi h = let t = and_split (leb lo x) (leb x hi) h in (leb-true lo x t.0, leb-true x hi t.1)

between_join : (lo x hi : ℕ) → lo ≤ x → x ≤ hi → between lo x hi ≡ true
between_join lo x hi h k = and_join (leb lo x) (leb x hi) (le-leb lo x h) (le-leb x hi k)

pub counts_split : (b : List ℕ) → counts_fit b ≡ true → Counts b
counts_split b h =
    let N = between 1 (fold_in b) most_fold in
    let U = between 1 (units_in b) most_units in
    let M = between 1 (nodes_in b) most_nodes in
    let W = leb (wires_in b) most_wires in
    let w = and_split (N && U && M) W h in
    let m = and_split (N && U) M w.0 in
    let u = and_split N U m.0 in
    let n = between_split 1 (fold_in b) most_fold u.0 in
    let u' = between_split 1 (units_in b) most_units u.1 in
    let m' = between_split 1 (nodes_in b) most_nodes m.1 in
    record {
      fold_least = n.0;
      fold_most = n.1;
      units_least = u'.0;
      units_most = u'.1;
      nodes_least = m'.0;
      nodes_most = m'.1;
      wires_most = leb-true (wires_in b) most_wires w.1;
    }

pub counts_join : (b : List ℕ) → Counts b → counts_fit b ≡ true
counts_join b c =
    and_join _ _
    (and_join _ _
    (and_join _ _ (between_join 1 (fold_in b) most_fold c.fold_least c.fold_most) (between_join 1 (units_in b) most_units c.units_least c.units_most))
    (between_join 1 (nodes_in b) most_nodes c.nodes_least c.nodes_most))
    (le-leb (wires_in b) most_wires c.wires_most)
