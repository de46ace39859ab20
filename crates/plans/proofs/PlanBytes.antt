-- A plan whose figures fit their fields is read back from its bytes, and every byte of it is below 256. Assumes nothing.
use mathlib.Core.Path.{◌≡◌, refl, sym, ap, ◌∙◌}
use mathlib.Core.List.{List, [], ◌++◌, append-nil}
use Prim.Native.Nat.{ℕ, ◌+◌, ◌*◌, ◌<◌, ◌/◌}
use native.Mathlib.Omega.{arith}
use lib.Dec.{lit<}
use lib.ListN.{length, get_or, length-append}
use lib.Seq.{get_or-append-add}
use lib.IntN.{ℤ}
use lib.Signed.{mag}
use Rattle.words.specs.Loops.{tab}
use Rattle.words.specs.Words.{signed, residue}
use Rattle.words.proofs.WordLaws.{residue_below, signed_residue}
use Rattle.records.specs.Records.{at, two, low, high, fold_in, units_in, nodes_in, wires_in, unit_place, node_place, wire_place, whole_length}
use Rattle.records.proofs.ByteLaws.{low_high, two_back}
use Rattle.plans.specs.Plan.{Plan, no_unit, no_node, no_switch, unit_in, node_in, switch_in, plan_format, unit_bytes, node_bytes, switch_bytes, header_bytes, concat, plan_bytes, plan_unit_at, plan_node_at, switch_at, plan_read, loop_length, loop_wire_bytes, loop_bytes, loop_read}
use Rattle.plans.proofs.ConcatLaws.{tab_is, length_concat, at_concat}

-- the figures of a plan fit their two bytes
pub record Narrow (p : Plan) : Type 0 where
  pub line : (q : ℕ) → q < length p.units → (unit_in p q).line < 65536
  pub k : (x : ℕ) → x < length p.nodes → mag (node_in p x).node.k < 32768
  pub start : (x : ℕ) → x < length p.nodes → (node_in p x).start < 65536
  pub tap : (e : ℕ) → e < length p.switches → (switch_in p e).tap < 65536
  pub registers : p.registers < 65536

-- ---- the bytes of a plan, at each record

module _ (p : Plan) where
  U : List ℕ
  U = concat unit_bytes p.units

  X : List ℕ
  X = concat node_bytes p.nodes

  W : List ℕ
  W = concat switch_bytes p.switches

  pub length_units : length (concat unit_bytes p.units) ≡ 7 * length p.units
  length_units = length_concat unit_bytes 7 (λ a. refl) p.units

  pub length_nodes : length (concat node_bytes p.nodes) ≡ 9 * length p.nodes
  length_nodes = length_concat node_bytes 9 (λ a. refl) p.nodes

  pub length_switches : length (concat switch_bytes p.switches) ≡ 8 * length p.switches
  length_switches = length_concat switch_bytes 8 (λ a. refl) p.switches

  pub length_plan : length (plan_bytes p) ≡ 9 + 7 * length p.units + 9 * length p.nodes + 8 * length p.switches
  unfolding plan_bytes
  length_plan = simp length-append (omega (arith, length_units, length_nodes, length_switches))

  -- the header's counts are the plan's
  pub head_units : units_in (plan_bytes p) ≡ length p.units
  unfolding plan_bytes
  head_units = refl

  pub head_nodes : nodes_in (plan_bytes p) ≡ length p.nodes
  unfolding plan_bytes
  head_nodes = refl

  pub head_wires : wires_in (plan_bytes p) ≡ length p.switches
  unfolding plan_bytes
  head_wires = refl

  pub head_fold : fold_in (plan_bytes p) ≡ p.fold
  unfolding plan_bytes
  head_fold = refl

  pub whole_plan : length (plan_bytes p) ≡ whole_length plan_format (plan_bytes p)
  unfolding plan_bytes
  whole_plan = length_plan

  pub unit_byte : (i j : ℕ) → i < length p.units → j < 7 → at (plan_bytes p) (unit_place plan_format (plan_bytes p) i + j) ≡ get_or (unit_bytes (unit_in p i)) j 0
  unfolding plan_bytes
  unit_byte i j h hj =
      ap (at (plan_bytes p)) (let e : 9 + 7 * i + j ≡ 9 + (7 * i + j) = omega arith in e)
      ∙ get_or-append-add (header_bytes p) (concat unit_bytes p.units ++ (concat node_bytes p.nodes ++ concat switch_bytes p.switches)) (7 * i + j) 0
      ∙ at_concat unit_bytes 7 (λ a. refl) p.units (concat node_bytes p.nodes ++ concat switch_bytes p.switches) i j no_unit h hj

  pub node_byte : (i j : ℕ) → i < length p.nodes → j < 9 → at (plan_bytes p) (node_place plan_format (plan_bytes p) i + j) ≡ get_or (node_bytes (node_in p i)) j 0
  unfolding plan_bytes U X W
  node_byte i j h hj =
      ap (at (plan_bytes p)) (let e : 9 + 7 * length p.units + 9 * i + j ≡ 9 + (length U + (9 * i + j)) = omega (arith, length_units) in e)
      ∙ get_or-append-add (header_bytes p) (U ++ (X ++ W)) (length U + (9 * i + j)) 0
      ∙ get_or-append-add U (X ++ W) (9 * i + j) 0
      ∙ at_concat node_bytes 9 (λ a. refl) p.nodes W i j no_node h hj

  pub switch_byte : (i j : ℕ) → i < length p.switches → j < 8 → at (plan_bytes p) (wire_place plan_format (plan_bytes p) i + j) ≡ get_or (switch_bytes (switch_in p i)) j 0
  unfolding plan_bytes U X W
  switch_byte i j h hj =
      ap (at (plan_bytes p)) (let e : 9 + 7 * length p.units + 9 * length p.nodes + 8 * i + j ≡ 9 + (length U + (length X + (8 * i + j))) = omega (arith, length_units, length_nodes) in e)
      ∙ get_or-append-add (header_bytes p) (U ++ (X ++ W)) (length U + (length X + (8 * i + j))) 0
      ∙ get_or-append-add U (X ++ W) (length X + (8 * i + j)) 0
      ∙ get_or-append-add X W (8 * i + j) 0
      ∙ ap (λ (l : List ℕ). get_or l (8 * i + j) 0) (sym (append-nil W))
      ∙ at_concat switch_bytes 8 (λ a. refl) p.switches [] i j no_switch h hj

  -- a two-byte field that is written at o is read back
  field_back : (n o : ℕ) → n < 65536 → at (plan_bytes p) o ≡ low n → at (plan_bytes p) (o + 1) ≡ high n → two (plan_bytes p) o ≡ n
  field_back n o h a c = two_back n (at (plan_bytes p) o) (at (plan_bytes p) (o + 1)) h a c

  next_byte : (o j k : ℕ) → j + 1 ≡ k → at (plan_bytes p) (o + j + 1) ≡ at (plan_bytes p) (o + k)
  next_byte o j k e = ap (at (plan_bytes p)) (let q : o + j + 1 ≡ o + k = omega arith in q)

  module _ (narrow : Narrow p) where
    unit_back : (i : ℕ) → i < length p.units → plan_unit_at (plan_bytes p) (unit_place plan_format (plan_bytes p) i) ≡ unit_in p i
    unit_back i h =
        let u = unit_in p i in
        let o = unit_place plan_format (plan_bytes p) i in
        let line : two (plan_bytes p) (o + 4) ≡ u.line =
        field_back u.line (o + 4) (narrow.line i h) (unit_byte i 4 h (lit< tt)) (next_byte o 4 5 refl ∙ unit_byte i 5 h (lit< tt)) in
        λ z. record {
          unit = record { kind = unit_byte i 2 h (lit< tt) z; depth = unit_byte i 3 h (lit< tt) z };
          line = line z;
          idle = unit_byte i 6 h (lit< tt) z;
        }

    node_back : (i : ℕ) → i < length p.nodes → plan_node_at (plan_bytes p) (node_place plan_format (plan_bytes p) i) ≡ node_in p i
    node_back i h =
        let n = (node_in p i).node in
        let o = node_place plan_format (plan_bytes p) i in
        let k = residue n.k 65536 in
        let two_k : two (plan_bytes p) (o + 5) ≡ k =
        field_back k (o + 5) (k_below n.k) (node_byte i 5 h (lit< tt)) (next_byte o 5 6 refl ∙ node_byte i 6 h (lit< tt)) in
        let start : two (plan_bytes p) (o + 7) ≡ (node_in p i).start =
        field_back (node_in p i).start (o + 7) (narrow.start i h) (node_byte i 7 h (lit< tt)) (next_byte o 7 8 refl ∙ node_byte i 8 h (lit< tt)) in
        let gain : signed 32768 (two (plan_bytes p) (o + 5)) ≡ n.k = ap (signed 32768) two_k ∙ signed_residue 32768 n.k (narrow.k i h) in
        λ z. record {
          node = record { unit = node_byte i 2 h (lit< tt) z; slot = node_byte i 3 h (lit< tt) z; op = node_byte i 4 h (lit< tt) z; k = gain z };
          start = start z;
        }
      where
        k_below : (k : ℤ) → residue k 65536 < 65536
        k_below k = residue_below k 65536 (lit< tt)

    switch_back : (i : ℕ) → i < length p.switches → switch_at (plan_bytes p) (wire_place plan_format (plan_bytes p) i) ≡ switch_in p i
    switch_back i h =
        let w = switch_in p i in
        let o = wire_place plan_format (plan_bytes p) i in
        let tap : two (plan_bytes p) (o + 6) ≡ w.tap =
        field_back w.tap (o + 6) (narrow.tap i h) (switch_byte i 6 h (lit< tt)) (next_byte o 6 7 refl ∙ switch_byte i 7 h (lit< tt)) in
        λ z. record {
          unit = switch_byte i 2 h (lit< tt) z;
          input = switch_byte i 3 h (lit< tt) z;
          slot = switch_byte i 4 h (lit< tt) z;
          source = switch_byte i 5 h (lit< tt) z;
          tap = tap z;
        }

    -- reading the bytes of a plan gives the plan
    pub plan_back : plan_read (plan_bytes p) ≡ p
    plan_back =
        let b = plan_bytes p in
        let units : (plan_read b).units ≡ p.units = unfold plan_read plan_bytes in
        tab_is p.units (λ i. plan_unit_at (plan_bytes p) (unit_place plan_format (plan_bytes p) i)) no_unit unit_back in
        let nodes : (plan_read b).nodes ≡ p.nodes = unfold plan_read plan_bytes in
        tab_is p.nodes (λ i. plan_node_at (plan_bytes p) (node_place plan_format (plan_bytes p) i)) no_node node_back in
        let switches : (plan_read b).switches ≡ p.switches = unfold plan_read plan_bytes in
        tab_is p.switches (λ i. switch_at (plan_bytes p) (wire_place plan_format (plan_bytes p) i)) no_switch switch_back in
        let fold : (plan_read b).fold ≡ p.fold = unfold plan_read plan_bytes in refl in
        let registers : (plan_read b).registers ≡ p.registers = unfold plan_read plan_bytes in low_high p.registers narrow.registers in
        let chain : (plan_read b).chain ≡ p.chain = unfold plan_read plan_bytes in refl in
        λ z. record { fold = fold z; units = units z; nodes = nodes z; switches = switches z; registers = registers z; chain = chain z }

-- ---- a loop

-- its wire numbers are read back from its bytes, whatever stands behind them
pub loop_back : (l rest : List ℕ) (len : ℕ) → len ≡ loop_length * length l → loop_read len (loop_bytes l ++ rest) ≡ l
unfolding loop_bytes
loop_back l rest len h =
    let w = loop_bytes l ++ rest in
    ap (λ (n : ℕ). tab n (λ i. at w (3 * i + 2))) (let e : len / 3 ≡ length l = omega arith in e)
    ∙ tab_is l (λ i. at w (3 * i + 2)) 0 (λ i k. at_concat loop_wire_bytes 3 (λ a. refl) l rest i 2 0 k (lit< tt))
