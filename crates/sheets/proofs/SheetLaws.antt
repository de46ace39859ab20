-- A sheet that is not refused from 1 to 5 is sound, and lies in the paper's ranges. Assumes nothing.
use mathlib.Core.Path.{◌≡◌, refl}
use mathlib.Core.Bool.{Bool, true, false, not, ◌&&◌}
use mathlib.Core.List.{List}
use Prim.Native.Nat.{ℕ, ◌<◌, ◌≤◌}
use native.Mathlib.Omega.{arith}
use lib.Dec.{ltb, leb}
use lib.ListN.{length}
use lib.IntN.{pos}
use borrow.Author.Tests.{ltb-true, leb-true}
use Rattle.words.specs.Loops.{unless, ◌then◌}
use Rattle.words.proofs.LoopLaws.{length_tab, getD_tab, and_split}
use Rattle.words.proofs.FaultLaws.{then_split, unless_true, not_true, then_le, unless_le}
use Rattle.records.specs.Units.{unit_fits, inputs_of}
use Rattle.records.specs.Records.{fold_in, units_in, nodes_in, wires_in, counts_fit, unit_place, node_place, wire_place, unit_at, node_at, reading_fault, node_fits, clashes, fed_once}
use Rattle.records.proofs.ReadingLaws.{Read, read, reading_le, Counts, counts_split}
use Rattle.records.proofs.NodeLaws.{UnitFits, unit_split, NodeFits, node_split, clash_apart}
use Rattle.sheets.specs.Sheet.{Sheet, unit_of, node_of, wire_of, sheet_format, wire_at, sheet_of, most_delays, wire_fits, feeds, sheet_faults, sheet_fault}
use Rattle.sheets.specs.Sound.{Sound}

module _ (b : List ℕ) where
  pub fold_is : (sheet_of b).fold ≡ fold_in b
  unfolding sheet_of
  fold_is = refl

  pub units_is : length (sheet_of b).units ≡ units_in b
  unfolding sheet_of
  units_is = length_tab (units_in b) (λ i. unit_at b (unit_place sheet_format b i))

  pub nodes_is : length (sheet_of b).nodes ≡ nodes_in b
  unfolding sheet_of
  nodes_is = length_tab (nodes_in b) (λ i. node_at b (node_place sheet_format b i))

  pub wires_is : length (sheet_of b).wires ≡ wires_in b
  unfolding sheet_of
  wires_is = length_tab (wires_in b) (λ i. wire_at b (wire_place sheet_format b i))

  -- each record is read at its place
  pub unit_read : (q : ℕ) → q < length (sheet_of b).units → unit_of (sheet_of b) q ≡ unit_at b (unit_place sheet_format b q)
  unfolding sheet_of
  unit_read q h = getD_tab (units_in b) (λ i. unit_at b (unit_place sheet_format b i)) q (record { kind = 0; depth = 0 }) (omega (arith, units_is))

  pub node_read : (x : ℕ) → x < length (sheet_of b).nodes → node_of (sheet_of b) x ≡ node_at b (node_place sheet_format b x)
  unfolding sheet_of
  node_read x h =
      getD_tab (nodes_in b) (λ i. node_at b (node_place sheet_format b i)) x (record { unit = 0; slot = 0; op = 0; k = pos 0 }) (omega (arith, nodes_is))

  pub wire_read : (e : ℕ) → e < length (sheet_of b).wires → wire_of (sheet_of b) e ≡ wire_at b (wire_place sheet_format b e)
  unfolding sheet_of
  wire_read e h =
      getD_tab (wires_in b) (λ i. wire_at b (wire_place sheet_format b i)) e (record { from = 0; to = 0; input = 0; delays = 0 }) (omega (arith, wires_is))

-- ---- the tests of each record

abbrev pub unit_test : Sheet → ℕ → Bool
unit_test s i = unit_fits (unit_of s i)

abbrev pub node_test : Sheet → ℕ → Bool
node_test s i = node_fits s.fold (length s.units) (unit_of s) (node_of s i)

abbrev pub wire_test : Sheet → ℕ → Bool
wire_test s i = wire_fits s (wire_of s i)

abbrev pub no_clash : Sheet → Bool
no_clash s = not (clashes (length s.nodes) (node_of s))

abbrev pub all_fed : Sheet → Bool
all_fed s = fed_once (length s.nodes) (node_of s) (length s.wires) (feeds s)

-- what a sheet without fault has passed
pub record Passed (b : List ℕ) : Type 0 where
  pub records : Read sheet_format b (counts_fit b) (unit_test (sheet_of b)) (node_test (sheet_of b)) (wire_test (sheet_of b))
  pub apart : clashes (length (sheet_of b).nodes) (node_of (sheet_of b)) ≡ false
  pub fed : all_fed (sheet_of b) ≡ true

reading : List ℕ → ℕ
reading b = reading_fault sheet_format b (counts_fit b) (unit_test (sheet_of b)) (node_test (sheet_of b)) (wire_test (sheet_of b))

pub passed : (b : List ℕ) → sheet_fault b ≡ 0 → Passed b
unfolding sheet_faults reading
passed b h =
    let s = sheet_of b in
    let t5 = then_split (reading b then unless (no_clash s) 4) (unless (all_fed s) 5) h in
    let t4 = then_split (reading b) (unless (no_clash s) 4) t5.0 in
    record {
      records = read sheet_format b (counts_fit b) (unit_test s) (node_test s) (wire_test s) t4.0;
      apart = not_true (clashes (length s.nodes) (node_of s)) (unless_true (no_clash s) 3 t4.1);
      fed = unless_true (all_fed s) 4 t5.1;
    }

-- a sheet's fault is one of 0 to 5
pub sheet_fault_le : (b : List ℕ) → sheet_fault b ≤ 5
unfolding sheet_faults reading
sheet_fault_le b =
    let s = sheet_of b in
    let r = reading_le sheet_format b (counts_fit b) (unit_test s) (node_test s) (wire_test s) in
    then_le _ _ 5 (then_le (reading b) _ 5 (omega arith) (unless_le (no_clash s) 4 5 (omega arith))) (unless_le (all_fed s) 5 5 (omega arith))

-- ---- what that says

pub record WireFits (s : Sheet) (e : ℕ) : Type 0 where
  pub leaves : (wire_of s e).from < length s.nodes
  pub meets : (wire_of s e).to < length s.nodes
  pub input_fits : (wire_of s e).input < inputs_of (node_of s (wire_of s e).to).op
  pub delays_most : (wire_of s e).delays ≤ most_delays

pub wire_split : (s : Sheet) (e : ℕ) → wire_test s e ≡ true → WireFits s e
wire_split s e h =
    let w = wire_of s e in
    let a = ltb w.from (length s.nodes) in
    let c = ltb w.to (length s.nodes) in
    let d = ltb w.input (inputs_of (node_of s w.to).op) in
    let t = and_split (a && c && d) (leb w.delays most_delays) h in
    let t2 = and_split (a && c) d t.0 in
    let t1 = and_split a c t2.0 in
    record {
      leaves = ltb-true w.from (length s.nodes) t1.0;
      meets = ltb-true w.to (length s.nodes) t1.1;
      input_fits = ltb-true w.input (inputs_of (node_of s w.to).op) t2.1;
      delays_most = leb-true w.delays most_delays t.1;
    }

module _ (b : List ℕ) (p : Passed b) where
  pub counts_of : Counts b
  counts_of = counts_split b p.records.in_ranges

  pub unit_parts : (q : ℕ) → q < length (sheet_of b).units → UnitFits (unit_of (sheet_of b) q)
  unit_parts q h = unit_split (unit_of (sheet_of b) q) (p.records.unit_ok q (omega (arith, units_is b)))

  pub node_parts : (x : ℕ) → x < length (sheet_of b).nodes → NodeFits (sheet_of b).fold (length (sheet_of b).units) (unit_of (sheet_of b)) (node_of (sheet_of b) x)
  node_parts x h =
      let s = sheet_of b in
      node_split s.fold (length s.units) (unit_of s) (node_of s x) (p.records.node_ok x (omega (arith, nodes_is b)))

  pub wire_parts : (e : ℕ) → e < length (sheet_of b).wires → WireFits (sheet_of b) e
  wire_parts e h = wire_split (sheet_of b) e (p.records.wire_ok e (omega (arith, wires_is b)))

  pub sound : Sound (sheet_of b)
  sound = record {
    turns = unfold sheet_of in counts_of.fold_least;
    some_node = omega (arith, counts_of.nodes_least, nodes_is b);
    on_unit = λ x h. (node_parts x h).on_unit;
    in_turn = λ x h. (node_parts x h).in_turn;
    leaves = λ e h. (wire_parts e h).leaves;
    meets = λ e h. (wire_parts e h).meets;
    deep = λ q h. (unit_parts q h).deep;
    apart = clash_apart (length (sheet_of b).nodes) (node_of (sheet_of b)) p.apart;
  }

-- well-formed bytes make a sound sheet
pub sound_of : (b : List ℕ) → sheet_fault b ≡ 0 → Sound (sheet_of b)
sound_of b h = sound b (passed b h)
