-- What is known of a sheet's bytes without fault, by their header. Assumes nothing.
use mathlib.Core.Path.{◌≡◌, sym, ap, ◌∙◌}
use mathlib.Core.List.{List}
use Prim.Native.Nat.{ℕ, ◌<◌}
use native.Mathlib.Omega.{arith}
use lib.ListN.{length}
use Rattle.records.proofs.ReadingLaws.{Counts}
use Rattle.sheets.specs.declared.Sheet as Head
use Rattle.sheets.specs.Sheet.{node_of, wire_of, sheet_of}
use Rattle.sheets.specs.Sound.{Sound}
use Rattle.sheets.proofs.SheetLaws.{Passed, passed, sound, counts_of, fold_is, units_is, nodes_is, wires_is}
use Rattle.waits.specs.Fine.{Fine, Within}

module _ (b : List ℕ) (s : Head.Sheet) (f : Fine b s) where
  pub passed_so : Passed b
  passed_so = passed b f.fine

  pub sound_so : Sound (sheet_of b)
  sound_so = sound b passed_so

  pub counts_so : Counts b
  counts_so = counts_of b passed_so

  -- the header's numbers are the sheet's
  pub fold_so : s.fold ≡ (sheet_of b).fold
  fold_so = ap (λ (h : Head.Sheet). h.fold) f.whole.said ∙ sym (fold_is b)

  pub units_so : s.units ≡ length (sheet_of b).units
  units_so = ap (λ (h : Head.Sheet). h.units) f.whole.said ∙ sym (units_is b)

  pub nodes_so : s.nodes ≡ length (sheet_of b).nodes
  nodes_so = ap (λ (h : Head.Sheet). h.nodes) f.whole.said ∙ sym (nodes_is b)

  pub wires_so : s.wires ≡ length (sheet_of b).wires
  wires_so = ap (λ (h : Head.Sheet). h.wires) f.whole.said ∙ sym (wires_is b)

  pub within_so : Within s
  within_so = record {
    fold_least = omega (arith, counts_so.fold_least, fold_so, fold_is b);
    fold_most = omega (arith, counts_so.fold_most, fold_so, fold_is b);
    few_units = omega (arith, counts_so.units_most, units_so, units_is b);
    few_nodes = omega (arith, counts_so.nodes_most, nodes_so, nodes_is b);
    few_wires = omega (arith, counts_so.wires_most, wires_so, wires_is b);
  }

  -- what each record names is there
  pub leaves_so : (e : ℕ) → e < s.wires → (wire_of (sheet_of b) e).from < s.nodes
  leaves_so e h = omega (arith, sound_so.leaves e (omega (arith, wires_so)), nodes_so)

  pub meets_so : (e : ℕ) → e < s.wires → (wire_of (sheet_of b) e).to < s.nodes
  meets_so e h = omega (arith, sound_so.meets e (omega (arith, wires_so)), nodes_so)

  pub on_unit_so : (x : ℕ) → x < s.nodes → (node_of (sheet_of b) x).unit < s.units
  on_unit_so x h = omega (arith, sound_so.on_unit x (omega (arith, nodes_so)), units_so)
