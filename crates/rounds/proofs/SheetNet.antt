-- The net of a well-formed sheet's bytes is that of the sheet: what the rounds and the loop are asked holds of it, and what they answer
-- carries over. Assumes nothing.
use mathlib.Core.Path.{◌≡◌, sym, ap}
use mathlib.Core.List.{List}
use Prim.Native.Nat.{ℕ, ◌<◌}
use native.Mathlib.Omega.{arith}
use lib.ListN.{length}
use Rattle.times.specs.declared.Iterations.{Iterations}
use Rattle.times.specs.Times.{iterations_at}
use Rattle.records.specs.Records.{nodes_in, wires_in, node_place}
use Rattle.sheets.specs.declared.Wire.{Wire}
use Rattle.sheets.specs.Sheet.{sheet_format, sheet_of}
use Rattle.sheets.proofs.SheetLaws.{Passed, nodes_is, wires_is, wire_read, wire_parts, counts_of, sound}
use Rattle.folding.specs.Walks.{Net}
use Rattle.folding.specs.Folding.{net, bound}
use Rattle.folding.specs.Alike.{Alike}
use Rattle.folding.proofs.SizeLaws.{small_of, bound_low, bound_high}
use Rattle.rounds.specs.Rounds.{bytes_net, Wired, Moderate}

module _ (b : List ℕ) (passed : Passed b) (bounds : List Iterations)
    (bounds_are : (e : ℕ) → e < wires_in b → iterations_at bounds e ≡ bound (sheet_of b) e) where
  -- where the wires' records begin
  abbrev pub wires_at : ℕ
  wires_at = node_place sheet_format b (nodes_in b)

  abbrev pub of_sheet : Net
  of_sheet = bytes_net b wires_at (nodes_in b) (wires_in b) bounds

  in_sheet : (e : ℕ) → e < wires_in b → e < length (sheet_of b).wires
  in_sheet e h = omega (arith, wires_is b)

  pub sheet_alike : Alike of_sheet (net (sheet_of b))
  sheet_alike = record {
    nodes = sym (nodes_is b);
    wires = sym (wires_is b);
    from = λ e h. ap (λ (w : Wire). w.from) (sym (wire_read b e (in_sheet e h)));
    to = λ e h. ap (λ (w : Wire). w.to) (sym (wire_read b e (in_sheet e h)));
    bound = λ e h. bounds_are e h;
  }

  pub sheet_wired : Wired b wires_at (nodes_in b) (wires_in b)
  sheet_wired = record {
    some_node = (counts_of b passed).nodes_least;
    few_nodes = (counts_of b passed).nodes_most;
    few_wires = (counts_of b passed).wires_most;
    inside = omega (arith, passed.records.whole);
    leaves = λ e h. omega (arith, sheet_alike.from e h, (wire_parts b passed e (in_sheet e h)).leaves, nodes_is b);
    meets = λ e h. omega (arith, sheet_alike.to e h, (wire_parts b passed e (in_sheet e h)).meets, nodes_is b);
  }

  pub sheet_moderate : Moderate of_sheet
  sheet_moderate = record {
    low = λ e h. rw (bounds_are e h) (bound_low (sheet_of b) (sound b passed) (small_of b passed) e (in_sheet e h));
    high = λ e h. rw (bounds_are e h) (bound_high (sheet_of b) (sound b passed) (small_of b passed) e (in_sheet e h));
  }
