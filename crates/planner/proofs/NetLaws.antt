-- The net that the rounds and the loop's search read in the bytes is the sheet's, and what they answer is said of it. Assumes nothing.
use mathlib.Core.Path.{◌≡◌, refl, sym, ap, ◌∙◌}
use mathlib.Core.List.{List}
use Rattle.std.specs.Prelude.{Option, Some, None}
use Prim.Native.Nat.{ℕ, ◌<◌}
use native.Mathlib.Omega.{arith}
use lib.ListN.{get_or}
use lib.IntN.{pos}
use Rattle.times.specs.declared.Iterations.{Iterations}
use Rattle.times.specs.Times.{iterations_at}
use Rattle.records.specs.Records.{nodes_in, wires_in, node_place}
use Rattle.records.specs.Answers.{wire_run}
use Rattle.sheets.specs.declared.Sheet as Head
use Rattle.sheets.specs.Sheet.{sheet_format, sheet_of}
use Rattle.sheets.proofs.HeldLaws.{units_said, nodes_said, wires_said}
use Rattle.folding.specs.Walks.{Net}
use Rattle.folding.specs.Folding.{net, bound}
use Rattle.folding.specs.Alike.{Alike}
use Rattle.folding.proofs.AlikeLaws.{foldable_cong, chain_cong, starts_cong}
use Rattle.starts.specs.declared.Retimed.{Retimed}
use Rattle.rounds.specs.Rounds.{bytes_net, Wired, Moderate}
use Rattle.starts.specs.Starts.{Timed}
use Rattle.rounds.proofs.SheetNet.{sheet_alike, sheet_wired, sheet_moderate}
use Rattle.waits.specs.Fine.{Fine}
use Rattle.waits.proofs.FineLaws.{passed_so}
use Rattle.planner.specs.Timed.{TimedSheet}

module _ (b : List ℕ) (s : Head.Sheet) (f : Fine b s) (bounds : List Iterations) (are : (e : ℕ) → e < s.wires → iterations_at bounds e ≡ bound (sheet_of b) e)
    (at : ℕ) (there : at ≡ (wire_run sheet_format s.units s.nodes s.wires).at) where
  abbrev pub here : Net
  here = bytes_net b at s.nodes s.wires bounds

  at_place : at ≡ node_place sheet_format b (nodes_in b)
  at_place = there ∙ rw (units_said b s f.whole, nodes_said b s f.whole) refl

  sheet_bounds : (e : ℕ) → e < wires_in b → iterations_at bounds e ≡ bound (sheet_of b) e
  sheet_bounds e h = are e (omega (arith, wires_said b s f.whole))

  pub here_wired : Wired b at s.nodes s.wires
  here_wired = rw (at_place, nodes_said b s f.whole, wires_said b s f.whole) (sheet_wired b (passed_so b s f) bounds sheet_bounds)

  pub here_moderate : Moderate here
  here_moderate = rw (at_place, nodes_said b s f.whole, wires_said b s f.whole) (sheet_moderate b (passed_so b s f) bounds sheet_bounds)

  pub here_alike : Alike here (net (sheet_of b))
  here_alike = rw (at_place, nodes_said b s f.whole, wires_said b s f.whole) (sheet_alike b (passed_so b s f) bounds sheet_bounds)

-- what the rounds over the bytes come to, of the sheet
module _ (b : List ℕ) (g : Net) (alike : Alike g (net (sheet_of b))) where
  pub timed_sheet : (r : Option Retimed) → Timed g r → TimedSheet b r
  timed_sheet None timed = record { settled = timed.settled ∙ foldable_cong g (net (sheet_of b)) alike; rounds = tt; started = tt }
  timed_sheet (Some t) timed = record {
    settled = timed.settled ∙ foldable_cong g (net (sheet_of b)) alike;
    rounds = timed.rounds ∙ chain_cong g (net (sheet_of b)) alike;
    started = record {
      folds = sym (timed.settled ∙ foldable_cong g (net (sheet_of b)) alike);
      starts_so = λ u h.
          timed.starts u (omega (arith, alike.nodes))
          ∙ ap (λ (l : List ℕ). pos (get_or l u 0)) (starts_cong g (net (sheet_of b)) alike);
    };
  }
