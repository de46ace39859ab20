-- Only passes between functions: the net of a sheet, and what is known of a sheet's retiming. Assumes nothing.
use Rattle.std.specs.Prelude.{◌≡◌, List, ℕ, Option, is_some, IfSome}
use Rattle.sheets.specs.Sheet.{sheet_of, sheet_fault}
use Rattle.folding.specs.Walks.{foldable, chain}
use Rattle.folding.specs.Folding.{net}
use Rattle.folding.specs.Alike.{Alike}
use Rattle.rounds.specs.declared.net.Net.{Net}
use Rattle.rounds.specs.NetOf.{net_of}
use Rattle.starts.specs.declared.Retimed.{Retimed}
use Rattle.waits.specs.Fine.{Started}

-- the bytes b have no fault, and n is over them and has the nodes, wires and bounds of their sheet
pub record OfSheet (b : List ℕ) (n : Net) : Type 0 where
  pub fine : sheet_fault b ≡ 0
  pub over_them : n.b.now ≡ b
  pub alike : Alike (net_of n) (net (sheet_of b))

-- whether the sheet folds, and where it does its chain and its starts
pub record TimedSheet (b : List ℕ) (r : Option Retimed) : Type 0 where
  pub settled : is_some r ≡ foldable (net (sheet_of b))
  pub rounds : IfSome r (λ t. t.rounds ≡ chain (net (sheet_of b)))
  pub started : IfSome r (λ t. Started b t.starts)
