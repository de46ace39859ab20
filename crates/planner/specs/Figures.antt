-- The live count of a slot, for all bytes as a sheet. Assumes nothing.
use Rattle.std.specs.Prelude.{cond, ◌&&◌, List, ℕ, ltb, eqb}
use Rattle.sheets.specs.Sheet.{sheet_of, sheet_fault}
use Rattle.folding.specs.Walks.{start, foldable}
use Rattle.folding.specs.Folding.{net}
use Rattle.folding.specs.Lifetime.{live}

-- how often a live cycle falls in slot t; 0 where the sheet has no plan or no such slot
unfoldable pub live_in : List ℕ → ℕ → ℕ
live_in b t =
    cond (eqb (sheet_fault b) 0 && foldable (net (sheet_of b)) && ltb t (sheet_of b).fold) (live (sheet_of b) (start (net (sheet_of b))) t) 0
