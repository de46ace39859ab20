-- The unfolded graph's values: `val x j` is the word of node x at iteration j. Assumes nothing.
use Rattle.std.specs.Prelude.{◌≡◌, cond, ℕ, ◌-◌, ◌<◌, ltb, length, nat_abs}
use Rattle.std.proofs.Math.Option.{Option, some, none}
use Rattle.words.specs.Loops.{lowest}
use Rattle.records.specs.Units.{value, word_before}
use Rattle.sheets.specs.Sheet.{Sheet, node_of, wire_of, feeds}

-- the wire at input i of node x
unfoldable pub wire_into : Sheet → ℕ → ℕ → Option ℕ
wire_into s x i = lowest (length s.wires) (feeds s x i)

-- the word of node x at iteration j − w: "The unfolded graph's values before iteration 0 are 0."
abbrev pub delayed : (ℕ → ℕ → ℕ) → ℕ → ℕ → ℕ → ℕ
delayed val x w j = cond (ltb j w) word_before (val x (j - w))

abbrev pub along_wire : Sheet → (ℕ → ℕ → ℕ) → ℕ → Option ℕ → ℕ
along_wire s val j none = 0
along_wire s val j (some e) = delayed val (wire_of s e).from (wire_of s e).delays j

-- the word at input i of node x in iteration j
abbrev pub arriving : Sheet → (ℕ → ℕ → ℕ) → ℕ → ℕ → ℕ → ℕ
arriving s val x i j = along_wire s val j (wire_into s x i)

-- val is the graph's values on the sample streams: `xs c j` is sample j of channel c
abbrev pub Values : Sheet → (ℕ → ℕ → ℕ) → (ℕ → ℕ → ℕ) → Type 0
Values s xs val = (x : ℕ) → x < length s.nodes → (j : ℕ) →
    val x j ≡
    value (node_of s x).op (node_of s x).k (xs (nat_abs (node_of s x).k) j) (arriving s val x 0 j) (arriving s val x 1 j)

-- there are such values, and they are the only ones
pub record HasValues (s : Sheet) (xs : ℕ → ℕ → ℕ) : Type 0 where
  pub val : ℕ → ℕ → ℕ
  pub right : Values s xs val
  pub only : (f : ℕ → ℕ → ℕ) → Values s xs f → (x : ℕ) → x < length s.nodes → (j : ℕ) → f x j ≡ val x j
