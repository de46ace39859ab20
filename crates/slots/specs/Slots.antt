-- Only passes between functions: occupied slots as masks. "A unit's occupied slots are one u32 mask; its ones are counted for the idle
-- figure, clashes found by masks." Assumes nothing.
use Rattle.std.specs.Prelude.{◌≡◌, true, ℕ, ◌^◌, ◌<◌, get_or}
use Rattle.words.specs.Loops.{some_of}
use Rattle.words.specs.Masks.{in_mask}
use Rattle.records.specs.declared.Node.{Node}
use Rattle.slots.specs.declared.Slots.{Slots}
use Rattle.records.specs.Units.{k_fits}
use Rattle.records.specs.Records.{most_fold, most_units, clashes, runs_in}

-- a node that the masks have room for, as every node in its ranges is
pub record Masked (n : Node) : Type 0 where
  pub on_unit : n.unit < most_units
  pub in_turn : n.slot < most_fold
  pub of_op : k_fits n.op n.k ≡ true

-- what the masks say of n nodes of which number x is `node x`: whether two clash, and bit v of mask q that one runs on unit q in slot v
pub record SlotsOf (n : ℕ) (node : ℕ → Node) (s : Slots) : Type 0 where
  pub clash_is : s.clash ≡ clashes n node
  pub taken : (q v : ℕ) → in_mask (get_or s.occupied q 0) v ≡ some_of n (λ x. runs_in q v (node x))
  pub small : (q : ℕ) → get_or s.occupied q 0 < 2 ^ 32
