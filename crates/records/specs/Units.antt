-- Unit kinds and ops: the table of 01, "The graph's arithmetic". Assumes nothing.
use Rattle.std.specs.Prelude.{Bool, cond, ◌&&◌, ℕ, leb, eqb, ℤ, pos, negsuc}
use Rattle.std.specs.Int.Signed.{le_z}
use Rattle.words.specs.Words.{sum, difference, scale}
use Rattle.records.specs.declared.Unit.{Unit}

-- "Unit kinds 0 port, 1 adder, 2 multiplier."
abbrev pub port : ℕ
port = 0

abbrev pub adder : ℕ
adder = 1

abbrev pub multiplier : ℕ
multiplier = 2

-- column op: "0 port", "1 sum", "2 difference", "3 scale"
abbrev pub op_port : ℕ
op_port = 0

abbrev pub op_sum : ℕ
op_sum = 1

abbrev pub op_difference : ℕ
op_difference = 2

abbrev pub op_scale : ℕ
op_scale = 3

abbrev pub last_op : ℕ
last_op = op_scale

-- column unit kind: the kind of unit that an op runs on
abbrev pub kind_of : ℕ → ℕ
kind_of op = cond (eqb op op_port) port (cond (eqb op op_scale) multiplier adder)

-- column inputs. It goes by the kind: all ops of one kind have the same number of inputs
abbrev pub inputs : ℕ → ℕ
inputs kind = cond (eqb kind port) 0 (cond (eqb kind adder) 2 1)

abbrev pub inputs_of : ℕ → ℕ
inputs_of op = inputs (kind_of op)

-- column K: "channel 0 to 15", "0", "0", "−32,768 to 32,767"
abbrev pub channels : ℕ
channels = 16

abbrev pub k_least : ℕ → ℤ
k_least op = cond (eqb op op_scale) (negsuc 32767) (pos 0)

abbrev pub k_most : ℕ → ℤ
k_most op = cond (eqb op op_port) (pos 15) (cond (eqb op op_scale) (pos 32767) (pos 0))

abbrev pub k_fits : ℕ → ℤ → Bool
k_fits op k = le_z (k_least op) k && le_z k (k_most op)

-- column value: by the op's number, of its K, its channel's sample and the words at its inputs 0 and 1
unfoldable pub value : ℕ → ℤ → ℕ → ℕ → ℕ → ℕ
value op k sample a b =
    cond (eqb op op_port) sample
    (cond (eqb op op_sum) (sum a b) (cond (eqb op op_difference) (difference a b) (cond (eqb op op_scale) (scale k a) 0)))

-- "depth 1 to 16"
abbrev pub least_depth : ℕ
least_depth = 1

abbrev pub most_depth : ℕ
most_depth = 16

-- a unit's own ranges
abbrev pub unit_fits : Unit → Bool
unit_fits u = leb u.kind multiplier && leb least_depth u.depth && leb u.depth most_depth

-- "The unfolded graph's values before iteration 0 are 0": the word of every node before its first. Below its start a node gives it,
-- and cleared memory holds it
abbrev pub word_before : ℕ
word_before = 0
