-- What the text calls answer and leave in the lent buffer on every input. Assumes nothing.
use Rattle.std.specs.Prelude.{◌≡◌, Bool, cond, ◌&&◌, List, ℕ, ◌+◌, ◌*◌, ◌/◌, ◌%◌, ◌≤◌, ltb, leb, eqb, length, Result, Ok, Err}
use Rattle.words.specs.Loops.{first, unless, ◌then◌}
use Rattle.records.specs.Records.{at, over, between, most_units, most_nodes, most_wires, record_fault}
use Rattle.plans.specs.Plan.{loop_mark, loop_length, loop_read}
use Rattle.lines.specs.Text.{line_most}
use Rattle.records.specs.Numbers.{number_of, reason_number}
use Rattle.text.specs.declared.NoText.{NoText}
use Rattle.text.specs.declared.NoText.TheVariants as N

-- ---- answers

-- column no. of 01's table of refusals
abbrev pub no_text_number : NoText → ℕ
no_text_number (N.Refused why) = reason_number why
no_text_number (N.Short n) = 7

abbrev pub texted_number : Result ℕ NoText → ℕ
texted_number = number_of no_text_number

-- the length that it says: of the text at 0 and 7, otherwise 0
abbrev pub texted_length : Result ℕ NoText → ℕ
texted_length (Ok n) = n
texted_length (Err (N.Refused why)) = 0
texted_length (Err (N.Short n)) = n

-- no text is longer: a plan's has its header's line and one for each unit, node and switch
abbrev pub longest : ℕ
longest = line_most * (1 + most_units + most_nodes + most_wires)

-- what has the first fault `fault`, and else this text, is refused with it, and with 7 where the text does not fit the lent o
abbrev pub text_number : ℕ → List ℕ → List ℕ → ℕ
text_number fault text o = fault then unless (leb (length text) (length o)) 7

-- a call may answer `number` and `len`, and leave `after` where o was lent; a refusal changes nothing
pub record Texting (fault : ℕ) (text o : List ℕ) (number len : ℕ) (after : List ℕ) : Type 0 where
  pub number_is : number ≡ text_number fault text o
  pub length_is : len ≡ cond (eqb fault 0) (length text) 0
  pub out_is : after ≡ cond (eqb (text_number fault text o) 0) (over text o) o
  pub short : len ≤ longest

-- ---- the loop that bytes say: "`PW` and a wire number (3 bytes) for each wire of one closed loop", "each node met once"

abbrev pub wires_shown : List ℕ → ℕ
wires_shown b = length b / loop_length

abbrev pub wire_at : List ℕ → ℕ → ℕ
wire_at b i = at b (loop_length * i + 2)

abbrev pub loop_wires : List ℕ → List ℕ
loop_wires b = loop_read (length b) b

-- whole records, at least one, and no more than there may be nodes
abbrev pub loop_whole : List ℕ → Bool
loop_whole b = eqb (length b % loop_length) 0 && between 1 (wires_shown b) most_nodes

unfoldable pub wire_fault : List ℕ → ℕ → ℕ
wire_fault b i = record_fault b (loop_length * i) loop_mark (ltb (wire_at b i) most_wires)

-- the length, "then each record in file order, mark before range, first fault wins"
unfoldable pub loop_fault : List ℕ → ℕ
loop_fault b = unless (loop_whole b) 1 then first (wires_shown b) (wire_fault b)
