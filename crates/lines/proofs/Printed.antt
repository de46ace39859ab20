-- 01's prints, computed from the definitions: case 9 with K 16384 and −32768, and case 10's refusal. Assumes nothing.
use mathlib.Core.Path.{◌≡◌, refl}
use mathlib.Core.List.{List, [], ◌∷◌, ◌++◌}
use Prim.Native.Nat.{ℕ}
use Rattle.words.specs.Loops.{tab}
use Rattle.words.specs.Words.{signed}
use Rattle.plans.specs.Plan.{plan_read}
use Rattle.numerals.specs.Numerals.{ascii, digits, decimal, named, signed_named}
use Rattle.words.specs.Loops.{joined}
use Rattle.lines.specs.Prints.{print_9, print_10}
use Rattle.lines.specs.Text.{head_line, unit_line, node_line, switch_line, plan_text, refused_text, loop_text}

-- the bytes of case 9's plan
abbrev pub case_9 : List ℕ
case_9 =
    ascii "PH" ++ (4 ∷ 2 ∷ 2 ∷ 2 ∷ 1 ∷ 0 ∷ 1 ∷ [])
    ++ (ascii "PU" ++ (2 ∷ 1 ∷ 0 ∷ 0 ∷ 3 ∷ []))
    ++ (ascii "PU" ++ (2 ∷ 1 ∷ 2 ∷ 0 ∷ 3 ∷ []))
    ++ (ascii "PN" ++ (0 ∷ 0 ∷ 3 ∷ 0 ∷ 64 ∷ 1 ∷ 0 ∷ []))
    ++ (ascii "PN" ++ (1 ∷ 1 ∷ 3 ∷ 0 ∷ 128 ∷ 0 ∷ 0 ∷ []))
    ++ (ascii "PS" ++ (1 ∷ 0 ∷ 1 ∷ 0 ∷ 0 ∷ 0 ∷ []))
    ++ (ascii "PS" ++ (0 ∷ 0 ∷ 0 ∷ 1 ∷ 2 ∷ 0 ∷ []))

pub printed_9 : plan_text (plan_read case_9) ≡ print_9
unfolding plan_text plan_read tab joined head_line unit_line node_line switch_line named signed_named decimal digits signed
printed_9 = refl

pub printed_10 : loop_text (0 ∷ 1 ∷ []) ≡ print_10
unfolding loop_text joined named decimal digits
printed_10 = refl

pub printed_refusal : refused_text 3 ≡ ascii "refused 3\n"
unfolding refused_text named decimal digits
printed_refusal = refl
