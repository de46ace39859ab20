-- The sheets worked by hand, cases 1 to 12, and what the paper says of each: 01, "Sheets worked by hand". Assumes nothing.
use Rattle.std.specs.Prelude.{◌≡◌, ◌↔◌, cond, List, [], ◌∷◌, map, ℕ, zero, suc, eqb, length, ℤ, pos, negsuc, ◌+ℤ◌}
use Rattle.words.specs.Loops.{tab}
use Rattle.words.specs.Words.{floor, scale}
use Rattle.sheets.specs.Sheet.{Sheet, sheet_of}
use Rattle.folding.specs.Walks.{Net, Loop, start, chain}
use Rattle.folding.specs.Folding.{net, raw, bound, tap}
use Rattle.folding.specs.Lifetime.{registers}
use Rattle.drawing.specs.PlanOf.{plan_length}
use Rattle.planner.specs.Planning.{plan_number}
use Rattle.lines.specs.Prints.{print_9, print_10}
use Rattle.demands.specs.Demands.{Among, Prints}

-- "Multipliers A, B on units 0, 1, depth 1, N=4, A slot 0, B slot 1, A→B one delay, B→A none", with "K 16384 and −32768"; case 10 is
-- "Same, B in slot 0"
unfoldable pub loop_of_two : ℕ → List ℕ
loop_of_two slot =
    70 ∷ 72 ∷ 4 ∷ 2 ∷ 2 ∷ 2 ∷ 70 ∷ 85 ∷ 2 ∷ 1 ∷ 70 ∷ 85 ∷ 2 ∷ 1
    ∷ 70 ∷ 78 ∷ 0 ∷ 0 ∷ 3 ∷ 0 ∷ 64 ∷ 70 ∷ 78 ∷ 1 ∷ slot ∷ 3 ∷ 0 ∷ 128
    ∷ 70 ∷ 69 ∷ 0 ∷ 1 ∷ 0 ∷ 1 ∷ 70 ∷ 69 ∷ 1 ∷ 0 ∷ 0 ∷ 0 ∷ []

-- "One scale node wired to itself, N=1, depth 1"
unfoldable pub loop_of_one : ℕ → List ℕ
loop_of_one delays =
    70 ∷ 72 ∷ 1 ∷ 1 ∷ 1 ∷ 1 ∷ 70 ∷ 85 ∷ 2 ∷ 1 ∷ 70 ∷ 78 ∷ 0 ∷ 0 ∷ 3 ∷ 0 ∷ 64 ∷ 70 ∷ 69 ∷ 0 ∷ 0 ∷ 0 ∷ delays ∷ []

-- "Bounds of document 000, example 10 (A1→A2 −1, A2→A3 −1, A3→A4 0, A1→A4 0)": four wires, by number
abbrev pub one_of_four : ℕ → ℕ → ℕ → ℕ → ℕ → ℕ
one_of_four a b c d zero = a
one_of_four a b c d (suc zero) = b
one_of_four a b c d (suc (suc zero)) = c
one_of_four a b c d (suc (suc (suc n))) = d

abbrev pub example_10_bound : ℕ → ℤ
example_10_bound zero = negsuc 0
example_10_bound (suc zero) = negsuc 0
example_10_bound (suc (suc n)) = pos 0

abbrev pub example_10 : Net
example_10 = record { nodes = 4; wires = 4; from = one_of_four 0 1 2 0; to = one_of_four 1 2 3 3; bound = example_10_bound }

-- ---- what the definitions give

-- of a sheet with room for its plan: the planner's number, raw waits, bounds; where it passes starts, taps, and registers and chain
unfoldable pub sheet_figures : List ℕ → List (List ℤ)
sheet_figures b =
    let s = sheet_of b in
    let number = plan_number b (plan_length b) in
    let r = start (net s) in
    (pos number ∷ []) ∷ tab (length s.wires) (raw s) ∷ tab (length s.wires) (bound s)
    ∷ cond (eqb number 0)
    (map pos (tab (length s.nodes) r) ∷ map pos (tab (length s.wires) (tap s r)) ∷ map pos (registers s r ∷ chain (net s) ∷ []) ∷ [])
    []

-- the raw waits of these wires together
abbrev pub raw_total : Sheet → List ℕ → ℤ
raw_total s [] = pos 0
raw_total s (e ∷ es) = raw s e +ℤ raw_total s es

-- these wires, in this order, are a loop as it is shown at 6
abbrev pub LoopOf : Net → List ℕ → Type 0
LoopOf g [] = ⊥
LoopOf g (e ∷ es) = Loop g e es

-- ---- the table

-- a case by its number: its figures by the definitions, and what the paper says they are; its net, and the net's loops: "loop wires 0, 1",
-- the wire of the node that is wired to itself without delay, and none where the case passes
pub record Case : Type 0 where
  pub case : ℕ
  pub gives : List (List ℤ)
  pub says : List (List ℤ)
  pub net : Net
  pub loops : List (List ℕ)

-- the figures are the paper's, and a list of wires is a loop that 6 may show exactly where it is one of these
pub record Holds (c : Case) : Type 0 where
  pub figures : c.gives ≡ c.says
  pub shown : (l : List ℕ) → LoopOf c.net l ↔ Among (λ (shown : List ℕ). shown ≡ l) c.loops

-- every element of a list
abbrev pub Each : {A : Type 0} → (A → Type 0) → List A → Type 0
Each P [] = Unit {0}
Each P (a ∷ l) = P a × Each P l

-- the net of a case about one number
abbrev pub no_net : Net
no_net = record { nodes = 0; wires = 0; from = λ e. 0; to = λ e. 0; bound = λ e. pos 0 }

abbrev pub plain_case : ℕ → ℤ → ℤ → Case
plain_case case gives says = record { case = case; gives = (gives ∷ []) ∷ []; says = (says ∷ []) ∷ []; net = no_net; loops = [] }

unfoldable pub table : List Case
table =
    -- "So −1 with N=4 gives −1, −4 gives −1, −5 gives −2, 3 gives 0"
    plain_case 1 (floor (negsuc 0) 4) (negsuc 0)
    ∷ plain_case 2 (floor (negsuc 3) 4) (negsuc 0)
    ∷ plain_case 3 (floor (negsuc 4) 4) (negsuc 1)
    ∷ plain_case 4 (floor (pos 3) 4) (pos 0)
    -- "1 by 16384 gives 0; −1 by 16384 gives −1; 3 by −16384 gives −2; −2^31 by −32,768 gives the word 2147483648"
    ∷ plain_case 5 (pos (scale (pos 16384) 1)) (pos 0)
    ∷ plain_case 6 (pos (scale (pos 16384) 4294967295)) (pos 4294967295)
    ∷ plain_case 7 (pos (scale (negsuc 16383) 3)) (pos 4294967294)
    ∷ plain_case 8 (pos (scale (negsuc 32767) 2147483648)) (pos 2147483648)
    -- "Raw waits 4, −2; bounds 1, −1; starts 1, 0; taps 0, 2"; registers 1 and chain 1 as the listing prints them
    ∷ record {
      case = 9;
      gives = sheet_figures (loop_of_two 1);
      says = (pos 0 ∷ []) ∷ (pos 4 ∷ negsuc 1 ∷ []) ∷ (pos 1 ∷ negsuc 0 ∷ []) ∷ (pos 1 ∷ pos 0 ∷ []) ∷ (pos 0 ∷ pos 2 ∷ []) ∷ (pos 1 ∷ pos 1 ∷ []) ∷ [];
      net = net (sheet_of (loop_of_two 1));
      loops = [];
    }
    -- "raw waits 3, −1, bounds 0, −1: refused 6, loop wires 0, 1, though the raw waits total 2"
    ∷ record {
      case = 10;
      gives = (raw_total (sheet_of (loop_of_two 0)) (0 ∷ 1 ∷ []) ∷ []) ∷ sheet_figures (loop_of_two 0);
      says = (pos 2 ∷ []) ∷ (pos 6 ∷ []) ∷ (pos 3 ∷ negsuc 0 ∷ []) ∷ (pos 0 ∷ negsuc 0 ∷ []) ∷ [];
      net = net (sheet_of (loop_of_two 0));
      loops = (0 ∷ 1 ∷ []) ∷ [];
    }
    -- "no delay refused; one delay passes with tap 0"
    ∷ record {
      case = 11;
      gives = sheet_figures (loop_of_one 0);
      says = (pos 6 ∷ []) ∷ (negsuc 0 ∷ []) ∷ (negsuc 0 ∷ []) ∷ [];
      net = net (sheet_of (loop_of_one 0));
      loops = (0 ∷ []) ∷ [];
    }
    ∷ record {
      case = 11;
      gives = sheet_figures (loop_of_one 1);
      says = (pos 0 ∷ []) ∷ (pos 0 ∷ []) ∷ (pos 0 ∷ []) ∷ (pos 0 ∷ []) ∷ (pos 0 ∷ []) ∷ (pos 0 ∷ pos 0 ∷ []) ∷ [];
      net = net (sheet_of (loop_of_one 1));
      loops = [];
    }
    -- "starts 0, 1, 2, 2; chain 2"
    ∷ record {
      case = 12;
      gives = map pos (tab 4 (start example_10)) ∷ map pos (chain example_10 ∷ []) ∷ [];
      says = (pos 0 ∷ pos 1 ∷ pos 2 ∷ pos 2 ∷ []) ∷ (pos 2 ∷ []) ∷ [];
      net = example_10;
      loops = [];
    } ∷ []

-- "the whole print is", "Case 10 prints `refused 6 wires 0 1`"
pub record Printed : Type 0 where
  pub case_9 : Prints (loop_of_two 1) print_9
  pub case_10 : Prints (loop_of_two 0) print_10

-- ---- run and compared, and here evaluated too

-- "the biquad of document 001 before retiming (its nodes 1 to 8) with a port node 9, own unit, depth 1, slot 2, wire 9→1 without delay";
-- its gains are the filter author's, here 1/2, 1/4, −1/2 and −1/4
unfoldable pub biquad : List ℕ
biquad =
    70 ∷ 72 ∷ 4 ∷ 3 ∷ 9 ∷ 12 ∷ 70 ∷ 85 ∷ 1 ∷ 1 ∷ 70 ∷ 85 ∷ 2 ∷ 2 ∷ 70 ∷ 85 ∷ 0 ∷ 1
    ∷ 70 ∷ 78 ∷ 0 ∷ 3 ∷ 1 ∷ 0 ∷ 0 ∷ 70 ∷ 78 ∷ 0 ∷ 1 ∷ 1 ∷ 0 ∷ 0 ∷ 70 ∷ 78 ∷ 0 ∷ 2 ∷ 1 ∷ 0 ∷ 0
    ∷ 70 ∷ 78 ∷ 0 ∷ 0 ∷ 1 ∷ 0 ∷ 0 ∷ 70 ∷ 78 ∷ 1 ∷ 0 ∷ 3 ∷ 0 ∷ 64 ∷ 70 ∷ 78 ∷ 1 ∷ 2 ∷ 3 ∷ 0 ∷ 32
    ∷ 70 ∷ 78 ∷ 1 ∷ 3 ∷ 3 ∷ 0 ∷ 192 ∷ 70 ∷ 78 ∷ 1 ∷ 1 ∷ 3 ∷ 0 ∷ 224 ∷ 70 ∷ 78 ∷ 2 ∷ 2 ∷ 0 ∷ 0 ∷ 0
    ∷ 70 ∷ 69 ∷ 0 ∷ 1 ∷ 0 ∷ 0 ∷ 70 ∷ 69 ∷ 0 ∷ 4 ∷ 0 ∷ 1 ∷ 70 ∷ 69 ∷ 0 ∷ 5 ∷ 0 ∷ 1 ∷ 70 ∷ 69 ∷ 0 ∷ 6 ∷ 0 ∷ 2
    ∷ 70 ∷ 69 ∷ 0 ∷ 7 ∷ 0 ∷ 2 ∷ 70 ∷ 69 ∷ 2 ∷ 0 ∷ 0 ∷ 0 ∷ 70 ∷ 69 ∷ 3 ∷ 1 ∷ 1 ∷ 0 ∷ 70 ∷ 69 ∷ 4 ∷ 2 ∷ 0 ∷ 0
    ∷ 70 ∷ 69 ∷ 5 ∷ 3 ∷ 0 ∷ 0 ∷ 70 ∷ 69 ∷ 6 ∷ 2 ∷ 1 ∷ 0 ∷ 70 ∷ 69 ∷ 7 ∷ 3 ∷ 1 ∷ 0 ∷ 70 ∷ 69 ∷ 8 ∷ 0 ∷ 1 ∷ 0 ∷ []

-- a port on channel 3 into a scale by a half, N=1, depths 1 and 2
unfoldable pub port_and_scale : List ℕ
port_and_scale =
    70 ∷ 72 ∷ 1 ∷ 2 ∷ 2 ∷ 1 ∷ 70 ∷ 85 ∷ 0 ∷ 1 ∷ 70 ∷ 85 ∷ 2 ∷ 2 ∷ 70 ∷ 78 ∷ 0 ∷ 0 ∷ 0 ∷ 3 ∷ 0 ∷ 70 ∷ 78 ∷ 1 ∷ 0 ∷ 3 ∷ 0 ∷ 64 ∷ 70 ∷ 69 ∷ 0 ∷ 1 ∷ 0 ∷ 0 ∷ []
