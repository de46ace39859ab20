-- The two prints that 01 shows whole: "Sheets worked by hand", its end. Every line ends with a line feed. Assumes nothing.
use Rattle.std.specs.Prelude.{List, ◌++◌, ℕ}
use Rattle.numerals.specs.Numerals.{ascii}

-- "For case 9 with K 16384 and −32768 the sheet is 40 bytes and the whole print is"
abbrev pub print_9 : List ℕ
print_9 =
    ascii "fold 4 units 2 nodes 2 wires 2 registers 1 chain 1\n"
    ++ (ascii "unit 0 kind 2 depth 1 line 0 idle 3\n"
    ++ (ascii "unit 1 kind 2 depth 1 line 2 idle 3\n"
    ++ (ascii "node 0 unit 0 slot 0 op 3 k 16384 start 1\n"
    ++ (ascii "node 1 unit 1 slot 1 op 3 k -32768 start 0\n"
    ++ (ascii "switch 0 unit 1 input 0 slot 1 source 0 tap 0\n"
    ++ ascii "switch 1 unit 0 input 0 slot 0 source 1 tap 2\n")))))

-- "Case 10 prints `refused 6 wires 0 1`"
abbrev pub print_10 : List ℕ
print_10 = ascii "refused 6 wires 0 1\n"
