-- Words, numbers and named numbers as bytes of text. Assumes nothing.
use Rattle.std.specs.Prelude.{cond, List, [] as []ᴸ, ◌∷◌ as ◌∷ᴸ◌, ◌++◌, ℕ, zero, suc, ◌+◌, ◌/◌, ◌%◌, ltb, ℤ, pos, negsuc}
use Prim.Native.Char.{code}
use Prim.Native.String.{String, [], ◌∷◌}

-- a word's bytes: the code of each of its characters
abbrev pub ascii : String → List ℕ
ascii [] = []ᴸ
ascii (c ∷ s) = code c ∷ᴸ ascii s

-- a number below 10 as its digit
abbrev pub digit : ℕ → List ℕ
digit n = (48 + n) ∷ᴸ []ᴸ

-- the digits of n, at most k of them, the most significant first: those of n / 10 and then the last one; a number below 10 is one digit
unfoldable pub digits : ℕ → ℕ → List ℕ
digits zero n = []ᴸ
digits (suc k) n = cond (ltb n 10) (digit n) (digits k (n / 10) ++ digit (n % 10))

-- all digits of n, which are at most n + 1
unfoldable pub decimal : ℕ → List ℕ
decimal n = digits (suc n) n

-- "k -32768": a minus sign stands before the digits of a number below 0
abbrev pub signed_decimal : ℤ → List ℕ
signed_decimal (pos n) = decimal n
signed_decimal (negsuc n) = ascii "-" ++ decimal (suc n)

-- a name and its number, behind it
unfoldable pub named : List ℕ → ℕ → List ℕ
named name n = name ++ decimal n

abbrev pub field : String → ℕ → List ℕ
field name n = named (ascii name) n

unfoldable pub signed_named : List ℕ → ℤ → List ℕ
signed_named name z = name ++ signed_decimal z

abbrev pub signed_field : String → ℤ → List ℕ
signed_field name z = signed_named (ascii name) z

abbrev pub line_feed : List ℕ
line_feed = ascii "\n"
