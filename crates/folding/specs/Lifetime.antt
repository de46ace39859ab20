-- Live cycles and registers of a sheet with starts r: 01, "Registers". Assumes nothing.
use Rattle.std.specs.Prelude.{Bool, cond, ◌&&◌, ℕ, suc, ◌+◌, ◌*◌, ◌-◌, ◌%◌, ltb, leb, eqb, length}
use Rattle.words.specs.Loops.{total, largest, count}
use Rattle.sheets.specs.Sheet.{Sheet, node_of, wire_of}
use Rattle.folding.specs.Folding.{depth_of, tap}

-- "largest wait of its wires": those that leave node u
unfoldable pub longest_wait : Sheet → (ℕ → ℕ) → ℕ → ℕ
longest_wait s r u = largest (length s.wires) (λ e. cond (eqb (wire_of s e).from u) (tap s r e) 0)

-- "a node's word is live from cycle u+P+1 up to u+P+(largest wait of its wires), both counted; no cycle if that wait is 0 or it has no wire"
abbrev pub first_live : Sheet → ℕ → ℕ
first_live s u = (node_of s u).slot + depth_of s u + 1

abbrev pub last_live : Sheet → (ℕ → ℕ) → ℕ → ℕ
last_live s r u = (node_of s u).slot + depth_of s u + longest_wait s r u

-- "A live cycle counts in slot (cycle mod N), each time it falls there": how many of the cycles first, .., last fall in slot t
unfoldable pub falls : ℕ → ℕ → ℕ → ℕ → ℕ
falls fold first last t = count (suc last - first) (λ i. eqb ((first + i) % fold) t)

-- the live count of slot t
unfoldable pub live : Sheet → (ℕ → ℕ) → ℕ → ℕ
live s r t = total (length s.nodes) (λ u. falls s.fold (first_live s u) (last_live s r u) t)

-- "Registers = the largest count of any slot."
unfoldable pub registers : Sheet → (ℕ → ℕ) → ℕ
registers s r = largest s.fold (live s r)

-- ---- what the figure means

-- the word of node u of iteration l leaves its unit at cycle Nl+u+P, and waits until it has been read for the last time
abbrev pub waits_at : Sheet → (ℕ → ℕ) → ℕ → ℕ → ℕ → Bool
waits_at s r t u l =
    let left = s.fold * l + ((node_of s u).slot + depth_of s u) in
    ltb left t && leb t (left + longest_wait s r u)

-- how many words wait at cycle t. A word of an iteration above t has not begun
unfoldable pub waiting : Sheet → (ℕ → ℕ) → ℕ → ℕ
waiting s r t = total (length s.nodes) (λ u. count (suc t) (waits_at s r t u))
