-- Whole rounds and rests make the live counts, and the largest of them the register figure. Assumes nothing.
use mathlib.Core.Path.{◌≡◌, refl, sym, ap, ap₂, ◌∙◌}
use mathlib.Core.Bool.{Bool, true, false, cond}
use mathlib.Core.List.{List}
use Prim.Native.Nat.{ℕ, zero, suc, ◌+◌, ◌*◌, ◌/◌, ◌%◌, ◌^◌, ◌<◌, ◌≤◌}
use native.Mathlib.Nat.{div-lt_iff_lt-mul}
use native.Mathlib.Numerals.{add-one}
use native.Mathlib.Omega.{arith}
use lib.Dec.{ltb}
use lib.ListN.{length, get_or}
use lib.IntN.{pos}
use Rattle.times.specs.declared.Cycles.{Cycles}
use Rattle.words.specs.Loops.{total, largest}
use Rattle.times.specs.Times.{cycles_at}
use Rattle.words.proofs.LoopLaws.{total_cong, largest_cong}
use Rattle.words.proofs.CountLaws.{total_sum}
use Rattle.records.specs.Records.{most_nodes}
use Rattle.sheets.specs.declared.Sheet as Head
use Rattle.sheets.specs.Sheet.{sheet_of, node_of}
use Rattle.folding.specs.Walks.{start, foldable}
use Rattle.folding.specs.Folding.{net, depth_of}
use Rattle.folding.specs.Lifetime.{longest_wait, first_live, last_live, falls, live, registers}
use Rattle.folding.specs.Offset.{offset}
use Rattle.folding.proofs.LiveLaws.{falls_closed}
use Rattle.folding.proofs.FoldingLaws.{folds_well}
use Rattle.folding.proofs.SizeLaws.{small_of, last_lt, registers_fit}
use Rattle.waits.specs.Fine.{Fine, Longest, from_node}
use Rattle.waits.proofs.FineLaws.{passed_so, sound_so, nodes_so, within_so}
use Rattle.lifetimes.specs.declared.Live.{Live}
use Rattle.lifetimes.specs.Counts.{wait_of, rounds_of, rest_of, LiveOf}

-- a total of bits is at most their number
bits_le : (n : ℕ) (p : ℕ → Bool) → total n (λ x. cond (p x) 1 0) ≤ n
unfolding total
bits_le zero p = omega arith
bits_le (suc n) p = by_bit (p n) (bits_le n p)
  where
    by_bit : {a : ℕ} (b : Bool) → a ≤ n → a + cond b 1 0 ≤ suc n
    by_bit true h = omega arith
    by_bit false h = omega arith

-- the largest of sums with one number
largest_shift : (n c : ℕ) (f : ℕ → ℕ) → 0 < n → largest n (λ t. f t + c) ≡ largest n f + c
unfolding largest
largest_shift zero c f h = absurd (omega arith)
largest_shift (suc zero) c f h = omega arith
largest_shift (suc (suc n)) c f h = let ih = largest_shift (suc n) c f (omega arith) in omega arith

pub rest_le : (b : List ℕ) (n t : ℕ) → rest_of b n t ≤ n
rest_le b n t = bits_le n (λ x. ltb (offset (sheet_of b).fold (first_live (sheet_of b) x) t) (wait_of b x % (sheet_of b).fold))

-- one node more
pub rest_more : (b : List ℕ) (n t c r : ℕ) → c ≡ rest_of b n t → r ≡ c + cond (ltb (offset (sheet_of b).fold (first_live (sheet_of b) n) t) (wait_of b n % (sheet_of b).fold)) 1 0 → r ≡ rest_of b (n + 1) t
unfolding total
rest_more b n t c r ec er = rw (add-one n) (omega arith)

pub rounds_more : (b : List ℕ) (n c : ℕ) → c ≡ rounds_of b n → c + wait_of b n / (sheet_of b).fold ≡ rounds_of b (n + 1)
unfolding total
rounds_more b n c e = rw (add-one n) (omega arith)

module _ (b : List ℕ) (s : Head.Sheet) (f : Fine b s) (folds : foldable (net (sheet_of b)) ≡ true) where
  -- node x's longest wait, as the array has it
  pub wait_so : (longest : List Cycles) → Longest b (from_node b) most_nodes longest → (x : ℕ) → x < s.nodes → cycles_at longest x ≡ pos (wait_of b x)
  unfolding longest_wait
  wait_so longest l x h = l x (omega (arith, (within_so b s f).few_nodes))

  wait_lt : (x : ℕ) → wait_of b x / (sheet_of b).fold < 816
  wait_lt x =
      let sn = sound_so b s f in
      (div-lt_iff_lt-mul sn.turns).1 (last_lt (sheet_of b) sn (small_of b (passed_so b s f)) (folds_well (sheet_of b) sn folds) x)

  pub rounds_le : (n : ℕ) → rounds_of b n ≤ n * 816
  unfolding total
  rounds_le zero = omega arith
  rounds_le (suc n) = omega (arith, rounds_le n, wait_lt n)

  live_so : (t : ℕ) → t < (sheet_of b).fold → live (sheet_of b) (start (net (sheet_of b))) t ≡ rest_of b s.nodes t + rounds_of b s.nodes
  unfolding live
  live_so t h =
      let sh = sheet_of b in
      let n = sh.fold in
      let r = start (net sh) in
      let rest : ℕ → ℕ = λ x. cond (ltb (offset n (first_live sh x) t) (wait_of b x % n)) 1 0 in
      total_cong (length sh.nodes) (λ x. falls n (first_live sh x) (last_live sh r x) t) (λ x. rest x + wait_of b x / n)
      (λ x hx. falls_closed n (sound_so b s f).turns ((node_of sh x).slot + depth_of sh x) (wait_of b x) t h ∙ (let e : wait_of b x / n + rest x ≡ rest x + wait_of b x / n = omega arith in e))
      ∙ total_sum (length sh.nodes) rest (λ x. wait_of b x / n)
      ∙ rw (nodes_so b s f) refl

  -- a slot's rest and the whole rounds are its live count, which fits a word
  pub slot_so : (r : Live) → LiveOf b s.nodes r → (t : ℕ) → t < (sheet_of b).fold → get_or r.counts t 0 + r.turns ≡ live (sheet_of b) (start (net (sheet_of b))) t
  slot_so r l t h = ap₂ (λ (c n : ℕ). c + n) (l.counts_so t h) l.turns_so ∙ sym (live_so t h)

  pub slot_fits : (r : Live) → LiveOf b s.nodes r → (t : ℕ) → t < (sheet_of b).fold → get_or r.counts t 0 + r.turns < 2 ^ 32
  slot_fits r l t h = omega (arith, l.counts_so t h, l.turns_so, rest_le b s.nodes t, rounds_le s.nodes, (within_so b s f).few_nodes)

  -- the largest rest and the whole rounds are the register figure, which fits two bytes
  pub registers_so : (r : Live) → LiveOf b s.nodes r → (largest (sheet_of b).fold (λ t. get_or r.counts t 0) + r.turns ≡ registers (sheet_of b) (start (net (sheet_of b))))
  unfolding registers
  registers_so r l =
      let sh = sheet_of b in
      let n = sh.fold in
      ap (λ (c : ℕ). largest n (λ t. get_or r.counts t 0) + c) l.turns_so
      ∙ sym (largest_shift n (rounds_of b s.nodes) (λ t. get_or r.counts t 0) (sound_so b s f).turns)
      ∙ largest_cong n (λ t. get_or r.counts t 0 + rounds_of b s.nodes) (live sh (start (net sh)))
      (λ t h. ap (λ (c : ℕ). c + rounds_of b s.nodes) (l.counts_so t h) ∙ sym (live_so t h))

  pub registers_narrow : registers (sheet_of b) (start (net (sheet_of b))) < 65536
  registers_narrow = let sn = sound_so b s f in registers_fit (sheet_of b) sn (small_of b (passed_so b s f)) (folds_well (sheet_of b) sn folds)
