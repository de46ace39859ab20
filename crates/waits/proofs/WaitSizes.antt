-- A wait's parts fit the code's integers, and after the starts of a foldable sheet it is the tap. Assumes nothing.
use mathlib.Core.Path.{◌≡◌, sym}
use mathlib.Core.List.{List}
use Prim.Native.Nat.{ℕ, ◌+◌, ◌*◌, ◌<◌, ◌≤◌}
use native.Mathlib.Nat.{mul-le-mul}
use native.Mathlib.Omega.{arith}
use lib.ListN.{length}
use lib.IntN.{ℤ, pos, negsuc, ◌+ℤ◌, ◌-ℤ◌, ◌*ℤ◌}
use mir.Syntax.{w32}
use mir.Val.{SFits}
use Rattle.times.specs.declared.Iterations.{Iterations}
use Rattle.times.specs.Times.{iterations_at}
use Rattle.words.proofs.Ints.{up, down, timesℤ, le_up, up_le, from_pos}
use Rattle.words.proofs.FitLaws.{fits, sum_size, dif_size}
use Rattle.sheets.specs.declared.Sheet as Head
use Rattle.sheets.specs.Sheet.{node_of, wire_of, sheet_of}
use Rattle.folding.specs.Walks.{start}
use Rattle.folding.specs.Folding.{net, depth_of, raw, wait, tap}
use Rattle.folding.proofs.FoldingLaws.{folds_well}
use Rattle.folding.proofs.SizeLaws.{small_of, start_le}
use Rattle.waits.specs.Fine.{Fine, Started, Near}
use Rattle.waits.proofs.FineLaws.{passed_so, sound_so, fold_so, nodes_so, wires_so, within_so}

near_size : (z : ℤ) → Near z → (up z ≤ 752) × (down z ≤ 0)
unfolding up down
near_size (pos n) h = (omega (arith, le_up h.1), omega arith)
near_size (negsuc n) h = absurd (omega (arith, le_up h.0))

-- the difference of two starts, and the same in cycles
gap_size : (a b : ℤ) → Near a → Near b → (up (b -ℤ a) ≤ 752) × (down (b -ℤ a) ≤ 752)
gap_size a b ha hb = let s = dif_size b a in (omega (arith, s.0, (near_size a ha).1, (near_size b hb).0), omega (arith, s.1, (near_size a ha).0, (near_size b hb).1))

pub gap_fits_too : (a b : ℤ) → Near a → Near b → SFits w32 (b -ℤ a)
gap_fits_too a b ha hb = let s = gap_size a b ha hb in fits (b -ℤ a) (omega (arith, s.0)) (omega (arith, s.1))

turns_size : (n : ℕ) (a b : ℤ) → n ≤ 32 → Near a → Near b → (up (pos n *ℤ (b -ℤ a)) ≤ 24064) × (down (pos n *ℤ (b -ℤ a)) ≤ 24064)
turns_size n a b h ha hb =
    let s = gap_size a b ha hb in
    let t = timesℤ n (b -ℤ a) in
    (omega (arith, t.0, mul-le-mul h s.0), omega (arith, t.1, mul-le-mul h s.1))

pub turns_fit : (n : ℕ) (a b : ℤ) → n ≤ 32 → Near a → Near b → SFits w32 (pos n *ℤ (b -ℤ a))
turns_fit n a b h ha hb = let s = turns_size n a b h ha hb in fits (pos n *ℤ (b -ℤ a)) (omega (arith, s.0)) (omega (arith, s.1))

module _ (b : List ℕ) (s : Head.Sheet) (f : Fine b s) where
  raw_size : (e : ℕ) → e < s.wires → (up (raw (sheet_of b) e) ≤ 2047) × (down (raw (sheet_of b) e) ≤ 48)
  unfolding raw up down
  raw_size e h =
      let sh = sheet_of b in
      let w = wire_of sh e in
      let sn = sound_so b s f in
      let sm = small_of b (passed_so b s f) in
      let he : e < length sh.wires = omega (arith, wires_so b s f) in
      let d = dif_size (pos (sh.fold * w.delays + (node_of sh w.to).slot)) (pos (depth_of sh w.from + (node_of sh w.from).slot)) in
      let turn : sh.fold * w.delays ≤ 32 * 63 = mul-le-mul sm.fold (sm.delays e he) in (
        omega (arith, d.0, turn, sn.in_turn w.to (sn.meets e he), sm.fold),
        omega (arith, d.1, sm.depth w.from (sn.leaves e he), sn.in_turn w.from (sn.leaves e he), sm.fold),
      )

  pub wait_fits : (e : ℕ) → e < s.wires → (a c : ℤ) → Near a → Near c → SFits w32 (raw (sheet_of b) e +ℤ pos s.fold *ℤ (c -ℤ a))
  wait_fits e h a c ha hc =
      let x = raw (sheet_of b) e in
      let y = pos s.fold *ℤ (c -ℤ a) in
      let d = sum_size x y in
      let r = raw_size e h in
      let t = turns_size s.fold a c (within_so b s f).fold_most ha hc in
      fits (x +ℤ y) (omega (arith, d.0, r.0, t.0)) (omega (arith, d.1, r.1, t.1))

  -- a start lies in its range
  pub start_near : (starts : List Iterations) → Started b starts → (u : ℕ) → u < s.nodes → Near (iterations_at starts u)
  unfolding up down
  start_near starts st u h =
      let hu : u < length (sheet_of b).nodes = omega (arith, nodes_so b s f) in
      let is = st.starts_so u hu in
      (from_pos _ is, rw is (up_le (omega (arith, start_le (sheet_of b) (sound_so b s f) (small_of b (passed_so b s f)) u hu))))

  -- the wait between the starts is the tap
  pub wait_is_tap : (starts : List Iterations) → Started b starts → (e : ℕ) → e < s.wires →
      raw (sheet_of b) e +ℤ pos s.fold *ℤ (iterations_at starts (wire_of (sheet_of b) e).to -ℤ iterations_at starts (wire_of (sheet_of b) e).from)
      ≡ pos (tap (sheet_of b) (start (net (sheet_of b))) e)
  unfolding wait
  wait_is_tap starts st e h =
      let sh = sheet_of b in
      let sn = sound_so b s f in
      let he : e < length sh.wires = omega (arith, wires_so b s f) in
      let ok = folds_well sh sn st.folds in
      rw (fold_so b s f, st.starts_so (wire_of sh e).to (sn.meets e he), st.starts_so (wire_of sh e).from (sn.leaves e he)) (sym (ok.tap_is e he))
