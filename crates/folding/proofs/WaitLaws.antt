-- All waits are nonnegative exactly where the retiming meets every bound. Assumes nothing.
use mathlib.Core.Path.{◌≡◌, ap}
use Prim.Native.Nat.{ℕ, ◌+◌, ◌*◌, ◌<◌}
use native.Mathlib.Omega.{arith}
use lib.IntN.{ℤ, pos, ◌-ℤ◌, ◌*ℤ◌}
use lib.Signed.{◌≤ℤ◌}
use Rattle.words.proofs.Ints.{up, down, ints, sumℤ, difℤ, timesℤ, up_pos, down_pos}
use Rattle.words.proofs.FloorLaws.{floor_up, floor_down}
use Rattle.sheets.specs.Sheet.{Sheet, wire_of}
use Rattle.folding.specs.Walks.{Meets}
use Rattle.folding.specs.Folding.{raw, bound, wait, net, Retiming}

-- n (b − a) against n (a − b)
turn_round : (n : ℕ) (a b d : ℤ) → (up (pos n *ℤ (b -ℤ a)) + up (pos n *ℤ (a -ℤ b)) ≡ down (pos n *ℤ (b -ℤ a)) + down (pos n *ℤ (a -ℤ b)))
turn_round n a b d =
    let x = b -ℤ a in
    let y = a -ℤ b in
    let l : up x + up y ≡ down x + down y = omega (arith, difℤ a b, difℤ b a) in
    let nl : n * (up x + up y) ≡ n * (down x + down y) = ap (λ (z : ℕ). n * z) l in
    omega (arith, (timesℤ n x).0, (timesℤ n x).1, (timesℤ n y).0, (timesℤ n y).1)

pub wait_meets : (s : Sheet) → 0 < s.fold → (r : ℕ → ℤ) (e : ℕ) → pos 0 ≤ℤ wait s r e → (r (wire_of s e).from -ℤ r (wire_of s e).to) ≤ℤ bound s e
unfolding wait bound
wait_meets s h r e k =
    let n = s.fold in
    let a = r (wire_of s e).from in
    let b = r (wire_of s e).to in
    floor_up n h (a -ℤ b) (raw s e) (omega (ints, sumℤ (raw s e) (pos n *ℤ (b -ℤ a)), turn_round n a b (raw s e), up_pos 0, down_pos 0))

pub meets_wait : (s : Sheet) → 0 < s.fold → (r : ℕ → ℤ) (e : ℕ) → (r (wire_of s e).from -ℤ r (wire_of s e).to) ≤ℤ bound s e → pos 0 ≤ℤ wait s r e
unfolding wait bound
meets_wait s h r e k =
    let n = s.fold in
    let a = r (wire_of s e).from in
    let b = r (wire_of s e).to in
    let l = floor_down n h (a -ℤ b) (raw s e) k in
    omega (ints, sumℤ (raw s e) (pos n *ℤ (b -ℤ a)), turn_round n a b (raw s e), up_pos 0, down_pos 0)

pub retiming_meets : (s : Sheet) → 0 < s.fold → (r : ℕ → ℤ) → Retiming s r → Meets (net s) r
retiming_meets s h r rt e he = wait_meets s h r e (rt e he)

pub meets_retiming : (s : Sheet) → 0 < s.fold → (r : ℕ → ℤ) → Meets (net s) r → Retiming s r
meets_retiming s h r mt e he = meets_wait s h r e (mt e he)
