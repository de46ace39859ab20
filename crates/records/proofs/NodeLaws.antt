-- What a node in its ranges and nodes that do not clash are known to be. Assumes nothing.
use mathlib.Core.Path.{◌≡◌, refl, sym, ap, ◌∙◌}
use mathlib.Core.Logic.{inl, inr}
use mathlib.Core.Bool.{Bool, true, false, ◌&&◌, true≢false}
use Prim.Native.Nat.{ℕ, ◌<◌, ◌≤◌}
use native.Mathlib.Decide.{ℕ_discrete}
use native.Mathlib.Omega.{arith}
use lib.Dec.{ltb, leb, eqb, lit<}
use lib.IntN.{ℤ, pos, negsuc, nat_abs}
use lib.Signed.{mag, le_z, ◌≤ℤ◌, ≤ℤ_refl}
use borrow.Author.Tests.{ltb-true, ltb-false, leb-true, eqb-true, eq-eqb}
use Rattle.words.specs.Loops.{some_of}
use Rattle.words.specs.Words.{turn}
use Rattle.words.proofs.Ints.{up, down, le_up, leZ_true, ≤ℤ_trans}
use Rattle.words.proofs.WordLaws.{sum_below, difference_below, scale_below}
use Rattle.words.proofs.LoopLaws.{passed?, and_split}
use Rattle.words.proofs.FaultLaws.{or_split, none_of}
use Rattle.records.specs.declared.Unit.{Unit}
use Rattle.records.specs.declared.Node.{Node}
use Rattle.records.specs.Units.{port, adder, inputs, op_port, op_sum, op_difference, op_scale, last_op, value, kind_of, multiplier, least_depth, most_depth, k_least, k_most, k_fits, unit_fits, channels}
use Rattle.records.specs.Records.{node_fits, clash, clashes}
use Rattle.records.specs.Answers.{channel_of}

pub record UnitFits (u : Unit) : Type 0 where
  pub kind_most : u.kind ≤ multiplier
  pub deep : least_depth ≤ u.depth
  pub depth_most : u.depth ≤ most_depth

pub unit_split : (u : Unit) → unit_fits u ≡ true → UnitFits u
unit_split u h =
    let t = and_split (leb u.kind multiplier && leb least_depth u.depth) (leb u.depth most_depth) h in
    let k = and_split (leb u.kind multiplier) (leb least_depth u.depth) t.0 in
    record {
      kind_most = leb-true u.kind multiplier k.0;
      deep = leb-true least_depth u.depth k.1;
      depth_most = leb-true u.depth most_depth t.1;
    }

pub record NodeFits (fold units : ℕ) (unit : ℕ → Unit) (n : Node) : Type 0 where
  pub on_unit : n.unit < units
  pub in_turn : n.slot < fold
  pub op_most : n.op ≤ last_op
  pub of_kind : (unit n.unit).kind ≡ kind_of n.op
  pub k_least_le : k_least n.op ≤ℤ n.k
  pub k_most_ge : n.k ≤ℤ k_most n.op

pub node_split : (fold units : ℕ) (unit : ℕ → Unit) (n : Node) → node_fits fold units unit n ≡ true → NodeFits fold units unit n
node_split fold units unit n h =
    let a = ltb n.unit units in
    let b = ltb n.slot fold in
    let c = leb n.op last_op in
    let d = eqb (unit n.unit).kind (kind_of n.op) in
    let t = and_split (a && b && c && d) (k_fits n.op n.k) h in
    let t3 = and_split (a && b && c) d t.0 in
    let t2 = and_split (a && b) c t3.0 in
    let t1 = and_split a b t2.0 in
    let k = and_split (le_z (k_least n.op) n.k) (le_z n.k (k_most n.op)) t.1 in
    record {
      on_unit = ltb-true n.unit units t1.0;
      in_turn = ltb-true n.slot fold t1.1;
      op_most = leb-true n.op last_op t2.1;
      of_kind = eqb-true (unit n.unit).kind (kind_of n.op) t3.1;
      k_least_le = leZ_true (k_least n.op) n.k k.0;
      k_most_ge = leZ_true n.k (k_most n.op) k.1;
    }

-- only a unit that is there counts
pub node_fits_same : (fold units : ℕ) (unit unit' : ℕ → Unit) (n : Node) → ((q : ℕ) → q < units → unit q ≡ unit' q) →
    node_fits fold units unit n ≡ node_fits fold units unit' n
node_fits_same fold units unit unit' n h = by_unit (ltb n.unit units) refl
  where
    by_unit : (there : Bool) → ltb n.unit units ≡ there → node_fits fold units unit n ≡ node_fits fold units unit' n
    by_unit true e =
        ap (λ (u : Unit). ltb n.unit units && ltb n.slot fold && leb n.op last_op && eqb u.kind (kind_of n.op) && k_fits n.op n.k)
        (h n.unit (ltb-true n.unit units e))
    by_unit false e = rw e refl

-- ---- nodes that do not clash

module _ (n : ℕ) (node : ℕ → Node) (free : clashes n node ≡ false) where
  -- an earlier node does not share a later one's unit and slot
  ordered_apart : (x y : ℕ) → x < y → y < n → (node x).unit ≡ (node y).unit → (node x).slot ≡ (node y).slot → ⊥
  unfolding clashes
  ordered_apart x y l hy u v =
      let a = node x in
      let b = node y in
      let c = none_of y (λ x. clash (node x) (node y)) (none_of n (λ y. some_of y (λ x. clash (node x) (node y))) free y hy) x l in
      let d =
      (or_split (eqb a.unit b.unit && eqb a.slot b.slot) (eqb a.op op_port && eqb b.op op_port && eqb (nat_abs a.k) (nat_abs b.k)) c).0 in
      true≢false (sym (rw (eq-eqb a.unit b.unit u, eq-eqb a.slot b.slot v) refl) ∙ d)

  -- no two nodes share a slot of a unit
  pub clash_apart : (x y : ℕ) → x < n → y < n → (node x).unit ≡ (node y).unit → (node x).slot ≡ (node y).slot → x ≡ y
  clash_apart x y hx hy u v = elim (ℕ_discrete x y) [
    | yes e ↦ e
    | no f ↦ elim (passed? (ltb x y)) [
      | inl t ↦ absurd (ordered_apart x y (ltb-true x y t) hy u v)
      | inr g ↦ absurd (ordered_apart y x (let l = ltb-false x y g in omega arith) hx (sym u) (sym v))
    ]
  ]

-- ---- facts on a kind, and K and values

-- a unit has at most two inputs
pub inputs_few : (kind : ℕ) → inputs kind ≤ 2
inputs_few kind = elim (passed? (eqb kind port)) [
  | inl t ↦ rw t (omega arith)
  | inr f ↦ elim (passed? (eqb kind adder)) [ inl t ↦ rw (f, t) (omega arith) | inr g ↦ rw (f, g) (omega arith) ]
]

-- every K fits two bytes
pub k_narrow : (op : ℕ) (k : ℤ) → k_least op ≤ℤ k → k ≤ℤ k_most op → mag k < 32768
unfolding up down
k_narrow op k l m = by_sign k l m
  where
    most : k_most op ≤ℤ pos 32767
    most = elim (passed? (eqb op op_port)) [
      | inl t ↦ rw t (leZ_true (pos 15) (pos 32767) refl)
      | inr f ↦ elim (passed? (eqb op op_scale)) [ inl t ↦ rw (f, t) (≤ℤ_refl (pos 32767)) | inr g ↦ rw (f, g) (leZ_true (pos 0) (pos 32767) refl) ]
    ]

    least : negsuc 32767 ≤ℤ k_least op
    least = elim (passed? (eqb op op_scale)) [ inl t ↦ rw t (≤ℤ_refl (negsuc 32767)) | inr f ↦ rw f (leZ_true (negsuc 32767) (pos 0) refl) ]

    by_sign : (k : ℤ) → k_least op ≤ℤ k → k ≤ℤ k_most op → mag k < 32768
    by_sign (pos n) l m = omega (arith, le_up (≤ℤ_trans m most))
    by_sign (negsuc n) l m = omega (arith, le_up (≤ℤ_trans least l))

-- every word that an op gives is below 2^32
pub value_below : (op : ℕ) (k : ℤ) (sample a b : ℕ) → sample < turn → value op k sample a b < turn
unfolding value
value_below op k sample a b h = elim (passed? (eqb op op_port)) [
  | inl t ↦ rw t h
  | inr f ↦ elim (passed? (eqb op op_sum)) [
    | inl t ↦ rw (f, t) (sum_below a b)
    | inr g ↦ elim (passed? (eqb op op_difference)) [
      | inl t ↦ rw (f, g, t) (difference_below a b)
      | inr i ↦ elim (passed? (eqb op op_scale)) [ inl t ↦ rw (f, g, i, t) (scale_below k a) | inr j ↦ rw (f, g, i, j) (lit< tt) ]
    ]
  ]
]

-- ---- channels

-- the K of a port is its channel
pub port_k : (op : ℕ) (k : ℤ) → op ≡ op_port → k_fits op k ≡ true → (c : ℕ) × (k ≡ pos c) × (c < channels)
port_k op (pos c) e h =
    let f : k_fits op_port (pos c) ≡ true = rw e at h in
    (c, refl, omega (arith, leb-true c 15 (and_split (leb 0 c) (leb c 15) f).1))
port_k op (negsuc c) e h =
    let f : false ≡ true = rw e at h in
    absurd (true≢false (sym f))

pub channel_below : (n : Node) → k_fits n.op n.k ≡ true → channel_of n < channels
channel_below n h = by_op (eqb n.op op_port) refl
  where
    by_op : (port : Bool) → eqb n.op op_port ≡ port → channel_of n < channels
    by_op true e = let c = port_k n.op n.k (eqb-true n.op op_port e) h in rw (e, c.1) c.2
    by_op false e = rw e (omega arith)
