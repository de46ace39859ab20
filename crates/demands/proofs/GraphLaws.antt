-- The graph of a foldable sheet has values, and only one on given samples: an order of the nodes' iterations in which every word
-- is worked out after those that it is made of. Assumes nothing.
use mathlib.Core.Path.{◌≡◌, refl, sym, ◌∙◌, subst}
use mathlib.Core.Logic.{inl, inr}
use mathlib.Core.Bool.{true}
use mathlib.Core.Option.{Option, some, none}
use Prim.Native.Nat.{ℕ, zero, suc, ◌-◌, ◌<◌, ◌≤◌}
use native.Mathlib.Omega.{arith}
use lib.Dec.{ltb, eqb}
use lib.ListN.{length}
use lib.IntN.{nat_abs}
use borrow.Author.Tests.{eqb-true, ltb-false}
use Rattle.words.proofs.LoopLaws.{passed?, lowest_sound, and_split}
use Rattle.records.specs.Units.{value}
use Rattle.sheets.specs.Sheet.{Sheet, node_of, wire_of, feeds}
use Rattle.demands.specs.Graph.{Values, along_wire, arriving, wire_into}

-- every word comes after those that it is made of
abbrev pub Ordered : Sheet → (ℕ → ℕ → ℕ) → Type 0
Ordered s after = (e : ℕ) → e < length s.wires → (j : ℕ) → (wire_of s e).delays ≤ j → after (wire_of s e).from (j - (wire_of s e).delays) < after (wire_of s e).to j

module _ (s : Sheet) (nodes_from : (e : ℕ) → e < length s.wires → (wire_of s e).from < length s.nodes) (after : (ℕ → ℕ → ℕ)) (ord : Ordered s after) where
  -- two valuations that agree on what is before agree on what arrives
  arriving_same : (f g : ℕ → ℕ → ℕ) (x i j : ℕ) → ((y k : ℕ) → y < length s.nodes → after y k < after x j → f y k ≡ g y k) → arriving s f x i j ≡ arriving s g x i j
  unfolding wire_into
  arriving_same f g x i j h = go (wire_into s x i) (λ e q. lowest_sound (length s.wires) (feeds s x i) e q)
    where
      go : (o : Option ℕ) → ((e : ℕ) → o ≡ some e → (e < length s.wires) × (feeds s x i e ≡ true)) → along_wire s f j o ≡ along_wire s g j o
      go none k = refl
      go (some e) k =
          let a = k e refl in
          let to = eqb-true (wire_of s e).to x (and_split (eqb (wire_of s e).to x) (eqb (wire_of s e).input i) a.1).0 in
          elim (passed? (ltb j (wire_of s e).delays)) [
            | inl t ↦ rw t refl
            | inr b ↦ rw b (h (wire_of s e).from (j - (wire_of s e).delays) (nodes_from e a.0)
                (subst (λ (z : ℕ). after (wire_of s e).from (j - (wire_of s e).delays) < after z j) to (ord e a.0 j (ltb-false j (wire_of s e).delays b))))
          ]

  pub unique : (xs f g : ℕ → ℕ → ℕ) → Values s xs f → Values s xs g → (n x j : ℕ) → x < length s.nodes → after x j < n → f x j ≡ g x j
  unique xs f g vf vg zero x j hx h = absurd (omega arith)
  unique xs f g vf vg (suc n) x j hx h =
      let same : (y k : ℕ) → y < length s.nodes → after y k < after x j → f y k ≡ g y k = λ y k hy l. unique xs f g vf vg n y k hy (omega arith) in
      vf x hx j ∙ rw (arriving_same f g x 0 j same, arriving_same f g x 1 j same) (sym (vg x hx j))

  -- values worked out n deep
  deep : (ℕ → ℕ → ℕ) → ℕ → ℕ → ℕ → ℕ
  deep xs zero x j = 0
  deep xs (suc n) x j = value (node_of s x).op (node_of s x).k (xs (nat_abs (node_of s x).k) j) (arriving s (deep xs n) x 0 j) (arriving s (deep xs n) x 1 j)

  deep_same : (xs : ℕ → ℕ → ℕ) (n m x j : ℕ) → x < length s.nodes → after x j < n → after x j < m → deep xs n x j ≡ deep xs m x j
  unfolding deep
  deep_same xs zero m x j hx h k = absurd (omega arith)
  deep_same xs (suc n) zero x j hx h k = absurd (omega arith)
  deep_same xs (suc n) (suc m) x j hx h k =
      let same : (y i : ℕ) → y < length s.nodes → after y i < after x j → deep xs n y i ≡ deep xs m y i = λ y i hy l. deep_same xs n m y i hy (omega arith) (omega arith) in
      rw (arriving_same (deep xs n) (deep xs m) x 0 j same, arriving_same (deep xs n) (deep xs m) x 1 j same) refl

  pub values : (ℕ → ℕ → ℕ) → ℕ → ℕ → ℕ
  values xs x j = deep xs (suc (after x j)) x j

  pub values_right : (xs : ℕ → ℕ → ℕ) → Values s xs (values xs)
  unfolding values deep
  values_right xs x hx j =
      let same : (y i : ℕ) → y < length s.nodes → after y i < after x j → deep xs (after x j) y i ≡ values xs y i = λ y i hy l. deep_same xs (after x j) (suc (after y i)) y i hy l (omega arith) in
      rw (arriving_same (deep xs (after x j)) (values xs) x 0 j same, arriving_same (deep xs (after x j)) (values xs) x 1 j same) refl
