-- What a unit works out in a slot, in a plan that folds a sound sheet. Assumes nothing.
use mathlib.Core.Path.{◌≡◌, refl, sym, ap, ◌∙◌}
use mathlib.Core.Logic.{inl, inr}
use mathlib.Core.Bool.{cond}
use mathlib.Core.Option.{some}
use mathlib.Core.List.{List}
use Prim.Native.Nat.{ℕ, ◌+◌, ◌*◌, ◌-◌, ◌/◌, ◌%◌, ◌<◌}
use native.Mathlib.Nat.{mul-add-div, mul-add-mod_self_left, mod-eq_of_lt, div-eq_of_lt, add-zero}
use native.Mathlib.Omega.{arith}
use lib.Dec.{ltb, eqb}
use lib.ListN.{length}
use lib.IntN.{nat_abs}
use borrow.Author.Tests.{eqb-true, eq-eqb}
use Rattle.words.specs.Loops.{lowest}
use Rattle.words.proofs.LoopLaws.{lowest_cong, lowest_hit, lowest_none, lowest_sound, passed?, and_split}
use Rattle.records.specs.declared.Node.{Node}
use Rattle.records.specs.Units.{value, word_before}
use Rattle.records.specs.Records.{at, runs_in}
use Rattle.sheets.specs.Sheet.{Sheet, node_of, wire_of, feeds}
use Rattle.sheets.specs.Sound.{Sound}
use Rattle.folding.specs.Folding.{depth_of}
use Rattle.plans.specs.Plan.{Plan, node_in, switch_in}
use Rattle.plans.specs.Judging.{switched}
use Rattle.drawing.specs.Folds.{Folds}
use Rattle.drawing.proofs.FoldsLaws.{runs_in_is, switched_is}
use Rattle.cycle.specs.Cycle.{through, input_word, worked, result}
use Rattle.demands.specs.Graph.{wire_into}
use Rattle.demands.proofs.GraphLaws.{Ordered}
use Rattle.demands.proofs.TapLaws.{tapℕ}

module _ (s : Sheet) (p : Plan) (sound : Sound s) (folds : Folds s p) where
  -- the node in a slot is found there
  pub found : (x : ℕ) → x < length s.nodes → lowest (length p.nodes) (λ y. runs_in (node_of s x).unit (node_of s x).slot (node_in p y).node) ≡ some x
  found x hx =
      rw folds.nodes
      (lowest_cong (length s.nodes) (λ y. runs_in (node_of s x).unit (node_of s x).slot (node_in p y).node) (λ y. eqb y x) (λ y hy. runs_in_is s p sound folds x y hx hy)
      ∙ lowest_hit (length s.nodes) (λ y. eqb y x) x hx (eq-eqb x x refl) (λ y hy t. eqb-true y x t))

  pub input_is : (x i : ℕ) (mem : List ℕ) → x < length s.nodes → input_word p mem (node_of s x).unit (node_of s x).slot i ≡ through p mem (wire_into s x i)
  unfolding wire_into
  input_is x i mem hx =
      rw folds.wires (ap (through p mem) (lowest_cong (length s.wires) (switched p (node_of s x).unit (node_of s x).slot i) (feeds s x i) (λ e he. switched_is s p sound folds x i e hx he)))

  -- what unit q works out at cycle N l + v
  pub slot_at : (l v : ℕ) → v < s.fold → (s.fold * l + v) % p.fold ≡ v
  slot_at l v h = rw folds.fold (mul-add-mod_self_left s.fold l v ∙ mod-eq_of_lt h)

  pub turn_at : (l v : ℕ) → v < s.fold → (s.fold * l + v) / p.fold ≡ l
  turn_at l v h = rw folds.fold (mul-add-div sound.turns l v ∙ ap (λ (z : ℕ). l + z) (div-eq_of_lt h) ∙ add-zero l)

  pub result_of : (mem c : List ℕ) (x l : ℕ) → x < length s.nodes → at mem 0 ≡ s.fold * l + (node_of s x).slot →
      result p mem c (node_of s x).unit ≡
      cond (ltb l (node_in p x).start) word_before
      (value (node_of s x).op (node_of s x).k (at c (nat_abs (node_of s x).k))
      (input_word p mem (node_of s x).unit (node_of s x).slot 0) (input_word p mem (node_of s x).unit (node_of s x).slot 1))
  unfolding result
  result_of mem c x l hx e =
      let v<n = sound.in_turn x hx in
      let e1 : at mem 0 % p.fold ≡ (node_of s x).slot = ap (λ (z : ℕ). z % p.fold) e ∙ slot_at l (node_of s x).slot v<n in
      let e2 : at mem 0 / p.fold ≡ l = ap (λ (z : ℕ). z / p.fold) e ∙ turn_at l (node_of s x).slot v<n in
      ap (λ (z : ℕ). worked p mem c (node_of s x).unit (lowest (length p.nodes) (λ y. runs_in (node_of s x).unit z (node_in p y).node))) e1
      ∙ ap (worked p mem c (node_of s x).unit) (found x hx)
      ∙ rw (e1, e2, ap (λ (n : Node). n.op) (folds.node x hx), ap (λ (n : Node). n.k) (folds.node x hx)) refl

  pub idle_of : (mem c : List ℕ) (q v l : ℕ) → v < s.fold → at mem 0 ≡ s.fold * l + v →
      ((x : ℕ) → x < length s.nodes → (node_of s x).unit ≡ q → (node_of s x).slot ≡ v → ⊥) → result p mem c q ≡ 0
  unfolding result
  idle_of mem c q v l v<n e empty =
      let e1 : at mem 0 % p.fold ≡ v = ap (λ (z : ℕ). z % p.fold) e ∙ slot_at l v v<n in
      ap (λ (z : ℕ). worked p mem c q (lowest (length p.nodes) (λ y. runs_in q z (node_in p y).node))) e1
      ∙ ap (worked p mem c q) (lowest_none (length p.nodes) (λ y. runs_in q v (node_in p y).node) (λ x h. elim (passed? (runs_in q v (node_in p x).node)) [
        | inl t ↦
            let hx : x < length s.nodes = omega (arith, folds.nodes) in
            let a = and_split (eqb (node_in p x).node.unit q) (eqb (node_in p x).node.slot v) t in
            absurd (empty x hx (sym (ap (λ (n : Node). n.unit) (folds.node x hx)) ∙ eqb-true (node_in p x).node.unit q a.0)
            (sym (ap (λ (n : Node). n.slot) (folds.node x hx)) ∙ eqb-true (node_in p x).node.slot v a.1))
        | inr f ↦ f
      ]))

  -- the cycles at which nodes begin are such an order
  pub ordered : Ordered s (λ x j. s.fold * ((node_in p x).start + j) + (node_of s x).slot)
  ordered e he j h =
      let n = s.fold in
      let w = (wire_of s e).delays in
      let y = (wire_of s e).from in
      let x = (wire_of s e).to in
      let eq = tapℕ n w (node_in p x).start (node_in p y).start (node_of s x).slot (node_of s y).slot (depth_of s y) (switch_in p e).tap (folds.taps e he) in
      let m : n * (w + (j - w)) ≡ n * j = ap (λ (z : ℕ). n * z) (let q : w + (j - w) ≡ j = omega arith in q) in
      omega (arith, sound.deep (node_of s y).unit (sound.on_unit y (sound.leaves e he)))

  -- the wire found at an input of x meets x
  pub into_meets : (x i e : ℕ) → wire_into s x i ≡ some e → (e < length s.wires) × ((wire_of s e).to ≡ x)
  unfolding wire_into
  into_meets x i e h =
      let a = lowest_sound (length s.wires) (feeds s x i) e h in
      (a.0, eqb-true (wire_of s e).to x (and_split (eqb (wire_of s e).to x) (eqb (wire_of s e).input i) a.1).0)
