-- In a plan that folds a sound sheet the node in a slot, and the switch at an input, are the sheet's. Assumes nothing.
use mathlib.Core.Path.{◌≡◌, ap}
use mathlib.Core.Bool.{Bool, ◌&&◌}
use Prim.Native.Nat.{ℕ, ◌<◌}
use lib.Dec.{eqb}
use lib.ListN.{length}
use Rattle.words.proofs.LoopLaws.{pair_test}
use Rattle.records.specs.declared.Node.{Node}
use Rattle.records.specs.Records.{runs_in}
use Rattle.sheets.specs.Sheet.{Sheet, node_of, wire_of, feeds}
use Rattle.sheets.specs.Sound.{Sound}
use Rattle.plans.specs.Plan.{Plan, node_in}
use Rattle.plans.specs.Judging.{switched}
use Rattle.drawing.specs.Folds.{Folds}

module _ (s : Sheet) (p : Plan) (sound : Sound s) (folds : Folds s p) where
  -- node y runs in the slot of node x exactly where it is x
  pub runs_in_is : (x y : ℕ) → x < length s.nodes → y < length s.nodes → runs_in (node_of s x).unit (node_of s x).slot (node_in p y).node ≡ eqb y x
  runs_in_is x y hx hy =
      rw (ap (λ (n : Node). n.unit) (folds.node y hy), ap (λ (n : Node). n.slot) (folds.node y hy))
      (pair_test (node_of s y).unit (node_of s x).unit (node_of s y).slot (node_of s x).slot y x
      (λ e. (ap (λ (z : ℕ). (node_of s z).unit) e, ap (λ (z : ℕ). (node_of s z).slot) e))
      (λ a b. sound.apart y x hy hx a b))

  -- the switch at an input is the wire's that feeds it
  pub switched_is : (x i e : ℕ) → x < length s.nodes → e < length s.wires → switched p (node_of s x).unit (node_of s x).slot i e ≡ feeds s x i e
  switched_is x i e hx he =
      rw ((folds.joins e he).0, (folds.joins e he).1, (folds.joins e he).2)
      (ap (λ (b : Bool). b && eqb (wire_of s e).input i)
      (pair_test (node_of s (wire_of s e).to).unit (node_of s x).unit (node_of s (wire_of s e).to).slot (node_of s x).slot (wire_of s e).to x
      (λ q. (ap (λ (z : ℕ). (node_of s z).unit) q, ap (λ (z : ℕ). (node_of s z).slot) q))
      (λ a b. sound.apart (wire_of s e).to x (sound.meets e he) hx a b)))
