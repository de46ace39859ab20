-- The plan with starts that make every wait nonnegative folds the sheet. Assumes nothing.
use mathlib.Core.Path.{◌≡◌, refl, ap, ◌∙◌}
use Prim.Native.Nat.{ℕ, ◌+◌, ◌*◌, ◌<◌}
use native.Mathlib.Omega.{arith}
use lib.ListN.{length}
use lib.IntN.{ℤ, pos, ◌+ℤ◌, ◌-ℤ◌, ◌*ℤ◌}
use Rattle.words.proofs.Ints.{up, down, sumℤ, difℤ, timesℤ, up_eq}
use Rattle.words.proofs.LoopLaws.{length_tab, getD_tab}
use Rattle.sheets.specs.Sheet.{Sheet, node_of, wire_of}
use Rattle.sheets.specs.Sound.{Sound}
use Rattle.folding.specs.Walks.{start}
use Rattle.folding.specs.Folding.{net, depth_of, raw, wait, tap}
use Rattle.folding.proofs.FoldingLaws.{Foldable}
use Rattle.plans.specs.Plan.{PlanUnit, PlanNode, Switch, no_unit, no_node, no_switch, unit_in, node_in, switch_in}
use Rattle.plans.proofs.JudgingLaws.{longest_tap_ge}
use Rattle.drawing.specs.PlanOf.{plan_unit, plan_node, plan_switch, plan_with, plan_of}
use Rattle.drawing.specs.Folds.{Folds}

module _ (s : Sheet) (r : ℕ → ℕ) where
  pub unit_is : (q : ℕ) → q < length s.units → unit_in (plan_with s r) q ≡ plan_unit s r q
  unit_is q h = getD_tab (length s.units) (plan_unit s r) q no_unit h

  pub node_is : (x : ℕ) → x < length s.nodes → node_in (plan_with s r) x ≡ plan_node s r x
  node_is x h = getD_tab (length s.nodes) (plan_node s r) x no_node h

  pub switch_is : (e : ℕ) → e < length s.wires → switch_in (plan_with s r) e ≡ plan_switch s r e
  switch_is e h = getD_tab (length s.wires) (plan_switch s r) e no_switch h

  pub units_as : length (plan_with s r).units ≡ length s.units
  units_as = length_tab (length s.units) (plan_unit s r)

  pub nodes_as : length (plan_with s r).nodes ≡ length s.nodes
  nodes_as = length_tab (length s.nodes) (plan_node s r)

  pub wires_as : length (plan_with s r).switches ≡ length s.wires
  wires_as = length_tab (length s.wires) (plan_switch s r)

-- the wait in the form that a plan's taps have
wait_is : (n w v d u : ℕ) (x : ℤ) →
    (pos (n * w + v) -ℤ pos (d + u)) +ℤ pos n *ℤ x ≡ pos n *ℤ (pos w +ℤ x) +ℤ (pos v -ℤ pos (d + u))
unfolding up down
wait_is n w v d u x =
    let a = pos (n * w + v) -ℤ pos (d + u) in
    let y = pos w +ℤ x in
    let b = pos v -ℤ pos (d + u) in
    let ny : n * (up y + down x) ≡ n * (down y + (w + up x)) = ap (λ (k : ℕ). n * k) (let l : up y + down x ≡ down y + (w + up x) = omega (arith, sumℤ (pos w) x) in l) in
    up_eq (omega (arith, sumℤ a (pos n *ℤ x), difℤ (pos (n * w + v)) (pos (d + u)), (timesℤ n x).0, (timesℤ n x).1, (timesℤ n y).0, (timesℤ n y).1, sumℤ (pos n *ℤ y) b, difℤ (pos v) (pos (d + u))))

-- every tap is its wire's wait
abbrev pub Waits : Sheet → (ℕ → ℕ) → Type 0
Waits s r = (e : ℕ) → e < length s.wires → pos (tap s r e) ≡ wait s (λ u. pos (r u)) e

pub with_folds : (s : Sheet) (r : ℕ → ℕ) → Sound s → Waits s r → Folds s (plan_with s r)
with_folds s r sound waits = record {
  fold = refl;
  units = units_as s r;
  nodes = nodes_as s r;
  wires = wires_as s r;
  unit = λ q h. ap (λ (u : PlanUnit). u.unit) (unit_is s r q h);
  node = λ x h. ap (λ (n : PlanNode). n.node) (node_is s r x h);
  joins = λ e h. let i = switch_is s r e h in
      (ap (λ (w : Switch). w.unit) i, ap (λ (w : Switch). w.slot) i, ap (λ (w : Switch). w.input) i, ap (λ (w : Switch). w.source) i);
  taps = λ e h.
      let w = wire_of s e in
      rw (switch_is s r e h, node_is s r w.to (sound.meets e h), node_is s r w.from (sound.leaves e h))
      (waits e h ∙ (unfold wait raw in wait_is s.fold w.delays (node_of s w.to).slot (depth_of s w.from) (node_of s w.from).slot (pos (r w.to) -ℤ pos (r w.from))));
  lines = λ e h.
      rw (switch_is s r e h, unit_is s r (node_of s (wire_of s e).from).unit (sound.on_unit (wire_of s e).from (sound.leaves e h)))
      (longest_tap_ge (length s.wires) (plan_switch s r) e h);
}

-- the planner's plan is the one with the latest retiming's starts
pub plan_of_is : (s : Sheet) → plan_of s ≡ plan_with s (start (net s))
unfolding plan_of
plan_of_is s = refl

pub plan_folds : (s : Sheet) → Sound s → Foldable s → Folds s (plan_of s)
unfolding plan_of
plan_folds s sound ok = with_folds s (start (net s)) sound ok.tap_is
