-- What a node's record gives the code: its op's ranges, its start, and what it brings at its turn of the loop. Assumes nothing.
use mathlib.Core.Path.{◌≡◌, sym, ap, ◌∙◌, subst}
use mathlib.Core.Bool.{Bool, true, false, ◌&&◌}
use mathlib.Core.List.{List}
use Prim.Native.Nat.{ℕ, ◌+◌, ◌*◌, ◌/◌, ◌%◌, ◌<◌}
use native.Mathlib.Omega.{arith}
use lib.Dec.{ltb, leb, eqb}
use lib.ListN.{length}
use lib.IntN.{ℤ, pos, nat_abs}
use borrow.Author.Tests.{eq-eqb, ne_eqb}
use Rattle.words.proofs.LoopLaws.{and_split}
use Rattle.records.specs.declared.Node.{Node}
use Rattle.records.specs.Units.{kind_of, last_op, k_fits}
use Rattle.records.specs.Records.{at}
use Rattle.records.specs.Answers.{channel_of}
use Rattle.plans.specs.declared.Plan as Head
use Rattle.plans.specs.Plan.{unit_in, node_in, plan_read}
use Rattle.plans.proofs.ReadLaws.{fold_read, nodes_read}
use Rattle.memory.specs.Taken.{Taken}
use Rattle.cycle.specs.Given.{node_in_slot, begun_by, given}
use Rattle.plans.proofs.WholeLaws.{folds_so, units_so, nodes_so}
use Rattle.memory.proofs.TakenLaws.{whole_taken, judgement, counts_taken, few_units, node_fine}

module _ (b : List ℕ) (p : Head.Plan) (t : Taken b p) where
  pub turns : 0 < p.fold
  turns = omega (arith, (counts_taken b p t).fold_least, folds_so b p (whole_taken t), fold_read b)

  -- K lies in its op's range
  pub k_taken : (x : ℕ) → x < p.nodes → k_fits (node_in (plan_read b) x).node.op (node_in (plan_read b) x).node.k ≡ true
  k_taken x h =
      let pl = plan_read b in
      let n = (node_in pl x).node in
      (and_split (ltb n.unit (length pl.units) && ltb n.slot pl.fold && leb n.op last_op && eqb (unit_in pl n.unit).unit.kind (kind_of n.op)) (k_fits n.op n.k)
      ((judgement b p t).records.node_ok x (omega (arith, nodes_so b p (whole_taken t), nodes_read b)))).1

  -- the iteration is below the node's start
  pub below_start : (x cycle : ℕ) (start : ℤ) (flag : Bool) → start ≡ pos (node_in (plan_read b) x).start →
      flag ≡ ltb (cycle / p.fold) (nat_abs start) → flag ≡ ltb (cycle / (plan_read b).fold) (node_in (plan_read b) x).start
  below_start x cycle start flag es is =
      is ∙ ap (λ (n : ℕ). ltb (cycle / n) (nat_abs start)) (folds_so b p (whole_taken t)) ∙ ap (λ (s : ℤ). ltb (cycle / (plan_read b).fold) (nat_abs s)) es

  -- a node's unit is one of eight
  pub unit_few : (x : ℕ) → x < p.nodes → (n : Node) → n ≡ (node_in (plan_read b) x).node → n.unit < 8
  unit_few x h n is = subst (λ (n : Node). n.unit < 8) (sym is) (omega (arith, (node_fine b p t x h).on_unit, units_so b p (whole_taken t), few_units b p t))

  -- a node is in the cycle's slot where its record says so
  pub slot_so : (x cycle slot : ℕ) (n : Node) → n ≡ (node_in (plan_read b) x).node → slot ≡ cycle % p.fold →
      (n.slot ≡ slot → node_in_slot (plan_read b) (cycle % (plan_read b).fold) x ≡ true) × ((n.slot ≡ slot → ⊥) → node_in_slot (plan_read b) (cycle % (plan_read b).fold) x ≡ false)
  slot_so x cycle slot n is at_slot =
      let here : (node_in (plan_read b) x).node.slot ≡ n.slot = sym (ap (λ (n : Node). n.slot) is) in
      let turn : slot ≡ cycle % (plan_read b).fold = at_slot ∙ ap (λ (n : ℕ). cycle % n) (folds_so b p (whole_taken t)) in
      ((λ same. eq-eqb _ _ (here ∙ same ∙ turn)), (λ other. ne_eqb _ _ (λ same. other (sym here ∙ same ∙ sym turn))))

  -- what the code works out of a node's record is what the node gives
  pub given_is : (x cycle : ℕ) (c words : List ℕ) (n : Node) (sample w : ℕ) → n ≡ (node_in (plan_read b) x).node → sample ≡ at c (channel_of n) →
      w ≡ begun_by (cycle / (plan_read b).fold) (node_in (plan_read b) x).start n sample (at words (2 * n.unit)) (at words (2 * n.unit + 1)) →
      w ≡ given (plan_read b) cycle c words x
  given_is x cycle c words n sample w is taken begun =
      let gives : Node → ℕ → ℕ = λ n sample.
      begun_by (cycle / (plan_read b).fold) (node_in (plan_read b) x).start n sample (at words (2 * n.unit)) (at words (2 * n.unit + 1)) in
      begun ∙ ap (gives n) taken ∙ ap (λ (n : Node). gives n (at c (channel_of n))) is
