-- In a plan without fault one node runs on a unit in a slot and one switch feeds each of its inputs, so what the last of them gives is
-- the unit's result. Assumes nothing.
use mathlib.Core.Path.{◌≡◌, refl, sym, ap, ap₂, ◌∙◌, subst}
use mathlib.Core.Logic.{inl, inr}
use mathlib.Core.Bool.{Bool, true, cond, ◌&&◌, and_comm}
use mathlib.Core.Option.{some}
use mathlib.Core.List.{List}
use Prim.Native.Nat.{ℕ, ◌+◌, ◌*◌, ◌/◌, ◌%◌, ◌<◌}
use native.Mathlib.Omega.{arith}
use lib.Dec.{ltb, eqb}
use lib.ListN.{length, get_or}
use lib.IntN.{nat_abs}
use borrow.Author.Tests.{eqb-true, eq-eqb}
use Rattle.words.specs.Loops.{every, count}
use Rattle.words.proofs.LoopLaws.{lowest_hit, passed?, and_split, and_join, bool_ext, every_at}
use Rattle.records.specs.declared.Node.{Node}
use Rattle.records.specs.Units.{op_port, kind_of, inputs_of, value, word_before}
use Rattle.records.specs.Records.{at, runs_in, fed_once}
use Rattle.records.specs.Answers.{channel_of}
use Rattle.records.proofs.NodeLaws.{clash_apart, inputs_few}
use Rattle.plans.specs.declared.Plan as Head
use Rattle.plans.specs.Plan.{Plan, node_in, switch_in, plan_read}
use Rattle.plans.specs.Judging.{switched, plan_feeds}
use Rattle.cycle.specs.Cycle.{through, input_word, worked, result}
use Rattle.memory.specs.Memory.{reading}
use Rattle.memory.specs.Taken.{Taken}
use Rattle.inputs.specs.Inputs.{last_of, Gathered, in_slot, input_place, tapped}
use Rattle.cycle.specs.Given.{node_in_slot, node_unit, given, ResultsOf}
use Rattle.plans.proofs.WholeLaws.{nodes_so, units_so, wires_so}
use Rattle.memory.proofs.TakenLaws.{whole_taken, judgement, few_units, switch_fine}
use Rattle.inputs.proofs.LastLaws.{Only, last_cong, last_lowest, one_only}

-- a switch feeds an input of a unit in a slot exactly where its place is that input's
switched_split : (p : Plan) (q v i e : ℕ) → switched p q v i e ≡ true → ((switch_in p e).unit ≡ q) × ((switch_in p e).slot ≡ v) × ((switch_in p e).input ≡ i)
switched_split p q v i e h =
    let w = switch_in p e in
    let outer = and_split (eqb w.unit q && eqb w.slot v) (eqb w.input i) h in
    let inner = and_split (eqb w.unit q) (eqb w.slot v) outer.0 in
    (eqb-true w.unit q inner.0, eqb-true w.slot v inner.1, eqb-true w.input i outer.1)

switched_join : (p : Plan) (q v i e : ℕ) → (switch_in p e).unit ≡ q → (switch_in p e).slot ≡ v → (switch_in p e).input ≡ i → switched p q v i e ≡ true
switched_join p q v i e hq hv hi = rw (eq-eqb _ _ hq, eq-eqb _ _ hv, eq-eqb _ _ hi) refl

-- the sample counts for a port alone
sample_so : (n : Node) (c : List ℕ) (a b : ℕ) → value n.op n.k (at c (channel_of n)) a b ≡ value n.op n.k (at c (nat_abs n.k)) a b
unfolding value
sample_so n c a b = elim (passed? (eqb n.op op_port)) [ inl t ↦ rw t refl | inr f ↦ rw f refl ]

module _ (b : List ℕ) (p : Head.Plan) (t : Taken b p) where
  -- one node runs on a unit in a slot
  node_only : (q v : ℕ) → Only (length (plan_read b).nodes) (λ x. runs_in q v (node_in (plan_read b) x).node)
  node_only q v x y hx hy tx ty =
      let pl = plan_read b in
      let m = (node_in pl x).node in
      let n = (node_in pl y).node in
      let a = and_split (eqb m.unit q) (eqb m.slot v) tx in
      let d = and_split (eqb n.unit q) (eqb n.slot v) ty in
      clash_apart (length pl.nodes) (λ x. (node_in pl x).node) (judgement b p t).apart x y hx hy
      (eqb-true m.unit q a.0 ∙ sym (eqb-true n.unit q d.0)) (eqb-true m.slot v a.1 ∙ sym (eqb-true n.slot v d.1))

  -- one switch feeds each input of a node
  fed_by_one : (x i : ℕ) → x < length (plan_read b).nodes → i < inputs_of (node_in (plan_read b) x).node.op →
      count (length (plan_read b).switches) (plan_feeds (plan_read b) x i) ≡ 1
  unfolding fed_once
  fed_by_one x i hx hi =
      let pl = plan_read b in
      let once : ℕ → ℕ → Bool = λ x i. eqb (count (length pl.switches) (plan_feeds pl x i)) 1 in
      eqb-true (count (length pl.switches) (plan_feeds pl x i)) 1
      (every_at (inputs_of (node_in pl x).node.op) (once x)
      (every_at (length pl.nodes) (λ x. every (inputs_of (node_in pl x).node.op) (once x)) (judgement b p t).fed x hx) i hi)

  -- and so each input of a unit in a slot
  switch_only : (q v i : ℕ) → Only (length (plan_read b).switches) (switched (plan_read b) q v i)
  switch_only q v i e d he hd te td =
      let pl = plan_read b in
      let s = switched_split pl q v i e te in
      let f = switch_fine b p t e (omega (arith, wires_so b p (whole_taken t))) in
      let n = (node_in pl f.node).node in
      let w = switch_in pl e in
      let r = and_split (eqb n.unit w.unit) (eqb n.slot w.slot) f.runs in
      let on : n.unit ≡ q = eqb-true n.unit w.unit r.0 ∙ s.0 in
      let in_turn : n.slot ≡ v = eqb-true n.slot w.slot r.1 ∙ s.1 in
      let one = fed_by_one f.node i f.is_node (subst (λ (z : ℕ). z < inputs_of n.op) s.2 f.input_fits) in
      one_only (length pl.switches) (switched pl q v i) (sym (ap₂ (λ (q v : ℕ). count (length pl.switches) (switched pl q v i)) on in_turn) ∙ one) e d he hd te td

  -- the word at the input that a switch feeds is the one that it reads
  pub switch_read : (m : List ℕ) (e : ℕ) → e < length (plan_read b).switches →
      let w = switch_in (plan_read b) e in
      input_word (plan_read b) m w.unit w.slot w.input ≡ reading (plan_read b) m w.source w.tap
  switch_read m e he =
      let pl = plan_read b in
      let w = switch_in pl e in
      let here = switched pl w.unit w.slot w.input in
      let feeds = switched_join pl w.unit w.slot w.input e refl refl refl in
      ap (through pl m) (lowest_hit (length pl.switches) here e he feeds (λ d hd td. switch_only w.unit w.slot w.input d e hd he td feeds))

  -- the words gathered are those at the inputs
  input_so : (m words : List ℕ) (v : ℕ) → Gathered p.wires (in_slot (plan_read b) v) (input_place (plan_read b)) (tapped (plan_read b) m) 16 words →
      (q i : ℕ) → q < 8 → i < 2 → get_or words (2 * q + i) 0 ≡ input_word (plan_read b) m q v i
  input_so m words v gathered q i hq hi =
      let pl = plan_read b in
      let here : ℕ → Bool = λ e. in_slot pl v e && eqb (input_place pl e) (2 * q + i) in
      gathered (2 * q + i) (omega arith)
      ∙ ap (λ (n : ℕ). last_of n here (tapped pl m)) (wires_so b p (whole_taken t))
      ∙ last_cong (length pl.switches) here (switched pl q v i) (tapped pl m) (λ e he. same e he)
      ∙ last_lowest (length pl.switches) (switched pl q v i) (tapped pl m) (through pl m) (switch_only q v i) refl (λ e he te. refl)
    where
      same : (e : ℕ) → e < length (plan_read b).switches →
          (in_slot (plan_read b) v e && eqb (input_place (plan_read b) e) (2 * q + i)) ≡ switched (plan_read b) q v i e
      same e he =
          let pl = plan_read b in
          let w = switch_in pl e in
          let f = switch_fine b p t e (omega (arith, wires_so b p (whole_taken t))) in
          let few = inputs_few (kind_of (node_in pl f.node).node.op) in
          bool_ext (in_slot pl v e && eqb (input_place pl e) (2 * q + i)) (switched pl q v i e)
          (λ h.
          let s = and_split (in_slot pl v e) (eqb (input_place pl e) (2 * q + i)) h in
          let place = eqb-true (input_place pl e) (2 * q + i) s.1 in
          switched_join pl q v i e (omega (arith, f.input_fits)) (eqb-true w.slot v s.0) (omega (arith, f.input_fits)))
          (λ h.
          let s = switched_split pl q v i e h in
          and_join (in_slot pl v e) (eqb (input_place pl e) (2 * q + i)) (eq-eqb w.slot v s.1) (eq-eqb (input_place pl e) (2 * q + i) (omega (arith, s.0, s.2))))

  -- what a node gives is what its unit works out
  given_so : (m c words : List ℕ) → Gathered p.wires (in_slot (plan_read b) (at m 0 % (plan_read b).fold)) (input_place (plan_read b)) (tapped (plan_read b) m) 16 words →
      (q x : ℕ) → q < 8 → runs_in q (at m 0 % (plan_read b).fold) (node_in (plan_read b) x).node ≡ true →
      given (plan_read b) (at m 0) c words x ≡ worked (plan_read b) m c q (some x)
  given_so m c words gathered q x hq runs =
      let pl = plan_read b in
      let n = (node_in pl x).node in
      let v = at m 0 % pl.fold in
      let on = eqb-true n.unit q (and_split (eqb n.unit q) (eqb n.slot v) runs).0 in
      let first : at words (2 * n.unit) ≡ input_word pl m q v 0 = ap (at words) (let e : 2 * n.unit ≡ 2 * q + 0 = omega arith in e) ∙ input_so m words v gathered q 0 hq (omega arith) in
      let second : at words (2 * n.unit + 1) ≡ input_word pl m q v 1 = ap (λ (z : ℕ). at words (2 * z + 1)) on ∙ input_so m words v gathered q 1 hq (omega arith) in
      ap (cond (ltb (at m 0 / pl.fold) (node_in pl x).start) word_before)
      (ap₂ (value n.op n.k (at c (channel_of n))) first second ∙ sample_so n c (input_word pl m q v 0) (input_word pl m q v 1))

  -- what the nodes of the slot give are the units' results
  pub results_so : (m c words r : List ℕ) → Gathered p.wires (in_slot (plan_read b) (at m 0 % (plan_read b).fold)) (input_place (plan_read b)) (tapped (plan_read b) m) 16 words →
      Gathered p.nodes (node_in_slot (plan_read b) (at m 0 % (plan_read b).fold)) (node_unit (plan_read b)) (given (plan_read b) (at m 0) c words) 8 r →
      ResultsOf (plan_read b) m c r
  unfolding result
  results_so m c words r inputs gathered q hq =
      let pl = plan_read b in
      let v = at m 0 % pl.fold in
      let gives = given pl (at m 0) c words in
      let runs : ℕ → Bool = λ x. runs_in q v (node_in pl x).node in
      let here : ℕ → Bool = λ x. node_in_slot pl v x && eqb (node_unit pl x) q in
      gathered q (omega (arith, units_so b p (whole_taken t), few_units b p t))
      ∙ ap (λ (n : ℕ). last_of n here gives) (nodes_so b p (whole_taken t))
      ∙ last_cong (length pl.nodes) here runs gives (λ x hx. and_comm (node_in_slot pl v x) (eqb (node_unit pl x) q))
      ∙ last_lowest (length pl.nodes) runs gives (worked pl m c q) (node_only q v) refl (λ x hx tx. given_so m c words inputs q x (omega (arith, units_so b p (whole_taken t), few_units b p t)) tx)
