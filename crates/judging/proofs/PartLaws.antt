-- A plan's first fault is that of its parts in 01's order: the header; the length, units and nodes; the switches; 4, 5 and 9.
-- Assumes nothing.
use mathlib.Core.Path.{◌≡◌, refl, ap, ap₂, ◌∙◌}
use mathlib.Core.Bool.{Bool, true, false, ◌&&◌}
use mathlib.Core.List.{List}
use Prim.Native.Nat.{ℕ, zero, suc, ◌<◌}
use lib.Dec.{leb, eqb}
use lib.ListN.{length}
use Rattle.std.specs.Prelude.{Ok, Err}
use Rattle.words.specs.Loops.{first, unless, ◌then◌}
use Rattle.words.proofs.FaultLaws.{then_split, then_assoc, first_at}
use Rattle.records.specs.declared.Unit.{Unit}
use Rattle.records.specs.declared.Node.{Node}
use Rattle.records.specs.declared.reading.Reason.{Reason}
use Rattle.records.specs.Units.{unit_fits}
use Rattle.records.specs.Records.{at, units_in, nodes_in, wires_in, counts_fit, unit_place, node_place, whole_length, unit_at, node_at, marked, record_fault, reading_fault, node_fits}
use Rattle.records.specs.Answers.{judged, header_fault, front_fault}
use Rattle.records.proofs.ReadingLaws.{record_split}
use Rattle.records.proofs.AnswerLaws.{got_none, refused_last, refused_first}
use Rattle.records.proofs.FrontLaws.{front_same, node_same, front_whole, front_nodes}
use Rattle.plans.specs.declared.Plan.{Plan as Header}
use Rattle.plans.specs.Plan.{PlanUnit, PlanNode, unit_in, node_in, plan_format, plan_read}
use Rattle.plans.specs.Heads.{plan_head}
use Rattle.plans.specs.Judging.{most_chain, plan_faults, plan_fault}
use Rattle.plans.proofs.ReadLaws.{fold_read, units_read, unit_read, node_read}
use Rattle.judging.specs.Answers.{plan_answer, head_fault, header_answer, switch_fault, switches_fault, clash_fault, fed_fault, figures_fault, nodes_fault, HeaderSaid, Fronted, Held}

-- ---- the parts

regrouped : (a h t u n s x y z : ℕ) → (a then h then t then u then n then s then x then y then z) ≡ ((a then h) then ((t then u then n) then (s then (x then (y then z)))))
regrouped (suc a) h t u n s x y z = refl
regrouped zero (suc h) t u n s x y z = refl
regrouped zero zero (suc t) u n s x y z = refl
regrouped zero zero zero (suc u) n s x y z = refl
regrouped zero zero zero zero (suc n) s x y z = refl
regrouped zero zero zero zero zero (suc s) x y z = refl
regrouped zero zero zero zero zero zero x y z = then_assoc x y z

-- the chain is the last of the header's ranges
chain_last : (a : ℕ) (m c k : Bool) → (a then (unless m 2 then unless (c && k) 3)) ≡ (a then (unless m 2 then unless c 3) then unless k 3)
chain_last (suc a) m c k = refl
chain_last zero false c k = refl
chain_last zero true false k = refl
chain_last zero true true k = refl

module _ (b : List ℕ) where
  chain_read : (plan_read b).chain ≡ at b 8
  unfolding plan_read
  chain_read = refl

  unit : ℕ → Unit
  unit q = (unit_in (plan_read b) q).unit

  node : ℕ → Node
  node x = (node_in (plan_read b) x).node

  units_are : (q : ℕ) → q < units_in b → unit q ≡ unit_at b (unit_place plan_format b q)
  unfolding unit
  units_are q l = ap (λ (u : PlanUnit). u.unit) (unit_read b q l)

  nodes_are : (x : ℕ) → x < nodes_in b → node x ≡ node_at b (node_place plan_format b x)
  unfolding node
  nodes_are x l = ap (λ (n : PlanNode). n.node) (node_read b x l)

  pub parts : plan_fault b ≡ (head_fault b then (front_fault plan_format b then (switches_fault b then nodes_fault (plan_read b))))
  unfolding plan_faults reading_fault switch_fault front_fault clash_fault fed_fault figures_fault unit node
  parts =
      let pl = plan_read b in
      let long = unless (leb plan_format.header_length (length b)) 1 in
      let head : ℕ → ℕ = λ chain. long then record_fault b 0 plan_format.header_mark (counts_fit b && leb chain most_chain) in
      let whole = unless (eqb (length b) (whole_length plan_format b)) 1 in
      let units = first (units_in b) (λ i. record_fault b (unit_place plan_format b i) plan_format.unit_mark (unit_fits (unit i))) in
      let nodes : ℕ → ℕ → ℕ = λ fold count. first (nodes_in b) (λ i. record_fault b (node_place plan_format b i) plan_format.node_mark (node_fits fold count unit (node i))) in
      let rest = switches_fault b then nodes_fault pl in
      regrouped long (record_fault b 0 plan_format.header_mark (counts_fit b && leb pl.chain most_chain)) whole units (nodes pl.fold (length pl.units)) (switches_fault b) (clash_fault pl) (fed_fault pl) (figures_fault pl)
      ∙ ap₂ (λ (x y : ℕ). x then (y then rest))
      (ap head chain_read ∙ chain_last long (marked b 0 plan_format.header_mark) (counts_fit b) (leb (at b 8) most_chain))
      (ap₂ (λ (fold count : ℕ). whole then units then nodes fold count) (fold_read b) (units_read b) ∙ front_same plan_format b true unit node (λ _. true) units_are nodes_are)

  -- ---- the answer, part by part

  pub head_refused : (why : Reason) → header_answer b ≡ Err why → plan_answer b ≡ Err why
  unfolding header_answer plan_answer
  head_refused why e = rw parts (refused_first (plan_head b) (plan_head b) (head_fault b) (front_fault plan_format b then (switches_fault b then nodes_fault (plan_read b))) why e)

  pub head_got : (p : Header) → header_answer b ≡ Ok p → (head_fault b ≡ 0) × HeaderSaid b p
  unfolding header_answer
  head_got p e =
      let h = got_none (plan_head b) p (head_fault b) e in
      let c = then_split (header_fault b plan_format.header_length plan_format.header_mark) (unless (leb (at b 8) most_chain) 3) h.0 in
      let t = then_split (unless (leb plan_format.header_length (length b)) 1) (record_fault b 0 plan_format.header_mark (counts_fit b)) c.0 in
      (h.0, record { said = h.1; counts = (record_split b 0 plan_format.header_mark (counts_fit b) t.1).1 })

  module _ (z : head_fault b ≡ 0) where
    after_head : plan_fault b ≡ (front_fault plan_format b then (switches_fault b then nodes_fault (plan_read b)))
    after_head = parts ∙ ap (λ (a : ℕ). a then (front_fault plan_format b then (switches_fault b then nodes_fault (plan_read b)))) z

    pub front_refused : (why : Reason) → judged (front_fault plan_format b) ≡ Err why → plan_answer b ≡ Err why
    unfolding plan_answer
    front_refused why e = rw after_head (refused_first tt (plan_head b) (front_fault plan_format b) (switches_fault b then nodes_fault (plan_read b)) why e)

    module _ (y : front_fault plan_format b ≡ 0) where
      after_front : plan_fault b ≡ (switches_fault b then nodes_fault (plan_read b))
      after_front = after_head ∙ ap (λ (a : ℕ). a then (switches_fault b then nodes_fault (plan_read b))) y

      pub rest_refused : (why : Reason) → judged (switches_fault b then nodes_fault (plan_read b)) ≡ Err why → plan_answer b ≡ Err why
      unfolding plan_answer
      rest_refused why e = rw after_front (refused_last tt (plan_head b) (switches_fault b then nodes_fault (plan_read b)) why e)

      pub all_passed : (switches_fault b then nodes_fault (plan_read b)) ≡ 0 → plan_answer b ≡ Ok (plan_head b)
      unfolding plan_answer
      all_passed x = rw (after_front, x) refl

  -- ---- what parts without fault have shown

  pub fronted : (p : Header) → HeaderSaid b p → front_fault plan_format b ≡ 0 → Fronted b p
  unfolding unit node
  fronted p h y = record {
    whole = record { said = h.said; long = front_whole plan_format b y };
    counts = h.counts;
    node_ok = λ x l. ap₂ (λ (fold count : ℕ). node_fits fold count unit (node x)) (fold_read b) (units_read b)
        ∙ node_same plan_format b true unit node (λ _. true) units_are nodes_are x l
        ∙ front_nodes plan_format b y x l;
  }

  pub held : (p : Header) → Fronted b p → switches_fault b ≡ 0 → Held b p
  unfolding switch_fault
  held p f y = record {
    front = f;
    switch_ok = λ e l. (record_split b _ plan_format.wire_mark _ (first_at (wires_in b) (switch_fault b) y e l)).1;
  }
