-- Demand 2: at 0 the plan in the buffer has the latest retiming's starts, its waits, registers and chain; at 6 the loop in the buffer
-- refutes every retiming; 6 exactly where there is none. Assumes nothing.
use mathlib.Core.Path.{◌≡◌, refl, sym, ap, ◌∙◌, subst}
use mathlib.Core.Logic.{◌↔◌, ◌⊎◌, inl, inr}
use mathlib.Core.Bool.{true, false}
use mathlib.Core.List.{List, [], ◌∷◌, ◌++◌}
use Prim.Native.Nat.{ℕ, zero, suc, ◌+◌, ◌<◌, ◌≤◌}
use native.Mathlib.Decide.{ℕ_discrete}
use native.Mathlib.Omega.{arith}
use lib.Dec.{ltb, lit<}
use lib.ListN.{length, get_or, take, drop, get_or-eq_default}
use lib.Seq.{take_at, get_or-drop}
use lib.IntN.{ℤ, pos, ◌+ℤ◌}
use lib.Signed.{le_z, ◌≤ℤ◌, ◌<ℤ◌}
use borrow.Author.Tests.{ltb-true, ltb-false, ne_eqb}
use Rattle.plans.proofs.PlanBytes.{loop_back}
use Rattle.words.proofs.Ints.{ints, sumℤ, difℤ, up_pos, down_pos, leZ_true, leZ_false}
use Rattle.words.proofs.LoopLaws.{passed?}
use Rattle.records.specs.Records.{over}
use Rattle.sheets.specs.Sheet.{Sheet, sheet_of, sheet_fault, wire_of}
use Rattle.sheets.specs.Sound.{Sound}
use Rattle.sheets.proofs.SheetLaws.{passed, sound_of, counts_of, wires_is}
use Rattle.folding.specs.Walks.{Walk, along, Loop, start, starts, foldable}
use Rattle.folding.specs.Folding.{net, wait, Retiming}
use Rattle.folding.specs.Lifetime.{registers}
use Rattle.folding.specs.Latest.{Latest}
use Rattle.folding.proofs.WaitLaws.{wait_meets, retiming_meets, meets_retiming}
use Rattle.folding.proofs.StartLaws.{length_starts}
use Rattle.folding.proofs.FoldingLaws.{Foldable, folds_well, loop_of, loop_leaves_none}
use Rattle.plans.specs.Plan.{PlanNode, no_node, node_in, Switch, plan_bytes, loop_bytes, plan_read, loop_read}
use Rattle.plans.specs.Judging.{plan_fault}
use Rattle.plans.proofs.ConcatLaws.{AllBytes, bytes_concat}
use Rattle.drawing.specs.PlanOf.{plan_of, plan_length}
use Rattle.planner.specs.Planning.{plan_number, answered_length, left_in, Planning}
use Rattle.drawing.proofs.PlanLaws.{node_is, switch_is, nodes_as, plan_folds}
use Rattle.drawing.proofs.PassedPlan.{reads_back, passes, length_written, plan_small}
use Rattle.planner.proofs.AnswerLaws.{folds_or}
use Rattle.planner.proofs.PlanningLaws.{at_zero, at_six}
use Rattle.demands.specs.Demands.{Bytes, WellPlanned, Among, Demand2Met, WaitsByBounds}

pub waits_by_bounds : WaitsByBounds
waits_by_bounds s sound r = (retiming_meets s sound.turns r, meets_retiming s sound.turns r)

-- ---- at 0

-- the starts that the plan prints are the sheet's
starts_printed : (s : Sheet) (u : ℕ) → (node_in (plan_of s) u).start ≡ start (net s) u
unfolding plan_of
starts_printed s u = elim (passed? (ltb u (length s.nodes))) [
  | inl t ↦ ap (λ (n : PlanNode). n.start) (node_is s (start (net s)) u (ltb-true u (length s.nodes) t))
  | inr f ↦
      let l = ltb-false u (length s.nodes) f in
      ap (λ (n : PlanNode). n.start) (get_or-eq_default (plan_of s).nodes no_node {n = u} (omega (arith, nodes_as s (start (net s)))))
      ∙ sym (get_or-eq_default (starts (net s)) 0 {n = u} (omega (arith, length_starts (net s))))
]

well_planned : (s : Sheet) → Sound s → Foldable s → WellPlanned s (plan_of s)
unfolding plan_of
well_planned s sound ok =
    let same : start (net s) ≡ (λ u. (node_in (plan_of s) u).start) = λ i u. sym (starts_printed s u) i in
    record {
      folds = plan_folds s sound ok;
      latest = subst (Latest (net s)) same ok.latest_one;
      taps = λ e h. ap (λ (w : Switch). pos w.tap) (switch_is s (start (net s)) e h) ∙ ok.tap_is e h ∙ ap (λ (r : ℕ → ℕ). wait s (λ u. pos (r u)) e) same;
      registers_are = ap (registers s) same;
      chain_is = ok.chain_is;
    }

-- what a result 0 leaves at the head of the buffer
pub record PlanLeft (b : List ℕ) (len : ℕ) (after : List ℕ) : Type 0 where
  pub sound : Sound (sheet_of b)
  pub folds : Foldable (sheet_of b)
  pub head : take len after ≡ plan_bytes (plan_of (sheet_of b))
  pub says : plan_read (take len after) ≡ plan_of (sheet_of b)
  pub taken : plan_fault (take len after) ≡ 0
  pub small : AllBytes (plan_bytes (plan_of (sheet_of b)))

pub plan_left : (b before : List ℕ) (number len : ℕ) (after : List ℕ) → Planning b before number len after → number ≡ 0 → PlanLeft b len after
plan_left b before number len after p done =
    let j = at_zero b (length before) (sym p.number_is ∙ done) in
    let snd = sound_of b j.fine in
    let ok = folds_well (sheet_of b) snd j.folds_is in
    let pass = passed b j.fine in
    let f = p.fixed (λ six. omega arith) in
    let w = plan_bytes (plan_of (sheet_of b)) in
    let long : length w ≡ len = length_written b pass ok ∙ sym (f.0 ∙ ap (answered_length b) done) in
    let head : take len after ≡ w = ap (take len) (f.1 ∙ ap (left_in b before) done) ∙ take_at w (drop (length w) before) len long in
    record {
      sound = snd;
      folds = ok;
      head = head;
      says = ap plan_read head ∙ reads_back b pass ok;
      taken = ap plan_fault head ∙ passes b pass ok;
      small = plan_small b pass ok;
    }

-- ---- at 6

-- along a walk a retiming falls by no more than its total, or some wait is below 0
breaks : (s : Sheet) → Sound s → (r : ℕ → ℤ) (es : List ℕ) (u v : ℕ) → Walk (net s) es u v → Among (λ e. wait s r e <ℤ pos 0) es ⊎ (r u ≤ℤ (along (net s) es +ℤ r v))
breaks s sound r [] u v h = let e : r u ≡ r v = ap r h in inr (omega (ints, sumℤ (pos 0) (r v), up_pos 0, down_pos 0))
breaks s sound r (e ∷ es) u v h = elim (passed? (le_z (pos 0) (wait s r e))) [
  | inr f ↦ inl (inl (leZ_false (pos 0) (wait s r e) f))
  | inl t ↦ elim (breaks s sound r es (wire_of s e).to v h.2) [
    | inl a ↦ inl (inr a)
    | inr l ↦
        let g = net s in
        let a = wait_meets s sound.turns r e (leZ_true (pos 0) (wait s r e) t) in
        let c : r (g.from e) ≡ r u = ap r h.1 in
        inr (omega (ints, difℤ (r (g.from e)) (r (g.to e)), sumℤ (along g es) (r v), sumℤ (g.bound e) (along g es), sumℤ (g.bound e +ℤ along g es) (r v)))
  ]
]

loop_proves : (s : Sheet) → Sound s → (e : ℕ) (es : List ℕ) → Loop (net s) e es → (r : ℕ → ℤ) → Among (λ e. wait s r e <ℤ pos 0) (e ∷ es)
loop_proves s sound e es loop r =
    let u = (wire_of s e).from in
    elim (breaks s sound r (e ∷ es) u u loop.closed) [
      | inl a ↦ a
      | inr l ↦ absurd (let n = loop.short in omega (ints, sumℤ (along (net s) (e ∷ es)) (r u), up_pos 0, down_pos 0))
    ]

-- ---- bytes

bytes_join : (w m : List ℕ) → AllBytes w → Bytes m → Bytes (w ++ m)
bytes_join [] m h k i = k i
bytes_join (a ∷ w) m h k zero = h.0
bytes_join (a ∷ w) m h k (suc i) = bytes_join w m h.1 k i

bytes_over : (w l : List ℕ) → AllBytes w → Bytes l → Bytes (over w l)
bytes_over w l h k = bytes_join w (drop (length w) l) h (λ i. subst (λ (z : ℕ). z < 256) (sym (get_or-drop (length w) l i 0)) (k (length w + i)))

-- every wire of a walk is below the number of wires
walk_small : (s : Sheet) (n : ℕ) → length s.wires ≤ n → (es : List ℕ) (u v : ℕ) → Walk (net s) es u v → (i : ℕ) → i < length es → get_or es i 0 < n
walk_small s n few [] u v h i l = absurd (omega arith)
walk_small s n few (e ∷ es) u v h zero l = omega (arith, h.0)
walk_small s n few (e ∷ es) u v h (suc i) l = walk_small s n few es (wire_of s e).to v h.2 i (omega arith)

loop_small : (b : List ℕ) → sheet_fault b ≡ 0 → (e : ℕ) (es : List ℕ) → Loop (net (sheet_of b)) e es → AllBytes (loop_bytes (e ∷ es))
unfolding loop_bytes
loop_small b fine e es loop =
    let few : length (sheet_of b).wires ≤ 256 = omega (arith, (counts_of b (passed b fine)).wires_most, wires_is b) in
    bytes_concat (λ (e : ℕ). 80 ∷ 87 ∷ e ∷ []) (e ∷ es) 0
    (λ i l. (lit< tt, (lit< tt, (walk_small (sheet_of b) 256 few (e ∷ es) (wire_of (sheet_of b) e).from (wire_of (sheet_of b) e).from loop.closed i l, tt))))

-- ---- the demand

exactly_when : (b before : List ℕ) → sheet_fault b ≡ 0 → plan_length b ≤ length before →
    ((plan_number b (length before) ≡ 6) ↔ ((r : ℕ → ℤ) → Retiming (sheet_of b) r → ⊥)) × ((plan_number b (length before) ≡ 0) ↔ ((r : ℕ → ℤ) × Retiming (sheet_of b) r))
exactly_when b before fine fits =
    let s = sheet_of b in
    let snd = sound_of b fine in
    elim (passed? (foldable (net s))) [
      | inl t ↦
          let ok = folds_well s snd t in
          let r : (r : ℕ → ℤ) × Retiming s r = ((λ u. pos (start (net s) u)), ok.retiming) in
          rw (folds_or b before fine fits true t) (((λ h. absurd (omega arith)), (λ f. absurd (f r.0 r.1))), ((λ h. r), (λ r. refl)))
      | inr f ↦
          let l = loop_of s snd f in
          let no : (r : ℕ → ℤ) → Retiming s r → ⊥ = loop_leaves_none s snd l.0 l.1 l.2 in
          rw (folds_or b before fine fits false f) (((λ h. no), (λ h. refl)), ((λ h. absurd (omega arith)), (λ r. absurd (no r.0 r.1))))
    ]

bytes_left : (b before : List ℕ) (number len : ℕ) (after : List ℕ) → Planning b before number len after → Bytes before → Bytes after
bytes_left b before number len after p small = elim (ℕ_discrete number 6) [
  | yes six ↦
      let s = p.shown six in
      let j = at_six b (length before) (sym p.number_is ∙ six) in
      subst Bytes (sym s.left) (bytes_over (loop_bytes (s.wire ∷ s.wires)) before (loop_small b j.fine s.wire s.wires s.loop) small)
  | no other ↦ elim (ℕ_discrete number 0) [
    | yes done ↦
        let is : after ≡ over (plan_bytes (plan_of (sheet_of b))) before = (p.fixed other).1 ∙ ap (left_in b before) done in
        subst Bytes (sym is) (bytes_over (plan_bytes (plan_of (sheet_of b))) before (plan_left b before number len after p done).small small)
    | no refused ↦ let same : after ≡ before = (p.fixed other).1 ∙ (rw (ne_eqb number 0 refused) refl) in subst Bytes (sym same) small
  ]
]

pub demand_2 : Demand2Met
demand_2 b before number len after p = record {
  at_0 = λ done.
      let l = plan_left b before number len after p done in
      subst (WellPlanned (sheet_of b)) (sym l.says) (well_planned (sheet_of b) l.sound l.folds);
  at_6 = λ six.
      let s = p.shown six in
      let j = at_six b (length before) (sym p.number_is ∙ six) in
      let is : loop_read len after ≡ s.wire ∷ s.wires = ap (loop_read len) s.left ∙ loop_back (s.wire ∷ s.wires) (drop (length (loop_bytes (s.wire ∷ s.wires))) before) len s.length_is in
      record {
        wire = s.wire;
        wires = s.wires;
        is = is;
        loop = s.loop;
        refutes = λ r. subst (Among (λ e. wait (sheet_of b) r e <ℤ pos 0)) (sym is) (loop_proves (sheet_of b) (sound_of b j.fine) s.wire s.wires s.loop r);
      };
  exactly = λ fine fits. subst (λ (n : ℕ). ((n ≡ 6) ↔ ((r : ℕ → ℤ) → Retiming (sheet_of b) r → ⊥)) × ((n ≡ 0) ↔ ((r : ℕ → ℤ) × Retiming (sheet_of b) r)))
      (sym p.number_is) (exactly_when b before fine fits);
  bytes_left = bytes_left b before number len after p;
  taken = λ done. (plan_left b before number len after p done).taken;
}
