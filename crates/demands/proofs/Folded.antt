-- The result that a node's unit begins in its slot of iteration l is the graph's value at l less the node's start. Assumes nothing.
use mathlib.Core.Path.{◌≡◌, refl, sym, ap, ◌∙◌, subst}
use mathlib.Core.Logic.{inl, inr}
use mathlib.Core.Bool.{Bool, cond}
use mathlib.Core.Option.{Option, some, none}
use mathlib.Core.List.{List}
use Prim.Native.Nat.{ℕ, zero, suc, ◌+◌, ◌*◌, ◌-◌, ◌<◌, ◌≤◌}
use native.Mathlib.Omega.{arith}
use lib.Dec.{ltb, eqb}
use lib.ListN.{length}
use lib.IntN.{nat_abs}
use borrow.Author.Tests.{eqb-true, lt-ltb, le-ltb, ltb-true, ltb-false}
use Rattle.words.proofs.LoopLaws.{getD_tab, passed?}
use Rattle.records.specs.declared.Unit.{Unit}
use Rattle.records.specs.Units.{op_port, value, word_before}
use Rattle.records.specs.Records.{at}
use Rattle.sheets.specs.Sheet.{Sheet, unit_of, node_of, wire_of}
use Rattle.sheets.specs.Sound.{Sound}
use Rattle.folding.specs.Folding.{depth_of}
use Rattle.plans.specs.Plan.{Plan, unit_in, node_in, switch_in}
use Rattle.drawing.specs.Folds.{Folds}
use Rattle.memory.specs.Memory.{places, size, reading, leaving}
use Rattle.cycle.specs.Cycle.{through, input_word, run}
use Rattle.cycle.proofs.RunLaws.{begun, ago, ago_none, ago_some, place_run, cycle_run}
use Rattle.demands.specs.Graph.{Values, delayed, along_wire, arriving, wire_into}
use Rattle.demands.specs.Running.{Handed, Leaves}
use Rattle.demands.proofs.TapLaws.{tapℕ, far, near, delayed_shift, no_sample}
use Rattle.demands.proofs.SlotLaws.{input_is, result_of, idle_of, into_meets}

module _ (s : Sheet) (p : Plan) (sound : Sound s) (folds : Folds s p) where
  module _ (val : ℕ → ℕ → ℕ) (m : List ℕ) (room : size p ≤ length m) (hand : ℕ → List ℕ) where
    -- what node x's unit begins in iteration l is the graph's value at l less the start
    Right : ℕ → ℕ → Type 0
    Right x l = begun p m hand (node_of s x).unit (s.fold * l + (node_of s x).slot) ≡ delayed val x (node_in p x).start l

    -- a switch reads what its wire's first node began, depth and tap cycles ago
    taken : (t e : ℕ) → e < length s.wires →
        reading p (run p m hand t) (switch_in p e).source (switch_in p e).tap
        ≡ ago (begun p m hand (node_of s (wire_of s e).from).unit) t (depth_of s (wire_of s e).from + (switch_in p e).tap)
    taken t e he =
        let q = (node_of s (wire_of s e).from).unit in
        let tap = (switch_in p e).tap in
        let hq = sound.on_unit (wire_of s e).from (sound.leaves e he) in
        let on : (switch_in p e).source ≡ q = (folds.joins e he).3 in
        let hp : q < length p.units = omega (arith, folds.units) in
        let long : tap ≤ (unit_in p q).line = subst (λ (z : ℕ). tap ≤ (unit_in p z).line) on (folds.lines e he) in
        let deep : (unit_in p q).unit.depth ≡ (unit_of s q).depth = ap (λ (u : Unit). u.depth) (folds.unit q hq) in
        let fits : (unit_in p q).unit.depth - 1 + tap < places p q = omega (arith, sound.deep q hq) in
        ap (λ (z : ℕ). reading p (run p m hand t) z tap) on
        ∙ place_run p m hand room t q ((unit_in p q).unit.depth - 1 + tap) hp fits
        ∙ ap (ago (begun p m hand q) t) (let c : suc ((unit_in p q).unit.depth - 1 + tap) ≡ (unit_of s q).depth + tap = omega (arith, sound.deep q hq) in c)

    -- the word that a tap brings, where all that began before is right
    brings : (x j e : ℕ) → x < length s.nodes → e < length s.wires → (wire_of s e).to ≡ x →
        ((y k : ℕ) → y < length s.nodes → s.fold * k + (node_of s y).slot < s.fold * ((node_in p x).start + j) + (node_of s x).slot → Right y k) →
        through p (run p m hand (s.fold * ((node_in p x).start + j) + (node_of s x).slot)) (some e) ≡ delayed val (wire_of s e).from (wire_of s e).delays j
    unfolding Right
    brings x j e hx he toe ih =
        let n = s.fold in
        let w = (wire_of s e).delays in
        let a = (node_in p x).start in
        let v = (node_of s x).slot in
        let y = (wire_of s e).from in
        let q = (node_of s y).unit in
        let u = (node_of s y).slot in
        let d = depth_of s y in
        let b = (node_in p y).start in
        let tap = (switch_in p e).tap in
        let t = n * (a + j) + v in
        let hy = sound.leaves e he in
        let 0<d = sound.deep q (sound.on_unit y hy) in
        let u<n = sound.in_turn y hy in
        let eq : tap + d + u + n * b ≡ n * w + n * a + v =
        subst (λ (z : ℕ). tap + d + u + n * b ≡ n * w + n * (node_in p z).start + (node_of s z).slot) toe
        (tapℕ n w (node_in p (wire_of s e).to).start b (node_of s (wire_of s e).to).slot u d tap (folds.taps e he)) in
        taken t e he ∙ elim (passed? (ltb (j + b) w)) [
          | inl c ↦
              let l : j + b < w = ltb-true (j + b) w c in
              ago_none (begun p m hand q) t (d + tap) (far n w a b v u d tap eq u<n j l) ∙ sym (ap (λ (z : Bool). cond z word_before (val y (j - w))) (lt-ltb j w (omega arith)))
          | inr c ↦
              let l : w ≤ j + b = ltb-false (j + b) w c in
              let k = j + b - w in
              let wk : w + k ≡ j + b = omega arith in
              let nr : n * k + u + (d + tap) ≡ t = near n w a b v u d tap eq u<n j k wk in
              ago_some (begun p m hand q) t (d + tap) (n * k + u) nr ∙ ih y k hy (omega (arith, nr)) ∙ delayed_shift val y b w j k wk
        ]

    -- the words at the inputs of node x in iteration start + j
    arrives : (x i j : ℕ) → x < length s.nodes →
        ((y k : ℕ) → y < length s.nodes → s.fold * k + (node_of s y).slot < s.fold * ((node_in p x).start + j) + (node_of s x).slot → Right y k) →
        input_word p (run p m hand (s.fold * ((node_in p x).start + j) + (node_of s x).slot)) (node_of s x).unit (node_of s x).slot i ≡ arriving s val x i j
    arrives x i j hx ih = input_is s p sound folds x i (run p m hand (s.fold * ((node_in p x).start + j) + (node_of s x).slot)) hx ∙ go (wire_into s x i) (λ e h. into_meets s p sound folds x i e h)
      where
        go : (o : Option ℕ) → ((e : ℕ) → o ≡ some e → (e < length s.wires) × ((wire_of s e).to ≡ x)) →
            through p (run p m hand (s.fold * ((node_in p x).start + j) + (node_of s x).slot)) o ≡ along_wire s val j o
        go none f = refl
        go (some e) f = brings x j e hx (f e refl).0 (f e refl).1 ih

    module _ (xs : ℕ → ℕ → ℕ) (vals : Values s xs val) (last : ℕ) (handed : Handed s p xs hand last) where
      worked_out : (x j : ℕ) → x < length s.nodes → s.fold * ((node_in p x).start + j) + (node_of s x).slot ≤ last →
          ((y k : ℕ) → y < length s.nodes → s.fold * k + (node_of s y).slot < s.fold * ((node_in p x).start + j) + (node_of s x).slot → Right y k) →
          Right x ((node_in p x).start + j)
      unfolding Right
      worked_out x j hx hl ih =
          let a = (node_in p x).start in
          let t = s.fold * (a + j) + (node_of s x).slot in
          let k = nat_abs (node_of s x).k in
          let mem = run p m hand t in
          let in0 = arrives x 0 j hx ih in
          let in1 = arrives x 1 j hx ih in
          let sample : value (node_of s x).op (node_of s x).k (at (hand t) k) (arriving s val x 0 j) (arriving s val x 1 j)
          ≡ value (node_of s x).op (node_of s x).k (xs k j) (arriving s val x 0 j) (arriving s val x 1 j) =
          elim (passed? (eqb (node_of s x).op op_port)) [
            | inl y ↦
                let h = handed x hx (eqb-true (node_of s x).op op_port y) (a + j) (omega arith) hl in
                let e : a + j - a ≡ j = omega arith in
                ap (λ (z : ℕ). value (node_of s x).op (node_of s x).k z (arriving s val x 0 j) (arriving s val x 1 j)) (h ∙ ap (xs k) e)
            | inr f ↦ no_sample (node_of s x).op (node_of s x).k (at (hand t) k) (xs k j) (arriving s val x 0 j) (arriving s val x 1 j) f
          ] in
          let right : val x j ≡ delayed val x a (a + j) = rw (le-ltb (a + j) a (omega arith)) (ap (val x) (omega arith)) in
          result_of s p sound folds mem (hand t) x (a + j) hx (cycle_run p m hand t)
          ∙ rw (le-ltb (a + j) a (omega arith), in0, in1) (sample ∙ sym (vals x hx j) ∙ ap (val x) (omega arith))

      right : (n x l : ℕ) → x < length s.nodes → s.fold * l + (node_of s x).slot < n → s.fold * l + (node_of s x).slot ≤ last → Right x l
      unfolding Right
      right zero x l hx h hl = absurd (omega arith)
      right (suc n) x l hx h hl =
          let a = (node_in p x).start in
          let t = s.fold * l + (node_of s x).slot in
          elim (passed? (ltb l a)) [
            | inl y ↦ result_of s p sound folds (run p m hand t) (hand t) x l hx (cycle_run p m hand t) ∙ rw y refl
            | inr f ↦
                let ge : a ≤ l = ltb-false l a f in
                let e : a + (l - a) ≡ l = omega arith in
                let ne : s.fold * (a + (l - a)) ≡ s.fold * l = ap (λ (z : ℕ). s.fold * z) e in
                subst (Right x) e (worked_out x (l - a) hx (omega (arith, ne)) (λ y k hy lt. right n y k hy (omega (arith, ne, lt)) (omega (arith, ne, lt))))
          ]

      -- the word leaving at cycle t is what began depth cycles ago
      left : (q t : ℕ) → q < length s.units → at (leaving p (run p m hand t)) q ≡ ago (begun p m hand q) t (unit_of s q).depth
      unfolding leaving
      left q t hq =
          let hp : q < length p.units = omega (arith, folds.units) in
          let deep = ap (λ (u : Unit). u.depth) (folds.unit q hq) in
          let fits : (unit_in p q).unit.depth - 1 + 0 < places p q = omega (arith, sound.deep q hq) in
          getD_tab (length p.units) (λ q. reading p (run p m hand t) q 0) q 0 hp
          ∙ place_run p m hand room t q ((unit_in p q).unit.depth - 1 + 0) hp fits
          ∙ ap (ago (begun p m hand q) t) (let c : suc ((unit_in p q).unit.depth - 1 + 0) ≡ (unit_of s q).depth = omega (arith, sound.deep q hq) in c)

      pub leaves : Leaves s p val (λ t q. at (leaving p (run p m hand t)) q) last
      unfolding Right
      leaves = record {
        words = λ x hx l hl.
            let q = (node_of s x).unit in
            let hq = sound.on_unit x hx in
            let t = s.fold * l + (node_of s x).slot in
            left q (t + depth_of s x) hq
            ∙ ago_some (begun p m hand q) (t + depth_of s x) (depth_of s x) t refl
            ∙ right (suc t) x l hx (omega arith) (omega arith);
        early = λ q hq t hl h. left q t hq ∙ ago_none (begun p m hand q) t (unit_of s q).depth h;
        idle = λ q hq v hv empty l hl.
            let t = s.fold * l + v in
            let d = (unit_of s q).depth in
            left q (t + d) hq ∙ ago_some (begun p m hand q) (t + d) d t refl
            ∙ idle_of s p sound folds (run p m hand t) (hand t) q v l hv (cycle_run p m hand t) empty;
      }
