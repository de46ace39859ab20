-- `judging::switches::join_switches` meets its contract: no switch passed has a fault, the masks hold the inputs that they feed and each
-- tap counts for the unit that it reads; the first switch with a fault is handed up. Assumes nothing.
use Rattle.std.proofs.Common.{◌≡◌, ℕ, refl, sym, ap, ◌∙◌, subst, arith, rules, length-set, get_or, Result, Ok, Err}
use mathlib.Core.Path.{subst⁻¹}
use Rattle.times.specs.declared.Cycles.{Cycles}
use Rattle.times.proofs.OrderLaws.{larger_is}
use Rattle.words.specs.Loops.{first}
use Rattle.words.proofs.FaultLaws.{first_more, first_hit}
use Rattle.records.specs.Records.{wires_in}
use Rattle.records.proofs.AnswerLaws.{refused_some, refused_last}
use Rattle.slots.specs.Feeding.{InputMasked}
use Rattle.slots.proofs.FeedingLaws.{feeding_none, feeding_more, feeding_fed}
use Rattle.plans.specs.Plan.{plan_read}
use Rattle.plans.proofs.ReadLaws.{switches_read}
use Rattle.plans.proofs.WholeLaws.{wires_so}
use Rattle.judging.specs.Answers.{no_cycles, switch_fault, TapsOf, Joins}
use Rattle.judging.proofs.PartLaws.{held}
use Rattle.judging.proofs.SwitchLaws.{input_masked, GotSwitch, switch_got}
use Rattle.judging.proofs.FigureLaws.{taps_none, taps_more}
use Rattle.judging.proofs.switches.join_switches.Goals as goal
use Rattle.judging.proofs.switches.join_switches.Goals.{In-Ok}

err_same : {A B : Type 0} {x y : B} → ◌≡◌ {A = Result A B} (Err x) (Err y) → x ≡ y
err_same e = cc

ok_same : {A B : Type 0} {x y : A} → ◌≡◌ {A = Result A B} (Ok x) (Ok y) → x ≡ y
ok_same e = cc

pub loop-e-init : goal.loop-e-init
unfolding first
loop-e-init c = (refl, rw c.none.ensures (feeding_none _), refl, taps_none (plan_read c.args.plan.now.b.now) _ refl)

pub returns-in_default : goal.returns-in_default
returns-in_default c =
    let b = c.args.plan.now.b.now in
    let here = sym c.read_switch-got.ensures ∙ c.unwrap_err.ensures in
    let hit = first_hit (wires_in b) c.loop-e.e (switch_fault b) (omega (arith, wires_so _ _ c.requires.fronted.whole, switches_read b)) c.loop-e.invariant.0 (refused_some _ _ _ here) in
    record {
      refused = λ why e. rw hit (refused_last _ tt (switch_fault b c.loop-e.e) _ here ∙ ap Err (err_same e));
      joins = λ j e. search rules;
    }

-- the switch that the reader got
got : (c : In-Ok) → GotSwitch c.args.plan.now.b.now c.loop-e.e c.in-Ok.joint
got c =
    switch_got c.args.plan.now.b.now c.args.plan.now.head c.requires.fronted c.loop-e.e (omega arith) c.in-Ok.joint (sym c.read_switch-got.ensures ∙ c.in-Ok.is)

-- the input that it feeds has room in the masks
pub feed-requires : goal.feed-requires
feed-requires c = let g = got (goal.at.feed-requires c).In-Ok in subst⁻¹ InputMasked (c.input_of.ensures ∙ g.input_is) g.masked

pub bounds-joined-q : goal.bounds-joined-q
bounds-joined-q c = let g = got (goal.at.bounds-joined-q c).In-Ok in omega (arith, g.few)

pub bounds-joined-q-in-loop-e : goal.bounds-joined-q-in-loop-e
bounds-joined-q-in-loop-e c = let g = got (goal.at.bounds-joined-q-in-loop-e c).In-Ok in omega (arith, g.few)

pub loop-e-preserved : goal.loop-e-preserved
loop-e-preserved c =
    let g = got (goal.at.loop-e-preserved c).In-Ok in (
      first_more _ _ c.loop-e.invariant.0 g.faultless,
      rw (c.feed.ensures, c.input_of.ensures ∙ g.input_is) (feeding_more _ c.loop-e.e c.loop-e.joined.fed c.loop-e.invariant.1 g.masked),
      simp length-set c.loop-e.invariant.2,
      taps_more (plan_read c.args.plan.now.b.now) c.loop-e.e c.loop-e.joined.taps c.loop-e.invariant.3 c.loop-e.invariant.2 _ g.source_is (omega (arith, g.few)) c.tap.result c.max.result
          c.tap.ensures (ap (λ (x : Cycles). x.0) c.max.ensures ∙ larger_is (get_or c.loop-e.joined.taps c.in-Ok.joint.source no_cycles) c.tap.result),
    )

pub returns : goal.returns
returns c =
    let b = c.args.plan.now.b.now in
    let all : c.loop-e.e ≡ c.args.plan.now.head.wires = omega arith in
    let end : c.loop-e.e ≡ wires_in b = omega (arith, wires_so _ _ c.requires.fronted.whole, switches_read b) in
    let none = rw end at c.loop-e.invariant.0 in
    let h = held b c.args.plan.now.head c.requires.fronted none in
    let joins : Joins (plan_read b) c.args.plan.now.head.wires c.loop-e.joined = record {
      fed_so = feeding_fed _ _ _ (λ i k. input_masked b c.args.plan.now.head h i (omega (arith, wires_so _ _ c.requires.fronted.whole))) (rw all at c.loop-e.invariant.1);
      taps_so = subst (λ (n : ℕ). TapsOf (plan_read b) n c.loop-e.joined.taps) all c.loop-e.invariant.3;
    } in
    record {
      refused = λ why e. search rules;
      joins = λ j e. (none, subst (Joins (plan_read b) c.args.plan.now.head.wires) (ok_same e) joins);
    }
