-- `judging::judge` meets its contract: the first part with a fault decides, in 01's order. Assumes nothing.
use Rattle.std.proofs.Common.{◌≡◌, Ok, Err, sym, ap, ◌∙◌, rules}
use Rattle.words.specs.Loops.{◌then◌}
use Rattle.records.specs.Answers.{front_fault}
use Rattle.records.proofs.AnswerLaws.{got_none}
use Rattle.plans.specs.Plan.{plan_format, plan_read}
use Rattle.plans.proofs.WholeLaws.{counted_so}
use Rattle.judging.specs.Answers.{head_fault, switches_fault, nodes_fault, HeaderSaid, Fronted}
use Rattle.judging.proofs.PartLaws.{head_refused, head_got, front_refused, rest_refused, all_passed, fronted}
use Rattle.judging.proofs.SwitchLaws.{counts_of}
use Rattle.judging.proofs.judge.Goals as goal
use Rattle.judging.proofs.judge.Goals.{In_ok-p, In_ok-judge_front}

pub returns-in_err-p : goal.returns-in_err-p
returns-in_err-p c =
    let why : c.from_residual.result ≡ Err c.in_err-p.field-0.0 = search rules in
    why ∙ sym (head_refused c.args.b.now _ (sym c.read_header.ensures ∙ c.in_err-p.was))

said : (c : In_ok-p) → (head_fault c.args.b.now ≡ 0) × HeaderSaid c.args.b.now c.in_ok-p.p
said c = head_got _ c.in_ok-p.p (sym c.read_header.ensures ∙ c.in_ok-p.was)

pub judge_front-requires : goal.judge_front-requires
judge_front-requires c = (said c).1

pub returns-in_err-judge_front : goal.returns-in_err-judge_front
returns-in_err-judge_front c =
    let h = said (goal.at.returns-in_err-judge_front c).In_ok-p in
    let why : c.from_residual-in_err-judge_front.result ≡ Err c.in_err-judge_front.field-0.0 = search rules in
    why ∙ sym (front_refused c.args.b.now h.0 _ (sym c.judge_front.ensures ∙ c.in_err-judge_front.was))

clear : (c : In_ok-judge_front) → front_fault plan_format c.args.b.now ≡ 0
clear c = (got_none tt _ (front_fault plan_format c.args.b.now) (sym c.judge_front.ensures ∙ c.in_ok-judge_front.was)).0

front : (c : In_ok-judge_front) → Fronted c.args.b.now c.in_ok-p.p
front c = fronted _ _ (head_got _ c.in_ok-p.p (sym c.read_header.ensures ∙ c.in_ok-p.was)).1 (clear c)

pub invariant_of-judge_rest : goal.invariant_of-judge_rest
invariant_of-judge_rest c =
    let f = front (goal.at.invariant_of-judge_rest c).In_ok-judge_front in record { whole = f.whole; counted = counted_so _ _ f.whole (counts_of _ _ f) }

pub judge_rest-requires : goal.judge_rest-requires
judge_rest-requires c = front (goal.at.judge_rest-requires c).In_ok-judge_front

pub returns-in_err-judge_rest : goal.returns-in_err-judge_rest
returns-in_err-judge_rest c =
    let at = goal.at.returns-in_err-judge_rest c in
    let h = said at.In_ok-p in
    let why : c.from_residual-in_err-judge_rest.result ≡ Err c.in_err-judge_rest.field-0.0 = search rules in
    why ∙ sym (rest_refused c.args.b.now h.0 (clear at.In_ok-judge_front) _ (sym c.judge_rest.ensures ∙ c.in_err-judge_rest.was))

pub returns : goal.returns
returns c =
    let b = c.args.b.now in
    let h = said (goal.at.returns c).In_ok-p in
    let none = got_none tt _ (switches_fault b then nodes_fault (plan_read b)) (sym c.judge_rest.ensures ∙ c.in_ok-judge_rest.was) in
    ap Ok h.1.said ∙ sym (all_passed b h.0 (clear (goal.at.returns c).In_ok-judge_front) none.0)
