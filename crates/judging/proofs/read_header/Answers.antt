-- `judging::read_header` meets its contract: the counts, then the chain. Assumes nothing.
use Rattle.std.proofs.Common.{◌≡◌, Ok, Err, sym, ap, ◌∙◌, arith, rules}
use Rattle.judging.proofs.HeadLaws.{counts_refused, head_long, head_in, chain_refused, chain_passed}
use Rattle.judging.proofs.read_header.Goals as goal

pub returns-in_err-header : goal.returns-in_err-header
returns-in_err-header c =
    let why : c.from_residual.result ≡ Err c.in_err-header.field-0.0 = search rules in
    why ∙ sym (counts_refused c.args.b.now _ (sym c.read_header.ensures ∙ c.in_err-header.was))

pub bounds-b-8 : goal.bounds-b-8
bounds-b-8 c = omega (arith, head_long c.args.b.now c.in_ok-header.header (sym c.read_header.ensures ∙ c.in_ok-header.was))

pub returns-then-b-gt-MOST_CHAIN : goal.returns-then-b-gt-MOST_CHAIN
returns-then-b-gt-MOST_CHAIN c = sym (chain_refused c.args.b.now c.in_ok-header.header (sym c.read_header.ensures ∙ c.in_ok-header.was) c.if-b-gt-MOST_CHAIN.true)

pub returns : goal.returns
returns c =
    let got = sym c.read_header.ensures ∙ c.in_ok-header.was in
    let head = head_in c.args.b.now c.in_ok-header.header got in
    ap Ok (c.from.ensures ∙ simp head) ∙ sym (chain_passed c.args.b.now c.in_ok-header.header got c.if-b-gt-MOST_CHAIN.false)
