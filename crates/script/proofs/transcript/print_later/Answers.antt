use Rattle.std.proofs.Common.{eqb, sym, ◌∙◌, rules, tests}
use Rattle.std.proofs.lemmas.Fn.{always_returns_same}
use Rattle.script.proofs.Splits.{split}
use Rattle.script.proofs.Later.{refused, all_refused}
use Rattle.script.proofs.transcript.print_later.Goals as goal

pub loop-line-init : goal.loop-line-init
loop-line-init c = cc (c.into_iter-line-iterator.ensures.into_iter_gives, c.split_inclusive-line-items.ensures.rest)

pub loop-line-preserved : goal.loop-line-preserved
loop-line-preserved c =
    let s = c.in-Some.ensures.steps in
    let line = split _ _ _ s.1.0 s.0 s.1.1 s.2 (s.1.2 (λ b. eqb b 10) (always_returns_same _ _ _ (λ a r q k. search (rules, tests)))).1 in
    refused _ _ _ _ _ _ _ c.number.ensures line c.in_ok-print_refusal.ensures c.loop-line.invariant

pub returns : goal.returns
returns c = sym (all_refused _ _ c.in-None.ensures.steps.0) ∙ c.loop-line.invariant
