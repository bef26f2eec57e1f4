use Rattle.std.proofs.Common.{eqb, length, refl, ap, sym, ◌∙◌, rules, tests}
use Rattle.std.proofs.lemmas.Fn.{always_returns_same}
use Rattle.std.proofs.lemmas.List.{take_at, drop_at}
use Rattle.script.proofs.Splits.{no_lines, split}
use Rattle.script.proofs.lines.split_line.Goals as goal

pub returns-in_err-line : goal.returns-in_err-line
returns-in_err-line c = let s = c.in_err-line.ensures.steps in rw c.from_residual.ensures (no_lines _ (ap length (sym c.split_inclusive.ensures.rest) ∙ s.0))

pub returns : goal.returns
returns c =
    let s = c.in_ok-line.ensures.steps in
    let first = split _ _ _ s.1.0 s.0 s.1.1 s.2 (s.1.2 (λ b. eqb b 10) (always_returns_same _ _ _ (λ a r q k. search (rules, tests)))).1 in
    let front = take_at c.in_ok-line.line.now c.next.new.self.rest.now _ refl in
    let back = drop_at c.in_ok-line.line.now c.next.new.self.rest.now _ refl in
    cc (s.0, c.split_inclusive.ensures.rest, c.split_at.ensures.front, c.split_at.ensures.back)
