use Rattle.std.proofs.Common.{◌+◌, ◌-◌, take, Ok, sym, ap, ◌∙◌, arith}
use Rattle.std.proofs.lemmas.List.{length-set, take_all}
use Rattle.text.specs.Results.{onto}
use Rattle.text.specs.Numbers.{most}
use Rattle.text.proofs.Fields.{onto_more, onto_none, fields_more, fields_none, line_done}
use Rattle.text.proofs.lines.line.Goals as goal

pub loop-number-preserved : goal.loop-number-preserved
loop-number-preserved g c =
    let t = c.args.text.now in
    let k = most c.args.digits in
    let i = c.loop-number.number-index in
    let more = fields_more t k (g.row.N - i) (g.row.N - (i + 1)) c.loop-number.next c.in_ok-value.value c.in_ok-value.after (omega arith) (sym c.in_ok-value.ensures.is) in (
      omega (arith, c.in_ok-value.ensures.inside),
      c.in_ok-value.ensures.inside.1,
      simp length-set c.loop-number.invariant.2,
      c.loop-number.invariant.3 ∙ ap (onto (take i c.loop-number.number-items)) more ∙ onto_more c.loop-number.number-items i c.in_ok-value.value _ (omega arith),
    )

pub returns-clause-is : goal.returns-clause-is
returns-clause-is g c =
    let t = c.args.text.now in
    let k = most c.args.digits in
    let i = c.loop-number.number-index in
    let xs = c.loop-number.number-items in
    let none = fields_none t k (g.row.N - i) c.loop-number.next (omega arith) in
    let whole = take_all i xs (omega arith) in
    let all = c.loop-number.invariant.3 ∙ ap (onto (take i xs)) none ∙ onto_none (take i xs) c.loop-number.next ∙ ap (λ l. Ok (l, c.loop-number.next)) whole in
    let last = sym c.in_ok-letter.ensures.is ∙ ap Ok c.if-branch-ne10.false in
    sym (line_done t k g.row.N c.args.at _ xs c.loop-number.next (sym c.in_ok-kind.ensures.is) all last)
