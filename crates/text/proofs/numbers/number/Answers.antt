use Rattle.std.proofs.Common.{◌≡◌, ◌+◌, min, take, drop, ap, ◌∙◌, arith}
use Rattle.std.specs.Result.{result_ok}
use Rattle.std.proofs.lemmas.List.{take_all}
use Rattle.text.specs.Forms.{written}
use Rattle.text.proofs.Digits.{rest_is, run, run_length, counted, all_counted, numeral_run, numeral_over, numeral_none, next_digit, room, one_more}
use Rattle.text.proofs.numbers.number.Goals as goal
use Rattle.text.proofs.numbers.number.Goals.{then-count-eq0-via-then-count-eq0, then-count-eq0-via-else-count-eq0+then-count-most}

pub returns-then-count-eq0-clause-is : goal.returns-then-count-eq0-clause-is
returns-then-count-eq0-clause-is c =
    let bs = drop c.args.at c.args.text.now in
    let rest = rest_is c.args.text.now c.args.at c.in_ok-rest.rest c.get.result (c.ok_or.ensures.ok_part ∙ ap result_ok c.in_ok-rest.was) c.get.ensures.lookup in
    let count : c.digits_in_front-count.result ≡ min (c.most.result + 1) (run bs) = counted _ _ c.most.result c.in_ok-rest.rest.now c.min-room.ensures c.digits_in_front-count.ensures ∙ ap (λ xs. min (c.most.result + 1) (run xs)) rest in
    elim c.then-count-eq0.branch [
      | then-count-eq0-via-then-count-eq0 w ↦ numeral_none _ _ bs (omega arith)
      | then-count-eq0-via-else-count-eq0+then-count-most w ↦ numeral_over _ _ bs (omega arith) (omega arith)
    ]

pub overflow_mul-value : goal.overflow_mul-value
overflow_mul-value c =
    omega (arith, room _ _ (all_counted _ _ c.most.result _ c.min-room.ensures c.digits_in_front-count.ensures (omega arith)) _ c.loop-digit-test.true c.loop-digit.value c.loop-digit.invariant.1 c.args.digits (omega arith))

pub overflow_sub-digit : goal.overflow_sub-digit
overflow_sub-digit c = (next_digit _ _ (all_counted _ _ c.most.result _ c.min-room.ensures c.digits_in_front-count.ensures (omega arith)) _ c.loop-digit-test.true).0

pub overflow_add-value : goal.overflow_add-value
overflow_add-value c =
    let d = next_digit _ _ (all_counted _ _ c.most.result _ c.min-room.ensures c.digits_in_front-count.ensures (omega arith)) _ c.loop-digit-test.true in
    omega (arith, room _ _ (all_counted _ _ c.most.result _ c.min-room.ensures c.digits_in_front-count.ensures (omega arith)) _ c.loop-digit-test.true c.loop-digit.value c.loop-digit.invariant.1 c.args.digits (omega arith), d.0, d.1)

pub loop-digit-preserved : goal.loop-digit-preserved
loop-digit-preserved c =
    one_more _ _ (all_counted _ _ c.most.result _ c.min-room.ensures c.digits_in_front-count.ensures (omega arith)) _ c.loop-digit-test.true _ c.loop-digit.invariant.1 _ c.from.ensures c.loop-digit.invariant.0

pub returns-clause-is : goal.returns-clause-is
returns-clause-is c =
    let bs = drop c.args.at c.args.text.now in
    let rest : c.in_ok-rest.rest.now ≡ bs = rest_is c.args.text.now c.args.at c.in_ok-rest.rest c.get.result (c.ok_or.ensures.ok_part ∙ ap result_ok c.in_ok-rest.was) c.get.ensures.lookup in
    let count : c.digits_in_front-count.result ≡ run bs = all_counted _ _ c.most.result _ c.min-room.ensures c.digits_in_front-count.ensures (omega arith) ∙ run_length c.in_ok-rest.rest.now ∙ ap run rest in
    let whole = take_all c.loop-digit.digit-index (take c.digits_in_front-count.result c.in_ok-rest.rest.now) (omega arith) in
    let front : take c.digits_in_front-count.result c.in_ok-rest.rest.now ≡ take (run bs) bs = cc in
    let value : c.loop-digit.value ≡ written 0 (take (run bs) bs) = c.loop-digit.invariant.0 ∙ ap (written 0) (whole ∙ front) in
    rw (value, count) (numeral_run _ _ bs (omega arith) (omega arith))
