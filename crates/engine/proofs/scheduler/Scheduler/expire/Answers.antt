use Rattle.std.proofs.Common.{length, sym, ap, ◌∙◌, length-set, arith}
use Rattle.model.proofs.Loops.{step_few, step_count, step_rest, expire_less, end_count, end_few, end_rest}
use Rattle.engine.proofs.scheduler.Scheduler.expire.Goals as goal

pub overflow_add-ended : goal.overflow_add-ended
overflow_add-ended g c =
    let i = c.loop-place.invariant in
    let few = step_few c.loop-place.self c.args.self.now c.loop-place.ended (sym i.0 ∙ c.in-Some.ensures.all) i.1 i.2 c.in-Some.place (sym c.in-Some.ensures.is) in
    omega arith

pub loop-place-smaller : goal.loop-place-smaller
loop-place-smaller g c =
    expire_less c.loop-place.self c.finish.new.self c.in-Some.place (sym c.in-Some.ensures.is) c.finish.ensures

pub loop-place-preserved : goal.loop-place-preserved
loop-place-preserved g c =
    let s = c.loop-place.self in
    let s₀ = c.args.self.now in
    let s' = c.finish.new.self in
    let i = c.loop-place.invariant in
    let all = sym i.0 ∙ c.in-Some.ensures.all in (
      ap (λ z. length z.records) c.finish.ensures ∙ length-set s.records c.in-Some.place _ ∙ i.0,
      step_count s s₀ c.loop-place.ended all i.1 i.2 s' c.in-Some.place (sym c.in-Some.ensures.is) c.finish.ensures,
      step_rest s s₀ c.loop-place.ended all i.1 i.2 s' c.in-Some.place (sym c.in-Some.ensures.is) c.finish.ensures,
    )

pub returns : goal.returns
returns g c =
    let s = c.loop-place.self in
    let s₀ = c.args.self.now in
    let i = c.loop-place.invariant in
    let all = sym i.0 ∙ c.in_default.ensures.all in
    let e = sym c.in_default.ensures.is in
    record {
      count = end_count s s₀ c.loop-place.ended all i.1 i.2 e;
      few = end_few s s₀ c.loop-place.ended all i.1 i.2 e;
      after = end_rest s s₀ c.loop-place.ended all i.1 i.2 e;
    }
