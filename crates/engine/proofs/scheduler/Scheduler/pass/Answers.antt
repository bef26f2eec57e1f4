use Rattle.std.proofs.Common.{◌≡◌, map, ap, ◌∙◌, rules}
use Rattle.model.specs.Records.{one, at, aged}
use Rattle.model.specs.States.{State, moved}
use Rattle.model.specs.Moves.{settle}
use Rattle.engine.proofs.TickLaws.{idle_answer, idle_after, written_answer, written_after}
use Rattle.engine.proofs.scheduler.Scheduler.pass.Goals as goal

pub returns-in_default : goal.returns-in_default
returns-in_default g c =
    let s = c.args.self.now in
    let r = c.settle.new.self in
    let t = c.settle-in_default.new.self in
    let n = c.expire-overrun.result in
    let overran = c.expire-overrun.ensures.count in
    let is-ready = c.settle.ensures ∙ ap settle c.expire-overrun.ensures.after in
    let chosen = c.in_default.ensures in
    record {
      answer = idle_answer s r t n overran is-ready chosen;
      after = idle_after s r t n overran is-ready chosen c.age.new.self.table (c.age.ensures ∙ ap (λ (z : State). map aged z.records) c.self.view_is)
          (c.settle-in_default.ensures ∙ ap (λ (z : State). settle (moved z c.age.new.self.table z.lines z.port)) c.self.view_is);
    }

pub returns : goal.returns
returns g c =
    let s = c.args.self.now in
    let r = c.settle.new.self in
    let t = c.settle-2.new.self in
    let n = c.expire-overrun.result in
    let overran = c.expire-overrun.ensures.count in
    let is-ready = c.settle.ensures ∙ ap settle c.expire-overrun.ensures.after in
    let place = c.in-Some.place in
    let chosen = c.in-Some.ensures in
    let flawed : c.from.result ≡ one c.write-flawed.result = search rules in
    record {
      answer = written_answer s r t n overran is-ready place chosen c.get-ticket.result.ticket c.from.result (ap (λ x. x.ticket) c.get-ticket.ensures ∙ ap (λ (z : State). (at z.records place).ticket) c.self.view_is) (flawed ∙ ap one c.write-flawed.ensures.ended);
      after = written_after s r t n overran is-ready place chosen c.write-flawed.new.self c.write-flawed.ensures.after c.settle-2.ensures;
    }
