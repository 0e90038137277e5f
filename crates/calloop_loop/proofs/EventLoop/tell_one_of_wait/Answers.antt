use Rattle.std.proofs.Common.{◌≡◌, ◌+◌, [], sym, ap, arith, length, ◌∙◌}
use Rattle.std.proofs.lemmas.Result.{err_from_is_err_and}
use Rattle.calloop_slots.specs.declared.list.Content.TheVariants.{Source}
use Rattle.calloop_slots.specs.Slots.{content_at}
use Rattle.calloop_slots.proofs.Named.{source_is}
use Rattle.calloop_poll.specs.sys.Polls.{poll_view}
use Rattle.calloop_poll.specs.sys.Synthetics.{IsLent}
use Rattle.calloop_loop.specs.Limits.{limit_in}
use Rattle.calloop_loop.specs.Machine.{view_of}
use Rattle.calloop_loop.proofs.Going.{not_slept, slept_well, slept_badly}
use Rattle.calloop_loop.proofs.Limits.{ended_limits}
use Rattle.calloop_loop.proofs.SettledMarks.{ready_less}
use Rattle.calloop_loop.proofs.EventLoop.tell_one_of_wait.Goals as goal

pub returns-in_default-clause-machine : goal.returns-in_default-clause-machine
returns-in_default-clause-machine g c timeout later x =
    rw c.in_default.ensures.list (not_slept g.D.Dispatch.means g.D.Idle.IdleCallback.runs g.P.Poller.outside timeout c.args.token later (view_of c.args.self.now) x c.in_default.ensures.value)

pub returns-in_default-clause-ready : goal.returns-in_default-clause-ready
returns-in_default-clause-ready g c more h =
    ready_less c.args.self.now.poll (limit_in g.D.Dispatch.means (content_at c.args.self.now.sources c.args.token) + more) more (omega arith) h

pub returns-in_default-clause-limits : goal.returns-in_default-clause-limits
returns-in_default-clause-limits g c tokens = rw c.in_default.ensures.list (omega arith)

pub lend-requires : goal.lend-requires
lend-requires g c =
    let M = g.D.Dispatch.means in
    let is : content_at c.args.self.now.sources c.args.token ≡ Source c.in-Some.source = source_is (content_at c.args.self.now.sources c.args.token) c.in-Some.source (sym c.in-Some.ensures.value) in
    omega (arith, c.requires.room, ap (limit_in M) is, c.synthetic_limit.ensures)

pub returns-in_err-store_error-clause-machine : goal.returns-in_err-store_error-clause-machine
returns-in_err-store_error-clause-machine g c timeout later x =
    let M = g.D.Dispatch.means in
    let d = c.in-Some.source in
    let e = c.before_sleep-answer.new.self in
    let given = c.before_sleep-answer.new.out.given in
    let error = c.store_error.new.failure in
    let is : content_at c.args.self.now.sources c.args.token ≡ Source d = source_is (content_at c.args.self.now.sources c.args.token) d (sym c.in-Some.ensures.value) in
    let lent : IsLent (M.limit d) c.lend.new.self = record { limit_is = ap (λ s. s.limit) c.lend.ensures ∙ c.synthetic_limit.ensures; empty = ap (λ s. s.given) c.lend.ensures } in
    let p = err_from_is_err_and c.from_residual.result c.from_residual.ensures.1 in
    rw (p.1, c.end_turn-none.ensures.list, c.in-Some.ensures.list)
    (slept_badly M g.D.Idle.IdleCallback.runs g.P.Poller.outside timeout c.args.token later (view_of c.args.self.now) x d e given error is
    (rw c.in_err-store_error.ensures.answer (c.before_sleep-answer.ensures.slept (poll_view c.args.self.now.poll) lent)))

pub returns-in_err-store_error-clause-ready : goal.returns-in_err-store_error-clause-ready
returns-in_err-store_error-clause-ready g c more h =
    ready_less c.args.self.now.poll (limit_in g.D.Dispatch.means (content_at c.args.self.now.sources c.args.token) + more) more (omega arith) h

pub returns-in_err-store_error-clause-limits : goal.returns-in_err-store_error-clause-limits
returns-in_err-store_error-clause-limits g c tokens =
    let M = g.D.Dispatch.means in
    let d = c.in-Some.source in
    let e = c.before_sleep-answer.new.self in
    let given = c.before_sleep-answer.new.out.given in
    let is : content_at c.args.self.now.sources c.args.token ≡ Source d = source_is (content_at c.args.self.now.sources c.args.token) d (sym c.in-Some.ensures.value) in
    let lent : IsLent (M.limit d) c.lend.new.self = record { limit_is = ap (λ s. s.limit) c.lend.ensures ∙ c.synthetic_limit.ensures; empty = ap (λ s. s.given) c.lend.ensures } in
    let same = g.met.D.Dispatch.keeps.limit.same d e _ _ [] (c.before_sleep-answer.ensures.slept (poll_view c.args.self.now.poll) lent) in
    rw (c.end_turn-none.ensures.list, c.in-Some.ensures.list)
    (ended_limits M c.args.self.now.sources c.args.token d (Source e) is (omega (arith, same)) tokens)

pub join-requires : goal.join-requires
join-requires g c =
    let M = g.D.Dispatch.means in
    let d = c.in-Some.source in
    let is : content_at c.args.self.now.sources c.args.token ≡ Source d = source_is (content_at c.args.self.now.sources c.args.token) d (sym c.in-Some.ensures.value) in
    let lent : IsLent (M.limit d) c.lend.new.self = record { limit_is = ap (λ s. s.limit) c.lend.ensures ∙ c.synthetic_limit.ensures; empty = ap (λ s. s.given) c.lend.ensures } in
    let within = g.met.D.Dispatch.keeps.limit.within d c.before_sleep-answer.new.self _ _ _ [] (c.before_sleep-answer.ensures.slept (poll_view c.args.self.now.poll) lent) in
    ready_less c.args.self.now.poll (limit_in M (content_at c.args.self.now.sources c.args.token)) (length c.events.result.now) (omega (arith, within, ap (λ l. length l) c.events.ensures, ap (limit_in M) is)) c.requires.ready

pub returns-clause-machine : goal.returns-clause-machine
returns-clause-machine g c timeout later x =
    let M = g.D.Dispatch.means in
    let d = c.in-Some.source in
    let e = c.before_sleep-answer.new.self in
    let given = c.before_sleep-answer.new.out.given in
    let is : content_at c.args.self.now.sources c.args.token ≡ Source d = source_is (content_at c.args.self.now.sources c.args.token) d (sym c.in-Some.ensures.value) in
    let lent : IsLent (M.limit d) c.lend.new.self = record { limit_is = ap (λ s. s.limit) c.lend.ensures ∙ c.synthetic_limit.ensures; empty = ap (λ s. s.given) c.lend.ensures } in
    rw (c.join.ensures.view, c.events.ensures, c.end_turn-none.ensures.list, c.in-Some.ensures.list)
    (slept_well M g.D.Idle.IdleCallback.runs g.P.Poller.outside timeout c.args.token later (view_of c.args.self.now) x d e given is
    (rw c.in_ok-store_error.ensures.answer (c.before_sleep-answer.ensures.slept (poll_view c.args.self.now.poll) lent)))

pub returns-clause-ready : goal.returns-clause-ready
returns-clause-ready g c more h =
    let M = g.D.Dispatch.means in
    let d = c.in-Some.source in
    let is : content_at c.args.self.now.sources c.args.token ≡ Source d = source_is (content_at c.args.self.now.sources c.args.token) d (sym c.in-Some.ensures.value) in
    let lent : IsLent (M.limit d) c.lend.new.self = record { limit_is = ap (λ s. s.limit) c.lend.ensures ∙ c.synthetic_limit.ensures; empty = ap (λ s. s.given) c.lend.ensures } in
    let within = g.met.D.Dispatch.keeps.limit.within d c.before_sleep-answer.new.self _ _ _ [] (c.before_sleep-answer.ensures.slept (poll_view c.args.self.now.poll) lent) in
    c.join.ensures.ready more (ready_less c.args.self.now.poll (limit_in M (content_at c.args.self.now.sources c.args.token) + more) (length c.events.result.now + more) (omega (arith, within, ap (λ l. length l) c.events.ensures, ap (limit_in M) is)) h)

pub returns-clause-limits : goal.returns-clause-limits
returns-clause-limits g c tokens =
    let M = g.D.Dispatch.means in
    let d = c.in-Some.source in
    let e = c.before_sleep-answer.new.self in
    let is : content_at c.args.self.now.sources c.args.token ≡ Source d = source_is (content_at c.args.self.now.sources c.args.token) d (sym c.in-Some.ensures.value) in
    let lent : IsLent (M.limit d) c.lend.new.self = record { limit_is = ap (λ s. s.limit) c.lend.ensures ∙ c.synthetic_limit.ensures; empty = ap (λ s. s.given) c.lend.ensures } in
    let same = g.met.D.Dispatch.keeps.limit.same d e _ _ [] (c.before_sleep-answer.ensures.slept (poll_view c.args.self.now.poll) lent) in
    rw (c.end_turn-none.ensures.list, c.in-Some.ensures.list)
    (ended_limits M c.args.self.now.sources c.args.token d (Source e) is (omega (arith, same)) tokens)
