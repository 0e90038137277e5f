use Rattle.std.proofs.Common.{length, subst, ap, arith, Ok, Err}
use Rattle.std.proofs.lemmas.Result.{err_from_is_err_and}
use Rattle.calloop_slots.specs.declared.error.Error.TheVariants.{IoError}
use Rattle.calloop_poll.specs.sys.Pollers.{nanos_of}
use Rattle.calloop_poll.specs.sys.Polls.{poll_view}
use Rattle.calloop_loop.specs.Limits.{all_limits}
use Rattle.calloop_loop.specs.Machine.{View, view_of, with_marks_taken}
use Rattle.calloop_loop.specs.Rules.{Goes, Settling, Sleeping, Waiting, Noticing, Cutting, Idling, Leaving}
use Rattle.calloop_loop.proofs.Going.{dispatched, begun_then, polled, not_polled, goes_on}
use Rattle.calloop_loop.proofs.SettledMarks.{ready_less}
use Rattle.calloop_loop.proofs.EventLoop.dispatch_with.Goals as goal

pub returns-in_err-tell_of_wait : goal.returns-in_err-tell_of_wait
returns-in_err-tell_of_wait g c =
    let M = g.D.Dispatch.means in
    let O = g.P.Poller.outside in
    let R = g.D.Idle.IdleCallback.runs in
    let v : View g.row.D.Denot g.row.D-Idle.Denot g.row.P.Denot = view_of c.args.self.now in
    let p = err_from_is_err_and c.from_residual-in_err-tell_of_wait.result c.from_residual-in_err-tell_of_wait.ensures.1 in
    let e = c.tell_of_wait.new.failure in
    let room = c.in_ok-reserve-2.ensures.ok in
    let x = c.args.«data».now in
    let t = nanos_of c.args.timeout in
    let marked = c.settle_marked.ensures.machine in
    let ready : View g.row.D.Denot g.row.D-Idle.Denot g.row.P.Denot = record v { poll = poll_view c.reserve-2.new.self; held = record v.held { asks = c.clear_answers.new.self; warnings = c.clear.new.self.errors.items } } in
    let s = view_of c.settle_marked.new.self in
    let u = view_of c.tell_of_wait.new.self in
    rw p.1
    (dispatched M R O v u t x x (Err e)
    (begun_then M R O v u room.0 (poll_view c.reserve-2.new.self) c.clear_answers.new.self c.clear.new.self.errors.items marked.0 marked.1 marked.2 t x (Leaving (Err e) x) room.1 c.clear_answers.ensures c.clear.ensures
    (goes_on M R O (Settling t marked.0 x) (Sleeping t c.settle_marked.new.self.lifecycle.tokens.items x) (Leaving (Err e) x) (with_marks_taken marked.1 ready) s u (marked.3 t x) (c.in_err-tell_of_wait.ensures.machine t x))))

pub returns-in-Err : goal.returns-in-Err
returns-in-Err g c =
    let M = g.D.Dispatch.means in
    let O = g.P.Poller.outside in
    let R = g.D.Idle.IdleCallback.runs in
    let v : View g.row.D.Denot g.row.D-Idle.Denot g.row.P.Denot = view_of c.args.self.now in
    let cause = c.in-Err.cause in
    let e = IoError cause in
    let room = c.in_ok-reserve-2.ensures.ok in
    let x = c.args.«data».now in
    let t = nanos_of c.args.timeout in
    let marked = c.settle_marked.ensures.machine in
    let ready : View g.row.D.Denot g.row.D-Idle.Denot g.row.P.Denot = record v { poll = poll_view c.reserve-2.new.self; held = record v.held { asks = c.clear_answers.new.self; warnings = c.clear.new.self.errors.items } } in
    let u = view_of c.tell_of_wait.new.self in
    let w : View g.row.D.Denot g.row.D-Idle.Denot g.row.P.Denot = record u { poll = poll_view c.poll.new.self } in
    (dispatched M R O v w t x x (Err e)
    (begun_then M R O v w room.0 (poll_view c.reserve-2.new.self) c.clear_answers.new.self c.clear.new.self.errors.items marked.0 marked.1 marked.2 t x (Leaving (Err e) x) room.1 c.clear_answers.ensures c.clear.ensures
    (goes_on M R O (Settling t marked.0 x) (Sleeping t c.settle_marked.new.self.lifecycle.tokens.items x) (Leaving (Err e) x) (with_marks_taken marked.1 ready) (view_of c.settle_marked.new.self) w (marked.3 t x)
    (goes_on M R O (Sleeping t c.settle_marked.new.self.lifecycle.tokens.items x) (Waiting t x) (Leaving (Err e) x) (view_of c.settle_marked.new.self) u w (c.in_ok-tell_of_wait.ensures.machine t x)
    (not_polled M R O u (poll_view c.poll.new.self) t x cause c.in-Err.ensures)))))

pub returns-in_err-hand_out_all : goal.returns-in_err-hand_out_all
returns-in_err-hand_out_all g c =
    let M = g.D.Dispatch.means in
    let O = g.P.Poller.outside in
    let R = g.D.Idle.IdleCallback.runs in
    let v : View g.row.D.Denot g.row.D-Idle.Denot g.row.P.Denot = view_of c.args.self.now in
    let p = err_from_is_err_and c.from_residual-in_err-hand_out_all.result c.from_residual-in_err-hand_out_all.ensures.1 in
    let e = c.hand_out_all.new.failure in
    let room = c.in_ok-reserve-2.ensures.ok in
    let x = c.args.«data».now in
    let y = c.hand_out_all.new.«data» in
    let t = nanos_of c.args.timeout in
    let marked = c.settle_marked.ensures.machine in
    let ready : View g.row.D.Denot g.row.D-Idle.Denot g.row.P.Denot = record v { poll = poll_view c.reserve-2.new.self; held = record v.held { asks = c.clear_answers.new.self; warnings = c.clear.new.self.errors.items } } in
    let u = view_of c.tell_of_wait.new.self in
    let w : View g.row.D.Denot g.row.D-Idle.Denot g.row.P.Denot = record u { poll = poll_view c.poll.new.self } in
    let told = view_of c.tell_of_events.new.self in
    let all = view_of c.hand_out_all.new.self in
    rw p.1
    (dispatched M R O v all t x y (Err e)
    (begun_then M R O v all room.0 (poll_view c.reserve-2.new.self) c.clear_answers.new.self c.clear.new.self.errors.items marked.0 marked.1 marked.2 t x (Leaving (Err e) y) room.1 c.clear_answers.ensures c.clear.ensures
    (goes_on M R O (Settling t marked.0 x) (Sleeping t c.settle_marked.new.self.lifecycle.tokens.items x) (Leaving (Err e) y) (with_marks_taken marked.1 ready) (view_of c.settle_marked.new.self) all (marked.3 t x)
    (goes_on M R O (Sleeping t c.settle_marked.new.self.lifecycle.tokens.items x) (Waiting t x) (Leaving (Err e) y) (view_of c.settle_marked.new.self) u all (c.in_ok-tell_of_wait.ensures.machine t x)
    (goes_on M R O (Waiting t x) (Noticing (length u.poll.batch) u.held.lifecycle x) (Leaving (Err e) y) u w all (polled M R O u (poll_view c.poll.new.self) t x c.in_default-poll.ensures)
    (goes_on M R O (Noticing (length u.poll.batch) u.held.lifecycle x) (Cutting x) (Leaving (Err e) y) w told all
    (subst (λ n. Goes M R O (Noticing n u.held.lifecycle x) (Cutting x) w told) c.events_waiting-from.ensures (c.tell_of_events.ensures.machine x)) c.in_err-hand_out_all.ensures))))))

pub returns : goal.returns
returns g c =
    let M = g.D.Dispatch.means in
    let O = g.P.Poller.outside in
    let R = g.D.Idle.IdleCallback.runs in
    let v : View g.row.D.Denot g.row.D-Idle.Denot g.row.P.Denot = view_of c.args.self.now in
    let x = c.args.«data».now in
    let y = c.hand_out_all.new.«data» in
    let z = c.run_idles.new.«data» in
    let t = nanos_of c.args.timeout in
    let marked = c.settle_marked.ensures.machine in
    let room = c.in_ok-reserve-2.ensures.ok in
    let ready : View g.row.D.Denot g.row.D-Idle.Denot g.row.P.Denot = record v { poll = poll_view c.reserve-2.new.self; held = record v.held { asks = c.clear_answers.new.self; warnings = c.clear.new.self.errors.items } } in
    let u = view_of c.tell_of_wait.new.self in
    let w : View g.row.D.Denot g.row.D-Idle.Denot g.row.P.Denot = record u { poll = poll_view c.poll.new.self } in
    let told = view_of c.tell_of_events.new.self in
    let all = view_of c.hand_out_all.new.self in
    let ran = view_of c.run_idles.new.self in
    dispatched M R O v ran t x z (Ok tt)
    (begun_then M R O v ran room.0 (poll_view c.reserve-2.new.self) c.clear_answers.new.self c.clear.new.self.errors.items marked.0 marked.1 marked.2 t x (Leaving (Ok tt) z) room.1 c.clear_answers.ensures c.clear.ensures
    (goes_on M R O (Settling t marked.0 x) (Sleeping t c.settle_marked.new.self.lifecycle.tokens.items x) (Leaving (Ok tt) z) (with_marks_taken marked.1 ready) (view_of c.settle_marked.new.self) ran (marked.3 t x)
    (goes_on M R O (Sleeping t c.settle_marked.new.self.lifecycle.tokens.items x) (Waiting t x) (Leaving (Ok tt) z) (view_of c.settle_marked.new.self) u ran (c.in_ok-tell_of_wait.ensures.machine t x)
    (goes_on M R O (Waiting t x) (Noticing (length u.poll.batch) u.held.lifecycle x) (Leaving (Ok tt) z) u w ran (polled M R O u (poll_view c.poll.new.self) t x c.in_default-poll.ensures)
    (goes_on M R O (Noticing (length u.poll.batch) u.held.lifecycle x) (Cutting x) (Leaving (Ok tt) z) w told ran
    (subst (λ n. Goes M R O (Noticing n u.held.lifecycle x) (Cutting x) w told) c.events_waiting-from.ensures (c.tell_of_events.ensures.machine x))
    (goes_on M R O (Cutting x) (Idling y) (Leaving (Ok tt) z) told all ran c.in_ok-hand_out_all.ensures c.run_idles.ensures))))))

pub tell_of_wait-requires-clause-ready : goal.tell_of_wait-requires-clause-ready
tell_of_wait-requires-clause-ready g c =
    let M = g.D.Dispatch.means in
    let sum = all_limits M c.args.self.now.sources c.args.self.now.lifecycle.tokens.items in
    let after = c.settle_marked.new.self in
    ready_less after.poll sum (all_limits M after.sources after.lifecycle.tokens.items) c.settle_marked.ensures.limits
    (c.settle_marked.ensures.ready sum (rw c.in-Some.ensures.sum at c.in_ok-reserve-2.ensures.ready))

pub tell_of_wait-requires-clause-room : goal.tell_of_wait-requires-clause-room
tell_of_wait-requires-clause-room g c =
    omega (arith, c.settle_marked.ensures.limits, ap (λ s. s.room) c.settle_marked.ensures.room, c.in_ok-reserve.ensures.ok, c.in-Some.ensures.sum)
