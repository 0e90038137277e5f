use Rattle.std.proofs.Common.{refl, ap, Some, None, Ok}
use Rattle.calloop_slots.specs.Failures.{with_error}
use Rattle.calloop_poll.specs.sys.Polls.{poll_view}
use Rattle.calloop_sources.specs.sources.Deeds.{Turned, lend}
use Rattle.calloop_sources.proofs.Asked.{both_asked, first_asked}
use Rattle.calloop_sources.proofs.both.BothDispatch.process_events.Goals as goal

pub returns-in-Ok-process_events : goal.returns-in-Ok-process_events
returns-in-Ok-process_events g c =
    let one = c.process_events in
    let other = c.process_events-in-Ok in
    let first = lend c.args.«data».now c.args.requests.now (with_error one.result one.new.failure) one.new.«data» one.new.requests in
    let second = lend one.new.«data» one.new.requests (with_error other.result other.new.failure) other.new.«data» other.new.requests in
    let x = both_asked g.P.Poller.outside g.A.Dispatch.means g.B.Dispatch.means
    (Turned c.args.readiness c.args.token first) (Turned c.args.readiness c.args.token second) c.args.self.now
    (record { first = one.new.self; second = other.new.self }) (poll_view c.args.poll.now) (poll_view one.new.poll)
    (poll_view other.new.poll) one.ensures other.ensures in (
      x.0,
      (
        first,
        Some (Turned c.args.readiness c.args.token second),
        rw c.in-Ok.is (with_error other.result other.new.failure, refl, rw c.in-Ok-process_events.is (ap (λ z. Ok z) c.bitor.ensures), refl, refl),
        x.1,
      ),
      x.2,
    )

pub returns-in-Err-process_events : goal.returns-in-Err-process_events
returns-in-Err-process_events g c =
    let one = c.process_events in
    let other = c.process_events-in-Ok in
    let first = lend c.args.«data».now c.args.requests.now (with_error one.result one.new.failure) one.new.«data» one.new.requests in
    let second = lend one.new.«data» one.new.requests (with_error other.result other.new.failure) other.new.«data» other.new.requests in
    let x = both_asked g.P.Poller.outside g.A.Dispatch.means g.B.Dispatch.means
    (Turned c.args.readiness c.args.token first) (Turned c.args.readiness c.args.token second) c.args.self.now
    (record { first = one.new.self; second = other.new.self }) (poll_view c.args.poll.now) (poll_view one.new.poll)
    (poll_view other.new.poll) one.ensures other.ensures in (
      x.0,
      (
        first,
        Some (Turned c.args.readiness c.args.token second),
        rw c.in-Ok.is (with_error other.result other.new.failure, refl, rw c.in-Err-process_events.is refl, refl, refl),
        x.1,
      ),
      x.2,
    )

pub returns-in-Err : goal.returns-in-Err
returns-in-Err g c =
    let one = c.process_events in
    let first = lend c.args.«data».now c.args.requests.now (with_error one.result one.new.failure) one.new.«data» one.new.requests in
    let x = first_asked g.P.Poller.outside g.A.Dispatch.means g.B.Dispatch.means
    (Turned c.args.readiness c.args.token first) c.args.self.now
    (record { first = one.new.self; second = c.args.self.now.second }) (poll_view c.args.poll.now)
    (poll_view one.new.poll) refl one.ensures in
    (x.0, (first, None, rw c.in-Err.is (refl, refl), x.1), x.2)
