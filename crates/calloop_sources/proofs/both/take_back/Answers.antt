use Rattle.std.proofs.Common.{refl, Some, None}
use Rattle.calloop_slots.specs.Failures.{with_error}
use Rattle.calloop_poll.specs.sys.Polls.{poll_view}
use Rattle.calloop_sources.specs.sources.Deeds.{Unregistered}
use Rattle.calloop_sources.proofs.Asked.{both_asked, first_asked}
use Rattle.calloop_sources.proofs.both.take_back.Goals as goal

pub returns-in-Ok : goal.returns-in-Ok
returns-in-Ok g c =
    let one = c.unregister in
    let other = c.unregister-in-Ok in
    let x = both_asked g.P.Poller.outside g.A.Dispatch.means g.B.Dispatch.means
    (Unregistered (with_error one.result one.new.failure)) (Unregistered (with_error other.result other.new.failure))
    c.args.both.now (record { first = one.new.self; second = other.new.self }) (poll_view c.args.poll.now)
    (poll_view one.new.poll) (poll_view other.new.poll) one.ensures other.ensures in (
      x.0,
      (
        with_error one.result one.new.failure,
        Some (Unregistered (with_error other.result other.new.failure)),
        rw c.in-Ok.is refl,
        x.1,
      ),
      x.2,
    )

pub returns-in-Err : goal.returns-in-Err
returns-in-Err g c =
    let one = c.unregister in
    let x = first_asked g.P.Poller.outside g.A.Dispatch.means g.B.Dispatch.means
    (Unregistered (with_error one.result one.new.failure)) c.args.both.now
    (record { first = one.new.self; second = c.args.both.now.second }) (poll_view c.args.poll.now)
    (poll_view one.new.poll) refl one.ensures in
    (x.0, (with_error one.result one.new.failure, None, rw c.in-Err.is (refl, refl), x.1), x.2)
