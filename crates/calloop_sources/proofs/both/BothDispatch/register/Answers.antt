use Rattle.std.proofs.Common.{◌≡◌, rules, refl, inr, Some}
use Rattle.calloop_slots.specs.Failures.{with_error}
use Rattle.calloop_poll.specs.sys.Polls.{poll_view}
use Rattle.calloop_sources.specs.sources.Deeds.{Registered}
use Rattle.calloop_sources.proofs.Asked.{both_asked}
use Rattle.calloop_sources.proofs.both.BothDispatch.register.Goals as goal

pub returns-else-ne : goal.returns-else-ne
returns-else-ne g c =
    let one = c.register in
    let other = c.register-in-Ok in
    let same : one.new.factory.registration ≡ c.args.factory.now.registration = search rules in
    let x = both_asked g.P.Poller.outside g.A.Dispatch.means g.B.Dispatch.means
    (Registered c.args.factory.now (with_error one.result one.new.failure) one.new.factory) (Registered one.new.factory (with_error other.result other.new.failure) other.new.factory)
    c.args.self.now (record { first = one.new.self; second = other.new.self }) (poll_view c.args.poll.now)
    (poll_view one.new.poll) (poll_view other.new.poll) one.ensures other.ensures in (
      x.0,
      (
        with_error one.result one.new.failure,
        one.new.factory,
        Some (Registered one.new.factory (with_error other.result other.new.failure) other.new.factory),
        rw c.in-Ok.is (inr (same, c.count_fits.ensures, refl)),
        x.1,
      ),
      x.2,
    )
