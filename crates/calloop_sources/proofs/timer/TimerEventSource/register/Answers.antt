use Rattle.std.proofs.Common.{refl, ap, ◌++◌}
use Rattle.calloop_sources.specs.declared.timer.Timer.{Timer}
use Rattle.calloop_poll.specs.sys.Polls.{poll_view}
use Rattle.calloop_sources.specs.Timers.{releases}
use Rattle.calloop_poll.proofs.Stepping.{stepped-append}
use Rattle.calloop_sources.proofs.timer.TimerEventSource.register.Goals as goal

pub returns : goal.returns
returns g c = (
  releases c.args.self.now.registration ++ c.arm.ensures.0,
  (c.arm.ensures.0, refl, rw (ap (λ (t : Timer). t.deadline) c.release.ensures.timer, c.release.ensures.next) at c.arm.ensures.1),
  stepped-append g.P.Poller.outside (poll_view c.args.poll.now) (poll_view c.release.new.poll) (poll_view c.arm.new.poll) (releases c.args.self.now.registration) c.arm.ensures.0 c.release.ensures.steps c.arm.ensures.2,
)
