use Rattle.calloop_poll.specs.sys.Polls.{poll_view}
use Rattle.calloop_sources.specs.sources.Deeds.{Unregistered}
use Rattle.calloop_sources.specs.Timers.{timer_meaning}
use Rattle.calloop_ends.specs.ping.Pings.{ping_meaning}
use Rattle.calloop_test_sources.proofs.Parts.{reached, unreached, asked}
use Rattle.calloop_test_sources.proofs.trio.TrioEventSource.unregister.Goals as goal

pub returns-in_err-unregister : goal.returns-in_err-unregister
returns-in_err-unregister g c =
    let O = g.P.Poller.outside in
    asked O _ _ _ (poll_view c.args.poll.now) (poll_view c.unregister.new.poll) (poll_view c.unregister.new.poll) (poll_view c.unregister.new.poll)
    (reached O _ ping_meaning _ _ _ _
    (Unregistered c.unregister.result) tt c.unregister.ensures)
    (unreached O _ timer_meaning _ _ tt)
    (unreached O _ timer_meaning _ _ tt)

pub returns : goal.returns
returns g c =
    let O = g.P.Poller.outside in
    asked O _ _ _ (poll_view c.args.poll.now) (poll_view c.unregister.new.poll) (poll_view c.unregister-2.new.poll) (poll_view c.unregister-3.new.poll)
    (reached O _ ping_meaning _ _ _ _
    (Unregistered c.unregister.result) tt c.unregister.ensures)
    (reached O _ timer_meaning _ _ _ _
    (Unregistered c.unregister-2.result) tt c.unregister-2.ensures)
    (reached O _ timer_meaning _ _ _ _
    (Unregistered c.unregister-3.result) tt c.unregister-3.ensures)
