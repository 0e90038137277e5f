use Rattle.std.proofs.Common.{refl, ◌∙◌}
use Rattle.calloop_poll.specs.sys.Polls.{poll_view}
use Rattle.calloop_sources.specs.sources.Deeds.{Reregistered}
use Rattle.calloop_sources.specs.Timers.{timer_meaning}
use Rattle.calloop_ends.specs.ping.Pings.{ping_meaning}
use Rattle.calloop_test_sources.proofs.Parts.{reached, unreached, asked, bell_passes_anew, timer_passes_anew}
use Rattle.calloop_test_sources.proofs.trio.TrioEventSource.reregister.Goals as goal

pub returns-in_err-reregister : goal.returns-in_err-reregister
returns-in_err-reregister g c =
    let O = g.P.Poller.outside in
    asked O _ _ _ (poll_view c.args.poll.now) (poll_view c.reregister.new.poll) (poll_view c.reregister.new.poll) (poll_view c.reregister.new.poll)
    (reached O _ ping_meaning _ _ _ _ (Reregistered c.args.factory.now c.reregister.result c.reregister.new.factory) ((refl, c.count_fits.ensures)) c.reregister.ensures)
    (unreached O _ timer_meaning _ _ tt)
    (unreached O _ timer_meaning _ _ tt)

pub returns-in_err-reregister-2 : goal.returns-in_err-reregister-2
returns-in_err-reregister-2 g c =
    let O = g.P.Poller.outside in
    let first = bell_passes_anew c.args.self.now.bell c.reregister.new.self (poll_view c.args.poll.now) c.args.factory.now c.reregister.new.factory c.reregister.result c.reregister.ensures.0 c.reregister.ensures.1 in
    asked O _ _ _ (poll_view c.args.poll.now) (poll_view c.reregister.new.poll) (poll_view c.reregister-2.new.poll) (poll_view c.reregister-2.new.poll)
    (reached O _ ping_meaning _ _ _ _ (Reregistered c.args.factory.now c.reregister.result c.reregister.new.factory) ((refl, c.count_fits.ensures)) c.reregister.ensures)
    (reached O _ timer_meaning _ _ _ _ (Reregistered c.reregister.new.factory c.reregister-2.result c.reregister-2.new.factory) ((first, c.count_fits-2.ensures)) c.reregister-2.ensures)
    (unreached O _ timer_meaning _ _ tt)

pub returns : goal.returns
returns g c =
    let O = g.P.Poller.outside in
    let first = bell_passes_anew c.args.self.now.bell c.reregister.new.self (poll_view c.args.poll.now) c.args.factory.now c.reregister.new.factory c.reregister.result c.reregister.ensures.0 c.reregister.ensures.1 in
    let second = timer_passes_anew c.args.self.now.first c.reregister-2.new.self (poll_view c.reregister.new.poll) c.reregister.new.factory c.reregister-2.new.factory c.reregister-2.result c.reregister-2.ensures.0 c.reregister-2.ensures.1 ∙ first in
    asked O _ _ _ (poll_view c.args.poll.now) (poll_view c.reregister.new.poll) (poll_view c.reregister-2.new.poll) (poll_view c.reregister-3.new.poll)
    (reached O _ ping_meaning _ _ _ _ (Reregistered c.args.factory.now c.reregister.result c.reregister.new.factory) ((refl, c.count_fits.ensures)) c.reregister.ensures)
    (reached O _ timer_meaning _ _ _ _ (Reregistered c.reregister.new.factory c.reregister-2.result c.reregister-2.new.factory) ((first, c.count_fits-2.ensures)) c.reregister-2.ensures)
    (reached O _ timer_meaning _ _ _ _ (Reregistered c.reregister-2.new.factory c.reregister-3.result c.reregister-3.new.factory) ((second, c.count_fits-3.ensures)) c.reregister-3.ensures)
