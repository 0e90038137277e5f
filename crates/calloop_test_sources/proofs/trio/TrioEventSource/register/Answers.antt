use Rattle.std.proofs.Common.{refl, ◌∙◌}
use Rattle.calloop_poll.specs.sys.Polls.{poll_view}
use Rattle.calloop_sources.specs.sources.Deeds.{Registered}
use Rattle.calloop_sources.specs.Timers.{timer_meaning}
use Rattle.calloop_ends.specs.ping.Pings.{ping_meaning}
use Rattle.calloop_test_sources.proofs.Parts.{reached, unreached, asked, bell_passes, timer_passes, stops, not_done}
use Rattle.calloop_test_sources.proofs.trio.TrioEventSource.register.Goals as goal

pub returns-in_err-register : goal.returns-in_err-register
returns-in_err-register g c =
    let O = g.P.Poller.outside in
    let failed = c.from_residual.ensures.0 in
    asked O _ _ _ (poll_view c.args.poll.now) (poll_view c.register.new.poll) (poll_view c.register.new.poll) (poll_view c.register.new.poll)
    (reached O _ ping_meaning _ _ _ _ (Registered c.args.factory.now c.register.result c.register.new.factory) (((refl, c.count_fits.ensures), not_done c.from_residual.result c.register.result failed)) c.register.ensures)
    (unreached O _ timer_meaning _ _ (stops c.args.factory.now c.register.new.factory c.from_residual.result failed))
    (unreached O _ timer_meaning _ _ (stops c.args.factory.now c.register.new.factory c.from_residual.result failed))

pub returns-in_err-register-2 : goal.returns-in_err-register-2
returns-in_err-register-2 g c =
    let O = g.P.Poller.outside in
    let failed = c.from_residual-in_err-register-2.ensures.0 in
    let first = bell_passes c.args.self.now.bell c.register.new.self (poll_view c.args.poll.now) c.args.factory.now c.register.new.factory c.register.result c.register.ensures.0 c.register.ensures.1 in
    asked O _ _ _ (poll_view c.args.poll.now) (poll_view c.register.new.poll) (poll_view c.register-2.new.poll) (poll_view c.register-2.new.poll)
    (reached O _ ping_meaning _ _ _ _ (Registered c.args.factory.now c.register.result c.register.new.factory) (((refl, c.count_fits.ensures), not_done c.from_residual-in_err-register-2.result c.register.result failed)) c.register.ensures)
    (reached O _ timer_meaning _ _ _ _ (Registered c.register.new.factory c.register-2.result c.register-2.new.factory) (((first, c.count_fits-2.ensures), not_done c.from_residual-in_err-register-2.result c.register-2.result failed)) c.register-2.ensures)
    (unreached O _ timer_meaning _ _ (stops c.args.factory.now c.register-2.new.factory c.from_residual-in_err-register-2.result failed))

pub returns : goal.returns
returns g c =
    let O = g.P.Poller.outside in
    let first = bell_passes c.args.self.now.bell c.register.new.self (poll_view c.args.poll.now) c.args.factory.now c.register.new.factory c.register.result c.register.ensures.0 c.register.ensures.1 in
    let second = timer_passes c.args.self.now.first c.register-2.new.self (poll_view c.register.new.poll) c.register.new.factory c.register-2.new.factory c.register-2.result c.register-2.ensures.0 c.register-2.ensures.1 ∙ first in
    asked O _ _ _ (poll_view c.args.poll.now) (poll_view c.register.new.poll) (poll_view c.register-2.new.poll) (poll_view c.register-3.new.poll)
    (reached O _ ping_meaning _ _ _ _ (Registered c.args.factory.now c.register.result c.register.new.factory) (((refl, c.count_fits.ensures), λ _. c.in_ok-register.was)) c.register.ensures)
    (reached O _ timer_meaning _ _ _ _ (Registered c.register.new.factory c.register-2.result c.register-2.new.factory) (((first, c.count_fits-2.ensures), λ _. c.in_ok-register-2.was)) c.register-2.ensures)
    (reached O _ timer_meaning _ _ _ _ (Registered c.register-2.new.factory c.register-3.result c.register-3.new.factory) (((second, c.count_fits-3.ensures), λ e. e)) c.register-3.ensures)
