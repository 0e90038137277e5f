use Rattle.std.proofs.Common.{refl, ◌∷◌, [], sym, ◌∙◌, subst, Option, Some, None, Ok, ◌≡◌}
use Rattle.calloop_slots.specs.declared.wheel.Instant.{Instant}
use Rattle.calloop_slots.specs.Deadlines.{moment_after}
use Rattle.calloop_sources.specs.declared.sources.source.PostAction.TheVariants.{Remove}
use Rattle.calloop_poll.specs.sys.Polls.{ReadClock, poll_view}
use Rattle.calloop_sources.specs.Timers.{ArmedFor, registered_as, with_call}
use Rattle.calloop_poll.proofs.Stepping.{stepped_first}
use Rattle.calloop_sources.proofs.timer.Timer.call.Goals as goal

pub returns-in-Some : goal.returns-in-Some
returns-in-Some g c =
    let more = c.arm_again-in-Some.ensures.0 in
    let moment : Some c.in-Some.deadline ≡ moment_after c.now.result c.in-ToDuration.duration = sym c.in-Some.is ∙ c.checked_add.ensures in (
      c.call.result,
      ReadClock c.now.result.nanos c.now.ensures.0 ∷ more,
      rw c.in-ToDuration.is (
        c.now.result,
        c.now.ensures.0,
        more,
        refl,
        subst (λ (m : Option Instant). ArmedFor c.args.registration m c.arm_again-in-Some.result more c.arm_again-in-Some.new.self) moment c.arm_again-in-Some.ensures.1,
      ),
      stepped_first g.P.Poller.outside (poll_view c.args.poll.now) (poll_view c.now.new.self) (poll_view c.arm_again-in-Some.new.poll) (ReadClock c.now.result.nanos c.now.ensures.0) more c.now.ensures.1 c.now.ensures.2 c.arm_again-in-Some.ensures.2,
      (c.call.new.self, c.call.new.«data», c.call.new.requests, c.call.ensures.may, c.call.ensures.asks, (refl, refl, refl)),
    )

pub returns-in-None : goal.returns-in-None
returns-in-None g c =
    let moment : None ≡ moment_after c.now.result c.in-ToDuration.duration = sym c.in-None.is ∙ c.checked_add.ensures in (
      c.call.result,
      ReadClock c.now.result.nanos c.now.ensures.0 ∷ [],
      rw c.in-ToDuration.is (
        c.now.result,
        c.now.ensures.0,
        [],
        refl,
        subst (λ (m : Option Instant). ArmedFor {P = g.row.P.Denot} c.args.registration m (Ok Remove) [] (registered_as (with_call c.args.registration) None)) moment (refl, refl, refl),
      ),
      ((c.now.ensures.1, tt), c.now.ensures.2),
      (c.call.new.self, c.call.new.«data», c.call.new.requests, c.call.ensures.may, c.call.ensures.asks, (refl, refl, refl)),
    )
