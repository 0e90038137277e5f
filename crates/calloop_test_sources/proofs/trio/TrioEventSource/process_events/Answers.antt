use Rattle.std.proofs.Common.{◌≡◌, ◌∙◌, ap, refl, [], None}
use Rattle.calloop_poll.specs.sys.Polls.{poll_view}
use Rattle.calloop_sources.specs.sources.Deeds.{Turned, new_heard}
use Rattle.calloop_sources.specs.Timers.{timer_meaning}
use Rattle.calloop_ends.specs.ping.Pings.{ping_meaning}
use Rattle.calloop_test_sources.specs.Trios.{calls_of, part_heard, after_calls}
use Rattle.calloop_test_sources.proofs.Parts.{reached, unreached, failed, served, noted}
use Rattle.calloop_test_sources.proofs.trio.TrioEventSource.process_events.Goals as goal

pub returns-then-is_err-2 : goal.returns-then-is_err-2
returns-then-is_err-2 g c =
    let O = g.P.Poller.outside in (
      [],
      failed O _ _ _ _ _ (poll_view c.args.poll.now) (poll_view c.process_events-rang.new.poll)
          (poll_view c.process_events-came.new.poll) (poll_view c.process_events-came.new.poll)
          (reached O _ ping_meaning _ _ _ _
          (Turned c.args.readiness c.args.token (new_heard c.process_events-rang.ensures.0 c.process_events-rang.result)) (refl, refl)
          c.process_events-rang.ensures.1)
          (reached O _ timer_meaning _ _ _ _
          (Turned c.args.readiness c.args.token (new_heard c.process_events-came.ensures.0 c.process_events-came.result)) (refl, refl)
          c.process_events-came.ensures.1)
          (unreached O _ timer_meaning _ _ tt),
      (refl, refl, refl),
    )

pub returns-then-is_err-3 : goal.returns-then-is_err-3
returns-then-is_err-3 g c =
    let O = g.P.Poller.outside in (
      [],
      failed O _ _ _ _ _ (poll_view c.args.poll.now) (poll_view c.process_events-rang.new.poll)
          (poll_view c.process_events-came.new.poll) (poll_view c.process_events-came-2.new.poll)
          (reached O _ ping_meaning _ _ _ _
          (Turned c.args.readiness c.args.token (new_heard c.process_events-rang.ensures.0 c.process_events-rang.result)) (refl, refl)
          c.process_events-rang.ensures.1)
          (reached O _ timer_meaning _ _ _ _
          (Turned c.args.readiness c.args.token (new_heard c.process_events-came.ensures.0 c.process_events-came.result)) (refl, refl)
          c.process_events-came.ensures.1)
          (reached O _ timer_meaning _ _ _ _
          (Turned c.args.readiness c.args.token (new_heard c.process_events-came-2.ensures.0 c.process_events-came-2.result)) (refl, refl)
          c.process_events-came-2.ensures.1),
      (refl, refl, refl),
    )

pub returns : goal.returns
returns g c =
    let O = g.P.Poller.outside in
    let rang = c.process_events-rang in
    let came = c.process_events-came in
    let came_too = c.process_events-came-2 in
    let bell = noted (λ n. n.event) _ _ rang.new.callback _ _ _ _ rang.ensures.0 rang.ensures.2 in
    let first = noted (λ n. n.event) _ _ came.new.callback _ _ _ _ came.ensures.0 came.ensures.2 in
    let second = noted (λ n. n.event) _ _ came_too.new.callback _ _ _ _ came_too.ensures.0 came_too.ensures.2 in
    let is : c.part_of.result ≡ part_heard (after_calls None rang.ensures.0) (after_calls None came.ensures.0) (after_calls None came_too.ensures.0) =
    c.part_of.ensures
    ∙ ap (λ o. part_heard o came.new.callback.event came_too.new.callback.event) bell
    ∙ ap (λ o. part_heard (after_calls None rang.ensures.0) o came_too.new.callback.event) first
    ∙ ap (λ o. part_heard (after_calls None rang.ensures.0) (after_calls None came.ensures.0) o) second in (
      calls_of c.part_of.result,
      served O _ _ (new_heard rang.ensures.0 rang.result) (new_heard came.ensures.0 came.result)
          (new_heard came_too.ensures.0 came_too.result) _ _ (poll_view c.args.poll.now) (poll_view rang.new.poll)
          (poll_view came.new.poll) (poll_view came_too.new.poll) c.part_of.result rang.ensures.1 came.ensures.1
          came_too.ensures.1 is,
      c.call_if.ensures,
    )
