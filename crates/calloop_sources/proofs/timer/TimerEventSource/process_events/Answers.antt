use Rattle.std.proofs.Common.{rules, refl, inl, inr, ◌∷◌, []}
use Rattle.calloop_poll.specs.sys.Polls.{Call, poll_view}
use Rattle.calloop_poll.proofs.Stepping.{stepped_first}
use Rattle.calloop_sources.proofs.timer.TimerEventSource.process_events.Goals as goal
use Rattle.calloop_sources.proofs.timer.TimerEventSource.process_events.Goals.{then-ne-via-then-ne, then-ne-via-else-ne+then-registration}

pub returns-in_default : goal.returns-in_default
returns-in_default g c = ([], ([], inr (record { why = λ r is named unspent. absurd (search rules); called = refl; answered = refl; no_steps = refl; same = refl }), (tt, refl)), (refl, refl, refl))

pub returns-then-ne : goal.returns-then-ne
returns-then-ne g c =
    ([], ([], inr (record { why = λ r is named unspent. elim c.then-ne.branch [ then-ne-via-then-ne w ↦ search rules | then-ne-via-else-ne+then-registration w ↦ search rules ]; called = refl; answered = refl; no_steps = refl; same = refl }), (tt, refl)), (refl, refl, refl))

pub returns-then-is_armed : goal.returns-then-is_armed
returns-then-is_armed g c = ([], ([], inr (record { why = λ r is named unspent. search rules; called = refl; answered = refl; no_steps = refl; same = refl }), (tt, refl)), (refl, refl, refl))

pub returns : goal.returns
returns g c = (
  record { event = c.in-Some.registration.armed; before = tt; after = tt; answer = c.call.ensures.0 } ∷ [],
  (
    Call c.in-Some.registration.counter c.in-Some.registration.armed ∷ c.call.ensures.1,
    inl (
      c.in-Some.registration,
      record { registered = search rules; named = search rules; unspent = search rules; unarmed = search rules; action = c.call.ensures.0; called = refl; more = c.call.ensures.1; steps_are = refl; answered = c.call.ensures.2 },
    ),
    stepped_first g.P.Poller.outside (poll_view c.args.poll.now) (poll_view c.args.poll.now) (poll_view c.call.new.poll) (Call c.in-Some.registration.counter c.in-Some.registration.armed) c.call.ensures.1 (search rules) refl c.call.ensures.3,
  ),
  c.call.ensures.4,
)
