use Rattle.std.proofs.Common.{rules, refl, inl, inr, ◌∷◌, [], Ok, Err}
use Rattle.calloop_sources.proofs.generic.GenericEventSource.process_events.Goals as goal

pub returns-then-not-hears : goal.returns-then-not-hears
returns-then-not-hears g c =
    ([], ([], inr (record { unheard = search rules; called = refl; answered = refl; no_steps = refl; same = refl }), (tt, refl)), (refl, refl, refl))

pub returns-in-Ok : goal.returns-in-Ok
returns-in-Ok g c = (
  record { event = c.args.readiness; before = c.args.self.now.io; after = c.call.new.metadata; answer = Ok c.in-Ok.action } ∷ [],
  (c.arm_again.ensures.0, inl (record { heard = search rules; io = c.call.new.metadata; told = Ok c.in-Ok.action; called = refl; answered = search rules }), c.arm_again.ensures.2),
  (c.call.new.self, c.call.new.«data», c.call.new.requests, c.in-Ok.ensures.may, c.in-Ok.ensures.asks, (refl, refl, refl)),
)

pub returns-in-Err : goal.returns-in-Err
returns-in-Err g c = (
  record { event = c.args.readiness; before = c.args.self.now.io; after = c.call.new.metadata; answer = Err c.in-Err.error } ∷ [],
  ([], inl (record { heard = search rules; io = c.call.new.metadata; told = Err c.in-Err.error; called = refl; answered = search rules }), (tt, refl)),
  (c.call.new.self, c.call.new.«data», c.call.new.requests, c.in-Err.ensures.may, c.in-Err.ensures.asks, (refl, refl, refl)),
)
