use Rattle.std.proofs.Common.{[], ◌∷◌, refl}
use Rattle.calloop_test_sources.proofs.several.SeveralEventSource.process_events.Goals as goal

pub returns : goal.returns
returns g c = (
  record { event = c.number_of.result; before = tt; after = tt; answer = tt } ∷ [],
  ([], (refl, tt, tt), (tt, refl)),
  (c.call.new.self, c.call.new.data, c.call.new.requests, c.call.ensures.may, c.call.ensures.asks, (refl, refl, refl)),
)
