use Rattle.calloop_sources.specs.sources.Deeds.{new_heard}
use Rattle.calloop_test_sources.specs.Passing.{numbered_calls}
use Rattle.calloop_test_sources.proofs.numbered.NumberedEventSource.process_events.Goals as goal

pub returns-in-Ok : goal.returns-in-Ok
returns-in-Ok g c =
    let turn = c.process_events-turn.ensures in (
      numbered_calls c.process_events-turn.new.callback.rang c.args.self.now.number,
      (turn.1.0, (new_heard turn.0 c.process_events-turn.result, turn.1.1), turn.1.2),
      c.call_if.ensures,
    )
