use Rattle.calloop_sources.specs.sources.Deeds.{new_heard}
use Rattle.calloop_test_sources.proofs.greedy.GreedyEventSource.process_events.Goals as goal

pub returns : goal.returns
returns g c =
    let turn = c.process_events.ensures in
    (turn.0, (turn.1.0, (new_heard turn.0 c.process_events.result, turn.1.1), turn.1.2), turn.2)
