use Rattle.calloop_ends.specs.stream.Streams.{stream_tally, SameStream, StreamOpens}
use Rattle.calloop_laws.proofs.Calling.{rest_opened}
use Rattle.calloop_laws.proofs.turns.a_posted_stream_opens_its_turn.Goals as goal

pub returns : goal.returns
returns g c = λ timeout x x' v css h.
    rest_opened stream_tally SameStream (StreamOpens g.S.Stream.polls) g.F.Callback.may _ _ g.D.Choice.held g.D.Dispatch.means g.met.D.Hold.held_means v css
