use Rattle.calloop_ends.specs.channel.Channels.{channel_tally, SameChannel, ChannelOpens}
use Rattle.calloop_laws.proofs.Calling.{rest_opened}
use Rattle.calloop_laws.proofs.turns.a_posted_channel_opens_its_turn.Goals as goal

pub returns : goal.returns
returns g c = λ timeout x x' v css h.
    rest_opened channel_tally SameChannel ChannelOpens g.F.Callback.may _ _ g.D.Choice.held g.D.Dispatch.means g.met.D.Hold.held_means v css
