use Rattle.std.proofs.Common.{◌≡◌, List}
use Rattle.calloop_wake.specs.declared.channel.Popped.{Popped}
use Rattle.calloop_ends.specs.channel.Channels.{Handed}
use Rattle.calloop_ends.proofs.channel.source.ReceivingEnd+ChannelCore+T+R.hand_out.Given as goal

abbrev pub invariant-pops : goal.invariant-pops
invariant-pops g l =
    (l.turn.name ≡ l.self.tally.name) × (l.self.tally.name ≡ l.fn.self.tally.name) × (l.self.tag ≡ l.fn.self.tag)
    × ((ps : List (Popped g.row.T.Denot)) × Handed g.F.Callback.may g.Q.Asking.reaches l.fn.turn l.fn.self.tally l.fn.callback l.fn.«data» l.fn.requests ps l.turn l.self.tally l.told l.callback l.«data» l.requests)

abbrev pub decreases-pops : goal.decreases-pops
decreases-pops g l = l.turn.left
