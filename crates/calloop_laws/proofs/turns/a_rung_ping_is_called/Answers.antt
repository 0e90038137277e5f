use Rattle.calloop_laws.proofs.Calling.{ring_called}
use Rattle.calloop_laws.proofs.turns.a_rung_ping_is_called.Goals as goal

pub returns : goal.returns
returns g c = λ timeout x x' v css h.
    ring_called g.F.Callback.may _ _ g.D.Choice.held g.D.Dispatch.means g.met.D.Hold.held_means v css
