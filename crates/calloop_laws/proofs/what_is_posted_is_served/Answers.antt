use Rattle.calloop_laws.proofs.Handing.{noted}
use Rattle.calloop_laws.proofs.Tying.{served, ring_served, run_served}
use Rattle.calloop_laws.proofs.what_is_posted_is_served.Goals as goal

pub returns : goal.returns
returns g c =
    record {
      noted = λ timeout x x' v css h. noted g.D.Dispatch.means g.D.Idle.IdleCallback.runs g.P.Poller.outside timeout x x' v css h;
      served = λ timeout x x' v css h born hs is tied. served g.D.Dispatch.means born v css (noted g.D.Dispatch.means g.D.Idle.IdleCallback.runs g.P.Poller.outside timeout x x' v css h) hs is tied;
      rings = λ timeout x x' v css h born hs is tied t o n k r. ring_served g.D.Dispatch.means born v css (noted g.D.Dispatch.means g.D.Idle.IdleCallback.runs g.P.Poller.outside timeout x x' v css h) hs is tied t o n k r;
      run = λ r run at born hs is tied. run_served g.D.Dispatch.means g.D.Idle.IdleCallback.runs g.P.Poller.outside born hs is r.calls r.answers r.changes r.began r.ended run tied;
    }
