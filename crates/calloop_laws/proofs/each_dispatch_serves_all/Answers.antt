use Rattle.calloop_laws.proofs.Served.{served_all, run_sorted, new_sorted}
use Rattle.calloop_laws.proofs.each_dispatch_serves_all.Goals as goal

pub returns : goal.returns
returns g c =
    record {
      nothing_left = λ timeout x x' v css h. (let k = served_all g.D.Dispatch.means g.D.Idle.IdleCallback.runs g.P.Poller.outside timeout x x' v css h in (k.0, k.1, k.2.0));
      all_cut = λ timeout x x' v css h. (let k = served_all g.D.Dispatch.means g.D.Idle.IdleCallback.runs g.P.Poller.outside timeout x x' v css h in (k.0, k.1, k.2.1));
      none_is_late = λ timeout x x' v css h. (let k = served_all g.D.Dispatch.means g.D.Idle.IdleCallback.runs g.P.Poller.outside timeout x x' v css h in (k.0, k.1, k.2.2));
      due_are_cut = λ timeout x x' v css h. (let k = served_all g.D.Dispatch.means g.D.Idle.IdleCallback.runs g.P.Poller.outside timeout x x' v css h in (k.0, k.1, k.2.3));
      idles_ran = λ timeout x x' v css h. (let k = served_all g.D.Dispatch.means g.D.Idle.IdleCallback.runs g.P.Poller.outside timeout x x' v css h in (k.0, k.1, k.2.4));
      sorted = λ r run at new. run_sorted g.D.Dispatch.means g.D.Idle.IdleCallback.runs g.P.Poller.outside r.calls r.answers r.changes r.began r.ended run (new_sorted r.began new);
    }
