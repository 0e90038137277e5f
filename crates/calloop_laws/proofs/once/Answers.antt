use Rattle.calloop_loop.specs.Machine.{world_after_all}
use Rattle.calloop_laws.proofs.Rights.{run_right}
use Rattle.calloop_laws.proofs.Reuse.{names_later}
use Rattle.calloop_laws.specs.Laws.{NamesLater, StaysGone, changes_of, IsFresh, IsNoMore, Any, HasNoMoreKeys}
use Rattle.calloop_laws.proofs.Gone.{stay_gone, run_fits}
use Rattle.calloop_laws.proofs.Moments.{any_two}
use Rattle.calloop_laws.proofs.Listing.{run_told}
use Rattle.calloop_laws.proofs.Homes.{run_home}
use Rattle.calloop_laws.proofs.Tickets.{run_ticketed, new_ticketed}
use Rattle.calloop_laws.proofs.Freshness.{new_run_fresh, any_asks, any_runs}
use Rattle.calloop_laws.proofs.Owning.{run_owned, new_owned}
use Rattle.calloop_laws.proofs.once.Goals as goal

pub returns : goal.returns
returns g c =
    record {
      sound = λ r run at.
          record {
            reaches = run_right g.D.Dispatch.means g.D.Idle.IdleCallback.runs g.P.Poller.outside r.calls r.answers r.changes r.began r.ended run;
            stale = rw at (any_two NamesLater r.began (changes_of r.changes) (λ before between after is. names_later (world_after_all r.began before) between));
            gone = rw at (any_two StaysGone r.began (changes_of r.changes) (stay_gone g.P.Poller.outside r.began (changes_of r.changes) (run_fits g.D.Dispatch.means g.D.Idle.IdleCallback.runs g.P.Poller.outside r.calls r.answers r.changes r.began r.ended run)));
          };
      brought = λ r run at new fresh.
          (run_owned g.D.Dispatch.means g.D.Idle.IdleCallback.runs g.P.Poller.outside g.met.D.Dispatch.keeps.counters r.calls r.answers r.changes r.began r.ended fresh run (new_owned g.D.Dispatch.means r.began new)).noted.kept;
      armings = λ turns idles r run at new fresh.
          (run_owned g.D.Dispatch.means g.D.Idle.IdleCallback.runs g.P.Poller.outside g.met.D.Dispatch.keeps.counters r.calls r.answers r.changes r.began r.ended (new_run_fresh (IsFresh g.D.Dispatch.means) (IsNoMore g.D.Dispatch.means) g.D.Dispatch.means g.D.Idle.IdleCallback.runs g.P.Poller.outside turns idles r.calls r.answers r.changes r.began r.ended new fresh run) run (new_owned g.D.Dispatch.means r.began new)).noted.kept;
      home = λ r run at new kept.
          run_home g.D.Dispatch.means g.D.Idle.IdleCallback.runs g.P.Poller.outside g.met.D.Dispatch.keeps.home r.calls r.answers r.changes r.began r.ended new
          (new_run_fresh Any (HasNoMoreKeys g.D.Dispatch.means) g.D.Dispatch.means g.D.Idle.IdleCallback.runs g.P.Poller.outside (any_asks g.D.Dispatch.means) (any_runs g.D.Idle.IdleCallback.runs) r.calls r.answers r.changes r.began r.ended new kept run) run;
      told = λ r run at new. run_told g.D.Dispatch.means g.D.Idle.IdleCallback.runs g.P.Poller.outside r.calls r.answers r.changes r.began r.ended new run;
      tickets = λ r run at new. run_ticketed g.D.Dispatch.means g.D.Idle.IdleCallback.runs g.P.Poller.outside r.calls r.answers r.changes r.began r.ended run (new_ticketed r.began new);
    }
