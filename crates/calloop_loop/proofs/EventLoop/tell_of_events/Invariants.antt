use Rattle.std.proofs.Common.{◌≡◌, drop}
use Rattle.calloop_loop.specs.Machine.{view_of}
use Rattle.calloop_loop.specs.Rules.{Goes, Noticing}
use Rattle.calloop_loop.proofs.EventLoop.tell_of_events.Given as goal

abbrev pub invariant-loop-place : goal.invariant-loop-place
invariant-loop-place g l = record {
  machine : (x : g.row.D-Data.Denot) → Goes g.D.Dispatch.means g.D.Idle.IdleCallback.runs g.P.Poller.outside (Noticing l.from l.initial.self.lifecycle.tokens.items x) (Noticing l.from (drop l.place l.initial.self.lifecycle.tokens.items) x) (view_of l.initial.self) (view_of l.self);
  entries : l.self.lifecycle ≡ l.initial.self.lifecycle;
}
