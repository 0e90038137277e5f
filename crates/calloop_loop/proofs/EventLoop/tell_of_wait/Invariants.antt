use Rattle.std.proofs.Common.{◌≡◌, ℕ, ◌≤◌, Option, drop}
use Rattle.calloop_poll.specs.sys.Polls.{IsReady}
use Rattle.calloop_loop.specs.Limits.{all_limits}
use Rattle.calloop_loop.specs.Machine.{view_of}
use Rattle.calloop_loop.specs.Rules.{Goes, Sleeping}
use Rattle.calloop_loop.proofs.EventLoop.tell_of_wait.Given as goal

abbrev pub invariant-loop-place : goal.invariant-loop-place
invariant-loop-place g l = record {
  machine : (timeout : Option ℕ) (x : g.row.D-Data.Denot) → Goes g.D.Dispatch.means g.D.Idle.IdleCallback.runs g.P.Poller.outside (Sleeping timeout l.initial.self.lifecycle.tokens.items x) (Sleeping timeout (drop l.place l.initial.self.lifecycle.tokens.items) x) (view_of l.initial.self) (view_of l.self);
  ready : IsReady (all_limits g.D.Dispatch.means l.self.sources (drop l.place l.initial.self.lifecycle.tokens.items)) l.self.poll;
  room : all_limits g.D.Dispatch.means l.self.sources (drop l.place l.initial.self.lifecycle.tokens.items) ≤ l.self.synthetic.room;
  entries : l.self.lifecycle ≡ l.initial.self.lifecycle;
}
