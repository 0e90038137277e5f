use Rattle.std.proofs.Common.{◌≡◌, ℕ, ◌≤◌, Option, drop}
use Rattle.calloop_poll.specs.sys.Polls.{IsReady}
use Rattle.calloop_loop.specs.Limits.{all_limits}
use Rattle.calloop_loop.specs.Machine.{view_of}
use Rattle.calloop_loop.specs.Rules.{Goes, Settling}
use Rattle.calloop_loop.proofs.EventLoop.settle_all.Given as goal

abbrev pub invariant-loop-place : goal.invariant-loop-place
invariant-loop-place g l = record {
  machine : (timeout : Option ℕ) (x : g.row.D-Data.Denot) → Goes g.D.Dispatch.means g.D.Idle.IdleCallback.runs g.P.Poller.outside (Settling timeout l.initial.marked x) (Settling timeout (drop l.place l.initial.marked) x) (view_of l.initial.self) (view_of l.self);
  limits : all_limits g.D.Dispatch.means l.self.sources l.self.lifecycle.tokens.items ≤ all_limits g.D.Dispatch.means l.initial.self.sources l.initial.self.lifecycle.tokens.items;
  room : l.self.synthetic ≡ l.initial.self.synthetic;
  ready : (more : ℕ) → IsReady more l.initial.self.poll → IsReady more l.self.poll;
}
