use Rattle.std.proofs.Common.{◌≡◌, ◌+◌, drop}
use Rattle.calloop_loop.specs.Limits.{all_limits}
use Rattle.calloop_loop.proofs.EventLoop.limits.Given as goal

abbrev pub invariant-loop-place : goal.invariant-loop-place
invariant-loop-place g l = l.sum + all_limits g.D.Dispatch.means l.self.sources (drop l.place l.self.lifecycle.tokens.items) ≡ all_limits g.D.Dispatch.means l.self.sources l.self.lifecycle.tokens.items
