use Rattle.std.proofs.Common.{Option, Result, true}
use denote.Param.Always.{always_mut}
use Rattle.std.specs.Fn.{CalledAtMut}
use Rattle.calloop_slots.specs.declared.error.Error.{Error}
use Rattle.calloop_loop.specs.Machine.{View, view_of}
use Rattle.calloop_loop.proofs.BlockedRounds.{BlockedTo}
use Rattle.calloop_loop.proofs.EventLoop.block_rounds.Given as goal

-- what the rounds from now on lead to, all of them lead to
abbrev pub invariant-rounds : goal.invariant-rounds
invariant-rounds g l = record {
  can : (goal.iterator-rounds g).can_next l.iterator';
  finite : (goal.iterator-rounds g).is_finite l.iterator';
  callable : always_mut g.F.FnMut l.initial.callback → always_mut g.F.FnMut l.callback;
  gives : (output : g.row.Fut-Output.Denot) → g.Fut.Future.gives l.future output → g.Fut.Future.gives l.initial.future output;
  leads : (answer : Result (Option g.row.Fut-Output.Denot) Error) (left : g.row.D-Data.Denot) (t : View g.row.D.Denot g.row.D-Idle.Denot g.row.P.Denot)
      → BlockedTo g.D.Dispatch.means g.D.Idle.IdleCallback.runs g.P.Poller.outside (CalledAtMut g.F.FnMut) (g.Fut.Future.gives l.initial.future) g.Fut.Future.polls l.first l.future l.callback l.«data» (view_of l.self) answer left t
      → BlockedTo g.D.Dispatch.means g.D.Idle.IdleCallback.runs g.P.Poller.outside (CalledAtMut g.F.FnMut) (g.Fut.Future.gives l.initial.future) g.Fut.Future.polls true l.initial.future l.initial.callback l.initial.«data» (view_of l.initial.self) answer left t;
}
