use Rattle.std.proofs.Common.{Result}
use denote.Param.Always.{always_mut}
use Rattle.std.specs.Fn.{CalledAtMut}
use Rattle.calloop_slots.specs.declared.error.Error.{Error}
use Rattle.calloop_loop.specs.Machine.{View, view_of}
use Rattle.calloop_loop.proofs.Rounds.{RoundsTo}
use Rattle.calloop_loop.proofs.EventLoop.run.Given as goal

-- what the rounds from now on lead to, all of them lead to
abbrev pub invariant-rounds : goal.invariant-rounds
invariant-rounds g l = record {
  can : (goal.iterator-rounds g).can_next l.iterator';
  finite : (goal.iterator-rounds g).is_finite l.iterator';
  callable : always_mut g.F.FnMut l.initial.callback → always_mut g.F.FnMut l.callback;
  leads : (answer : Result (Unit {0}) Error) (left : g.row.D-Data.Denot) (t : View g.row.D.Denot g.row.D-Idle.Denot g.row.P.Denot)
      → RoundsTo g.D.Dispatch.means g.D.Idle.IdleCallback.runs g.P.Poller.outside (CalledAtMut g.F.FnMut) l.timeout l.callback l.«data» (view_of l.self) answer left t
      → RoundsTo g.D.Dispatch.means g.D.Idle.IdleCallback.runs g.P.Poller.outside (CalledAtMut g.F.FnMut) l.timeout l.initial.callback l.initial.«data» (view_of l.initial.self) answer left t;
}
