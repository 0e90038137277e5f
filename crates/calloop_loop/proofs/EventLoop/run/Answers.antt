use Rattle.std.proofs.Common.{of_calls, Ok, Err}
use Rattle.std.proofs.lemmas.Result.{err_from_is_err_and}
use Rattle.std.proofs.RetainMut.{Called-Mut}
use Rattle.std.specs.Fn.{CalledAtMut}
use Rattle.calloop_loop.specs.Machine.{view_of}
use Rattle.calloop_loop.proofs.Rounds.{runs-begun, runs-stopped, runs-failed, runs-on}
use Rattle.calloop_loop.proofs.EventLoop.run.Goals as goal

pub returns-then-is_stopped : goal.returns-then-is_stopped
returns-then-is_stopped g c =
    let M = g.D.Dispatch.means in
    let R = g.D.Idle.IdleCallback.runs in
    let O = g.P.Poller.outside in
    let x = c.rounds.«data» in
    let end = view_of c.is_stopped.new.self in
    runs-begun M R O (CalledAtMut g.F.FnMut) c.args.timeout c.args.callback c.args.«data».now (view_of c.args.self.now) (view_of c.forget_stop.new.self) (Ok tt) x end c.forget_stop.ensures
    (c.rounds.invariant.leads (Ok tt) x end
    (runs-stopped M R O (CalledAtMut g.F.FnMut) c.args.timeout c.rounds.callback x (view_of c.rounds.self) end c.if-is_stopped.ensures))

pub returns-in_err-dispatch : goal.returns-in_err-dispatch
returns-in_err-dispatch g c =
    let M = g.D.Dispatch.means in
    let R = g.D.Idle.IdleCallback.runs in
    let O = g.P.Poller.outside in
    let x = c.dispatch.new.«data» in
    let end = view_of c.dispatch.new.self in
    let p = err_from_is_err_and c.from_residual.result c.from_residual.ensures.1 in
    rw (p.1, p.2)
    (runs-begun M R O (CalledAtMut g.F.FnMut) c.args.timeout c.args.callback c.args.«data».now (view_of c.args.self.now) (view_of c.forget_stop.new.self) (Err c.in_err-dispatch.field-0.0) x end c.forget_stop.ensures
    (c.rounds.invariant.leads (Err c.in_err-dispatch.field-0.0) x end
    (runs-failed M R O (CalledAtMut g.F.FnMut) c.args.timeout c.rounds.callback c.rounds.«data» (view_of c.rounds.self) (view_of c.is_stopped.new.self)
    c.in_err-dispatch.field-0.0 x end c.if-is_stopped.ensures c.in_err-dispatch.ensures.case)))

pub rounds-preserved : goal.rounds-preserved
rounds-preserved g c =
    record {
      can = tt;
      finite = tt;
      callable = search of_calls;
      leads = λ answer left t runs.
          c.rounds.invariant.leads answer left t
          (runs-on g.D.Dispatch.means g.D.Idle.IdleCallback.runs g.P.Poller.outside (CalledAtMut g.F.FnMut) c.args.timeout c.rounds.callback c.rounds.«data» (view_of c.rounds.self) (view_of c.is_stopped.new.self)
          c.dispatch.new.«data» (view_of c.dispatch.new.self) c.callback.new.self _ answer left t c.if-is_stopped.ensures c.in_ok-dispatch.ensures.case (Called-Mut g.F.FnMut c.callback.ensures) runs);
    }
