use Rattle.std.proofs.Common.{Err}
use Rattle.std.proofs.lemmas.Result.{err_from_is_err_and}
use Rattle.calloop_loop.specs.Machine.{view_of}
use Rattle.calloop_loop.specs.Rules.{Cutting, Idling, Leaving}
use Rattle.calloop_loop.proofs.Going.{goes_nowhere, goes_on}
use Rattle.calloop_loop.proofs.EventLoop.hand_out_all.Goals as goal

pub batch-init : goal.batch-init
batch-init g c = goes_nowhere g.D.Dispatch.means g.D.Idle.IdleCallback.runs g.P.Poller.outside _ _

pub returns-in_err-hand_out : goal.returns-in_err-hand_out
returns-in_err-hand_out g c =
    let p = err_from_is_err_and c.from_residual.result c.from_residual.ensures.1 in
    rw p.1
    (goes_on g.D.Dispatch.means g.D.Idle.IdleCallback.runs g.P.Poller.outside (Cutting c.args.«data».now) (Cutting c.batch.«data») (Leaving (Err c.hand_out.new.failure) c.hand_out.new.«data») (view_of c.args.self.now) (view_of c.batch.self) (view_of c.hand_out.new.self)
    c.batch.invariant c.in_err-hand_out.ensures.machine)

pub batch-preserved : goal.batch-preserved
batch-preserved g c =
    goes_on g.D.Dispatch.means g.D.Idle.IdleCallback.runs g.P.Poller.outside (Cutting c.args.«data».now) (Cutting c.batch.«data») (Cutting c.hand_out.new.«data») (view_of c.args.self.now) (view_of c.batch.self) (view_of c.hand_out.new.self)
    c.batch.invariant (rw c.if-branch.true at c.in_ok-hand_out.ensures.machine)

pub returns : goal.returns
returns g c =
    goes_on g.D.Dispatch.means g.D.Idle.IdleCallback.runs g.P.Poller.outside (Cutting c.args.«data».now) (Cutting c.batch.«data») (Idling c.hand_out.new.«data») (view_of c.args.self.now) (view_of c.batch.self) (view_of c.hand_out.new.self)
    c.batch.invariant (rw c.if-branch.false at c.in_ok-hand_out.ensures.machine)
