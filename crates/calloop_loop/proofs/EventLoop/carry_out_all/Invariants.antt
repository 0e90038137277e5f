use Rattle.std.proofs.Common.{List, ◌++◌, ◌+◌, ◌≤◌, vec_len, vec_capacity}
use Rattle.std.specs.VecDeque.{deque_len}
use Rattle.calloop_loop.specs.declared.LoopAnswer.{LoopAnswer}
use Rattle.calloop_loop.specs.Machine.{View, view_of}
use Rattle.calloop_loop.specs.Rules.{RunLeads}
use Rattle.calloop_loop.proofs.EventLoop.carry_out_all.Given as goal

-- what the calls that are left lead to, all of them lead to
abbrev pub invariant-loop-call : goal.invariant-loop-call
invariant-loop-call g l = record {
  machine : (later : List (LoopAnswer g.row.D.Denot g.row.P.Denot g.row.D-Data.Denot g.row.D-Idle.Denot)) (t : View g.row.D.Denot g.row.D-Idle.Denot g.row.P.Denot) → RunLeads g.D.Dispatch.means g.D.Idle.IdleCallback.runs g.P.Poller.outside l.calls.items later (view_of l.self) t
      → RunLeads g.D.Dispatch.means g.D.Idle.IdleCallback.runs g.P.Poller.outside l.initial.calls.items (l.answers.items ++ later) (view_of l.initial.self) t;
  room : vec_len l.answers + deque_len l.calls ≤ vec_capacity l.answers;
}

abbrev pub decreases-loop-call : goal.decreases-loop-call
decreases-loop-call g l = deque_len l.calls
