use Rattle.std.proofs.Common.{◌≡◌, List, [], ◌∷◌, ◌++◌, sym, ◌∙◌, ap, subst, arith}
use Rattle.std.proofs.lemmas.List.{nil_from_length, append_assoc, append-nil}
use Rattle.calloop_loop.specs.declared.LoopAnswer.{LoopAnswer}
use Rattle.calloop_loop.specs.Machine.{view_of}
use Rattle.calloop_loop.specs.Rules.{RunLeads}
use Rattle.calloop_loop.proofs.Running.{run_none, run_first}
use Rattle.calloop_loop.proofs.EventLoop.carry_out_all.Goals as goal

pub loop-call-init : goal.loop-call-init
loop-call-init g c =
    record {
      machine = λ later t h. rw c.in-Ok.ensures.items h;
      room = omega (arith, c.in-Ok.ensures.len, c.in-Ok.ensures.capacity, c.len.ensures);
    }

pub loop-call-preserved : goal.loop-call-preserved
loop-call-preserved g c =
    let M = g.D.Dispatch.means in
    record {
      machine = λ later t h.
          subst (λ (xs : List (LoopAnswer g.row.D.Denot g.row.P.Denot g.row.D-Data.Denot g.row.D-Idle.Denot)). RunLeads M g.D.Idle.IdleCallback.runs g.P.Poller.outside c.args.calls.items xs (view_of c.args.self.now) t)
          (sym (append_assoc c.loop-call.answers.items (c.carry_out-answer.result ∷ []) later) ∙ ap (λ (xs : List (LoopAnswer g.row.D.Denot g.row.P.Denot g.row.D-Data.Denot g.row.D-Idle.Denot)). xs ++ later) (sym c.push_reserved.ensures.items))
          (c.loop-call.invariant.machine (c.carry_out-answer.result ∷ later) t
          (rw c.in-Some.ensures.items (run_first M g.D.Idle.IdleCallback.runs g.P.Poller.outside c.in-Some.call c.carry_out-answer.result c.pop_front.new.self.items later (view_of c.loop-call.self) (view_of c.carry_out-answer.new.self) t c.carry_out-answer.ensures h)));
      room = omega (arith, c.loop-call.invariant.room, c.in-Some.ensures.len, c.push_reserved.ensures.len, c.push_reserved.ensures.capacity);
    }

pub returns : goal.returns
returns g c =
    let none : c.loop-call.calls.items ≡ [] = nil_from_length c.loop-call.calls.items (omega (arith, c.loop-call.calls.ok.0, c.in_default-pop_front.ensures.cases.0)) in
    record {
      run =
          subst (λ (xs : List (LoopAnswer g.row.D.Denot g.row.P.Denot g.row.D-Data.Denot g.row.D-Idle.Denot)). RunLeads g.D.Dispatch.means g.D.Idle.IdleCallback.runs g.P.Poller.outside c.args.calls.items xs (view_of c.args.self.now) (view_of c.loop-call.self)) (append-nil c.loop-call.answers.items)
          (c.loop-call.invariant.machine [] (view_of c.loop-call.self) (rw none (run_none g.D.Dispatch.means g.D.Idle.IdleCallback.runs g.P.Poller.outside (view_of c.loop-call.self))));
      err = tt;
    }
