use Rattle.std.proofs.Common.{[], sym}
use Rattle.std.proofs.lemmas.List.Sorted.{IsPermutation-refl}
use Rattle.calloop_loop.specs.Machine.{view_of, with_marks_taken}
use Rattle.calloop_loop.proofs.SettledMarks.{all_settled}
use Rattle.calloop_loop.proofs.EventLoop.settle_marked.Goals as goal

pub returns-in_default-clause-machine : goal.returns-in_default-clause-machine
returns-in_default-clause-machine g c = (
  [],
  [],
  record { same = IsPermutation-refl []; order = λ place t u first second. cc },
  λ timeout x.
      rw c.in_default.ensures.none (all_settled g.D.Dispatch.means g.D.Idle.IdleCallback.runs g.P.Poller.outside timeout (with_marks_taken [] (view_of c.args.self.now)) x),
)

pub returns-clause-machine : goal.returns-clause-machine
returns-clause-machine g c =
    let h = c.in-Some.ensures.some in
    (c.as_slice.result.now, h.taken, rw c.as_slice.ensures.value h.are, λ timeout x. rw (sym h.noted) (c.settle_all.ensures.machine timeout x))

pub returns-clause-ready : goal.returns-clause-ready
returns-clause-ready g c = λ more ready. c.settle_all.ensures.ready more (c.in-Some.ensures.ready more ready)
