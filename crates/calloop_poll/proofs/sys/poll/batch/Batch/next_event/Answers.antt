use Rattle.std.proofs.Common.{refl}
use Rattle.calloop_poll.proofs.sys.poll.batch.Batch.next_event.Goals as goal
use Rattle.calloop_poll.proofs.sys.poll.batch.Batch.next_event.Goals.{then-event+in-Some, else-event}

pub returns-clause-others : goal.returns-clause-others
returns-clause-others g c =
    elim c.if-event.branch [
      | then-event+in-Some w ↦
          rw (c.replace_pass.ensures, w.self-is, c.saturating_sub-self-inside.ensures, w.pass-is, w.if-event.true, ← c.self.view_is, c.in_ok-event.ensures.items, w.in-Some.ensures.items) refl
      | else-event w ↦ rw (c.replace_pass.ensures, w.self-is, c.saturating_sub-self-inside.ensures, w.pass-is, w.if-event.false, ← c.self.view_is, c.in_ok-event.ensures.items) refl
    ]
