use Rattle.std.proofs.Common.{◌≡◌, ℕ, List, [], ◌∷◌, ◌++◌, Ok, Err, ap, sym, subst, ◌∙◌, true, false, is_none, arith}
use Rattle.calloop_poll.specs.sys.Pollers.{nanos_of}
use Rattle.calloop_poll.specs.sys.Batches.{BatchView}
use Rattle.calloop_poll.specs.sys.Polls.{poll_view}
use Rattle.calloop_poll.specs.declared.sys.Readiness.{Readiness}
use Rattle.calloop_poll.specs.declared.sys.poll.Poll.{Poll}
use Rattle.calloop_poll.specs.sys.Waits.{IsInterruption, asked_for, is_zero, Waited}
use Rattle.calloop_poll.proofs.Waiting.{answered, faulted, ended, interrupted}
use Rattle.calloop_poll.proofs.sys.poll.Poll.wait.Goals as goal

pub returns-in_default-clause-ok : goal.returns-in_default-clause-ok
returns-in_default-clause-ok g c =
    let O = g.P.Poller.outside in
    let v = poll_view c.args.self.now in
    let t = nanos_of c.args.timeout in
    let start = c.now-start.result.nanos in
    let w = c.in_default.ensures.waits in
    let given : c.wait-answer.new.events.items ≡ w.0 = w.2 ∙ ap (λ (es : List (ℕ × Readiness)). es ++ w.0) c.loop.invariant.events in
    subst (λ (es : List (ℕ × Readiness)). Waited O v t (Ok c.now.result.nanos) es c.now.new.self c.loop.self.batch.watch) (sym given)
    (c.loop.invariant.leads [] (Ok c.now.result.nanos) w.0 c.now.new.self
    (answered O v t start (nanos_of c.loop.asked) c.loop.self.poller c.wait-answer.new.self c.now.new.self w.0 c.now.result.nanos w.1 c.now.ensures.reads) (omega (arith, c.now.ensures.faults, c.in_default.ensures.faults, c.loop.invariant.faults)))

pub returns-then-not-is_interruption-clause-err : goal.returns-then-not-is_interruption-clause-err
returns-then-not-is_interruption-clause-err g c =
    let O = g.P.Poller.outside in
    let v = poll_view c.args.self.now in
    let t = nanos_of c.args.timeout in
    let start = c.now-start.result.nanos in
    let w = c.in-Err.ensures.waits in
    let none : ¬ IsInterruption c.in-Err.cause = λ is. let rings = c.is_interruption.ensures.1 is in let quiet = c.if-not-is_interruption.true in absurd (cc) in (
      w.0,
      c.loop.invariant.leads [] (Err c.in-Err.cause) w.0 c.wait-answer.new.self
          (faulted O v t start (nanos_of c.loop.asked) c.loop.self.poller c.wait-answer.new.self w.0 c.in-Err.cause w.1 none) (omega (arith, c.in-Err.ensures.faults.1 none, c.loop.invariant.faults)),
    )

pub returns-then-is_zero-clause-ok : goal.returns-then-is_zero-clause-ok
returns-then-is_zero-clause-ok g c =
    let O = g.P.Poller.outside in
    let v = poll_view c.args.self.now in
    let t = nanos_of c.args.timeout in
    let start = c.now-start.result.nanos in
    let later = c.now-now.result.nanos in
    let posted = is_none c.look-again.result in
    let w = c.in-Err.ensures.waits in
    let again : nanos_of c.timeout_for-asked-in-loop.result ≡ asked_for v posted t start later = c.timeout_for-asked-in-loop.ensures ∙ ap (λ (b : BatchView). asked_for (poll_view (record c.loop.self { batch = b })) posted t start later) c.look-again.ensures.others
    ∙ ap (λ (s : Poll g.row.P.Denot g.row.C.Denot g.row.R.Denot). asked_for (poll_view s) posted t start later) c.loop.invariant.others in
    let zero : is_zero (asked_for v posted t start later) ≡ true = sym (ap is_zero again) ∙ sym c.is_zero.ensures ∙ c.if-is_zero.true in
    rw (c.clear.ensures.items, c.look-again.ensures.watch)
    (c.loop.invariant.leads (record { cause = c.in-Err.cause; given = w.0; waited = c.wait-answer.new.self; now = later; read = c.now-now.new.self; posted = posted } ∷ []) (Ok later) [] c.now-now.new.self
    (ended O v t start (nanos_of c.loop.asked) c.loop.self.poller c.wait-answer.new.self c.now-now.new.self w.0 c.in-Err.cause later posted w.1 (c.is_interruption.ensures.0 c.if-not-is_interruption.false) c.now-now.ensures.reads zero)
    (omega (arith, c.now-now.ensures.faults, c.in-Err.ensures.faults.0 (c.is_interruption.ensures.0 c.if-not-is_interruption.false), c.loop.invariant.faults)))

pub loop-preserved : goal.loop-preserved
loop-preserved g c =
    let O = g.P.Poller.outside in
    let v = poll_view c.args.self.now in
    let t = nanos_of c.args.timeout in
    let start = c.now-start.result.nanos in
    let later = c.now-now.result.nanos in
    let posted = is_none c.look-again.result in
    let w = c.in-Err.ensures.waits in
    let again : nanos_of c.timeout_for-asked-in-loop.result ≡ asked_for v posted t start later = c.timeout_for-asked-in-loop.ensures ∙ ap (λ (b : BatchView). asked_for (poll_view (record c.loop.self { batch = b })) posted t start later) c.look-again.ensures.others
    ∙ ap (λ (s : Poll g.row.P.Denot g.row.C.Denot g.row.R.Denot). asked_for (poll_view s) posted t start later) c.loop.invariant.others in
    let zero : is_zero (asked_for v posted t start later) ≡ false = sym (ap is_zero again) ∙ sym c.is_zero.ensures ∙ c.if-is_zero.false in
    record {
      can = tt;
      finite = tt;
      leads = λ is answer given q h k.
          rw c.look-again.ensures.watch (c.loop.invariant.leads (record { cause = c.in-Err.cause; given = w.0; waited = c.wait-answer.new.self; now = later; read = c.now-now.new.self; posted = posted } ∷ is) answer given q
          (interrupted O v t start (nanos_of c.loop.asked) c.loop.self.poller c.wait-answer.new.self c.now-now.new.self q w.0 given c.in-Err.cause later posted is answer w.1 (c.is_interruption.ensures.0 c.if-not-is_interruption.false) c.now-now.ensures.reads zero (rw (sym again) h)) k);
      others = ap (λ (b : BatchView). record c.loop.self { poller = c.now-now.new.self; batch = b; events = c.clear.new.self }) c.look-again.ensures.others
          ∙ ap (λ (s : Poll g.row.P.Denot g.row.C.Denot g.row.R.Denot). record s { poller = c.now-now.new.self; batch = record s.batch { watch = c.look-again.new.self.watch }; events = c.clear.new.self }) c.loop.invariant.others;
      faults = c.now-now.ensures.faults ∙ (c.in-Err.ensures.faults.0 (c.is_interruption.ensures.0 c.if-not-is_interruption.false) ∙ c.loop.invariant.faults);
      events = c.clear.ensures.items;
      room = omega (arith, c.loop.invariant.room, c.in-Err.ensures.room, c.clear.ensures.capacity);
    }
