use Rattle.std.proofs.Common.{rules, sym, [], refl, arith}
use Rattle.std.proofs.lemmas.List.{append-nil}
use Rattle.calloop_poll.specs.sys.Pollers.{nanos_of}
use Rattle.calloop_script.proofs.Scripted.{interrupted, faulted}
use Rattle.calloop_script.proofs.ScriptPollerPoller.wait.Goals as goal

pub returns-in-Interrupted-clause-waits : goal.returns-in-Interrupted-clause-waits
returns-in-Interrupted-clause-waits c = (
  [],
  record {
    answered = interrupted _ _ c.in-Some.answer c.args.self.now.moment.nanos (nanos_of c.args.timeout) c.from.result (rw c.note.ensures.answers at c.in-Some.ensures.items) c.in-Interrupted.is c.from.ensures;
    timeout = c.args.timeout;
    asked_is = refl;
    noted = c.note.ensures.waits;
    room = c.note.ensures.room;
    calls = c.note.ensures.calls;
    failing = c.note.ensures.failing;
    shown = c.note.ensures.shown;
    signal = c.note.ensures.signal;
  },
  sym (append-nil c.args.events.now.items),
  omega (arith),
)

pub returns-in-Fault-clause-waits : goal.returns-in-Fault-clause-waits
returns-in-Fault-clause-waits c = (
  [],
  record {
    answered = faulted _ _ c.in-Some.answer c.args.self.now.moment.nanos (nanos_of c.args.timeout) c.other.result (rw c.note.ensures.answers at c.in-Some.ensures.items) c.in-Fault.is c.other.ensures.kind;
    timeout = c.args.timeout;
    asked_is = refl;
    noted = c.note.ensures.waits;
    room = c.note.ensures.room;
    calls = c.note.ensures.calls;
    failing = c.note.ensures.failing;
    shown = c.note.ensures.shown;
    signal = c.note.ensures.signal;
  },
  sym (append-nil c.args.events.now.items),
  omega (arith),
)

pub returns-in-Some-timeout-clause-waits : goal.returns-in-Some-timeout-clause-waits
returns-in-Some-timeout-clause-waits c = (
  [],
  record {
    answered = search rules;
    timeout = c.args.timeout;
    asked_is = refl;
    noted = c.note.ensures.waits;
    room = c.note.ensures.room;
    calls = c.note.ensures.calls;
    failing = c.note.ensures.failing;
    shown = c.note.ensures.shown;
    signal = c.note.ensures.signal;
  },
  sym (append-nil c.args.events.now.items),
  omega (arith),
)

pub returns-in_default-timeout-clause-waits : goal.returns-in_default-timeout-clause-waits
returns-in_default-timeout-clause-waits c = (
  [],
  record {
    answered = search rules;
    timeout = c.args.timeout;
    asked_is = refl;
    noted = c.note.ensures.waits;
    room = c.note.ensures.room;
    calls = c.note.ensures.calls;
    failing = c.note.ensures.failing;
    shown = c.note.ensures.shown;
    signal = c.note.ensures.signal;
  },
  sym (append-nil c.args.events.now.items),
  omega (arith),
)

pub returns-in-Fault-clause-faults : goal.returns-in-Fault-clause-faults
returns-in-Fault-clause-faults c = (λ is. absurd cc, λ _. cc)
