use Rattle.std.proofs.Common.{◌≡◌, ℕ, ◌+◌, ◌≤◌, List, [], Result, vec_capacity}
use Rattle.std.specs.declared.io.Error.{Error as Cause}
use Rattle.calloop_poll.specs.declared.sys.Readiness.{Readiness}
use Rattle.calloop_poll.specs.sys.Pollers.{nanos_of}
use Rattle.calloop_poll.specs.sys.Polls.{poll_view}
use Rattle.calloop_poll.specs.sys.Waits.{Interruption, Waits, Waited, after_looks}
use Rattle.calloop_poll.specs.sys.Pollers.{faults_of}
use Rattle.calloop_poll.proofs.sys.poll.Poll.wait.Given as goal

-- the result of the remaining waits is the result of the whole wait
abbrev pub invariant-loop : goal.invariant-loop
invariant-loop g l = record {
  can : (goal.iterator-loop g).can_next l.iterator';
  finite : (goal.iterator-loop g).is_finite l.iterator';
  leads : (is : List (Interruption g.row.P.Denot)) (answer : Result ℕ Cause) (given : List (ℕ × Readiness)) (q : g.row.P.Denot)
      → Waits g.P.Poller.outside (poll_view l.fn.self) (nanos_of l.timeout) l.start.nanos (nanos_of l.asked) l.self.poller is answer given q
      → g.P.Poller.outside.faults q ≡ g.P.Poller.outside.faults l.fn.self.poller + faults_of answer
      → Waited g.P.Poller.outside (poll_view l.fn.self) (nanos_of l.timeout) answer given q (after_looks is l.self.batch.watch);
  others : l.self ≡ record l.fn.self { poller = l.self.poller; batch = record l.fn.self.batch { watch = l.self.batch.watch }; events = l.self.events };
  faults : g.P.Poller.outside.faults l.self.poller ≡ g.P.Poller.outside.faults l.fn.self.poller;
  events : l.self.events.items ≡ [];
  room : 1024 ≤ vec_capacity l.self.events;
}
