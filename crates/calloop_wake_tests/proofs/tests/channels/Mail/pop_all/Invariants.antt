use Rattle.std.proofs.Common.{◌≡◌}
use Rattle.calloop_wake_tests.proofs.tests.channels.Mail.pop_all.Given as goal

abbrev pub invariant-loop-self : goal.invariant-loop-self
invariant-loop-self g l = record {
  same : l.self.core.name ≡ l.fn.self.core.name;
  turn : l.turn.name ≡ l.fn.self.core.name;
}

abbrev pub decreases-loop-self : goal.decreases-loop-self
decreases-loop-self g l = l.turn.left
