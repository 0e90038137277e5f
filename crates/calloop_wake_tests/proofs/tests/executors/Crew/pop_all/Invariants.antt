use Rattle.std.proofs.Common.{◌≡◌, ◌-◌, ◌≤◌, true, IsSome}
use Rattle.calloop_wake.specs.Executors.{most_tasks}
use Rattle.calloop_wake_tests.proofs.tests.executors.Crew.pop_all.Given as goal

abbrev pub invariant-loop-self : goal.invariant-loop-self
invariant-loop-self g l = record {
  same : l.self.core.name ≡ l.fn.self.core.name;
  turn : l.turn.name ≡ l.fn.self.core.name;
  bound : l.turn.progress.pops ≤ most_tasks;
  polled : l.finished ≡ true → IsSome l.turn.progress.polled;
}

abbrev pub decreases-loop-self : goal.decreases-loop-self
decreases-loop-self g l = most_tasks - l.turn.progress.pops
