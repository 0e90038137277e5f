use Rattle.std.proofs.Common.{◌≡◌, ◌≤◌, length}
use Rattle.calloop_test_sources.proofs.several.SeveralEventSource.before_sleep.Given as goal

abbrev pub invariant-loop-token : goal.invariant-loop-token
invariant-loop-token g l = record {
  lent : l.out ≡ record l.initial.out { given = l.out.given };
  within : length l.initial.out.given ≤ l.initial.out.limit → length l.out.given ≤ l.out.limit;
}
