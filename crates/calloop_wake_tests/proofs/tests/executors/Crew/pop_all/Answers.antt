use Rattle.std.proofs.Common.{sym, ◌∙◌}
use Rattle.calloop_wake.specs.Executors.{most_tasks}
use Rattle.calloop_wake.proofs.Ending.{turn_over}
use Rattle.calloop_wake_tests.proofs.tests.executors.Crew.pop_all.Goals as goal

pub end_turn-debt-requires-clause-over : goal.end_turn-debt-requires-clause-over
end_turn-debt-requires-clause-over g c = turn_over _ _ most_tasks (c.loop-self.invariant.bound) (sym c.goes_on.ensures ∙ c.loop-self-test.false)
