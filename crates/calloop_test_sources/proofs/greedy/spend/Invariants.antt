use Rattle.calloop_test_sources.specs.Spending.{Spends}
use Rattle.calloop_test_sources.proofs.greedy.spend.Given as goal

abbrev pub invariant-loop-round : goal.invariant-loop-round
invariant-loop-round l = record { spends : Spends l.initial.factory l.factory }
