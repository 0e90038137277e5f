use Rattle.std.proofs.Common.{refl, inr, []}
use Rattle.calloop_test_sources.proofs.guarded.GuardedEventSource.process_events.Goals as goal

pub returns-then-self-gt0 : goal.returns-then-self-gt0
returns-then-self-gt0 g c = ([], ([], inr (refl, refl, refl, refl), (tt, refl)), (refl, refl, refl))
