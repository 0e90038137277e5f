use Rattle.std.proofs.Common.{refl}
use Rattle.calloop_sources.proofs.timer.TimerEventSource.needs_extra_lifecycle_events.Goals as goal

pub returns : goal.returns
returns g c = λ _. refl
