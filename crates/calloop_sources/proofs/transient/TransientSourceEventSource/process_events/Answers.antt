use Rattle.std.proofs.Common.{rules, refl, []}
use Rattle.calloop_sources.proofs.transient.TransientSourceEventSource.process_events.Goals as goal

pub returns-in_default : goal.returns-in_default
returns-in_default g c = ([], ([], search rules, (tt, refl)), (refl, refl, refl))
