use Rattle.std.proofs.Common.{sym}
use Rattle.calloop_sources.proofs.sources.dispatch.DispatcherDispatch.needs_extra_lifecycle_events.Goals as goal

pub returns : goal.returns
returns g c = sym (c.needs_extra_lifecycle_events.ensures c.args.self.now.source)
