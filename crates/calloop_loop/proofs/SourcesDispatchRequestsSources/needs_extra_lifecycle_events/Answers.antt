use Rattle.calloop_loop.proofs.SourcesDispatchRequestsSources.needs_extra_lifecycle_events.Goals as goal

pub returns : goal.returns
returns g c = c.needs_extra_lifecycle_events.ensures
