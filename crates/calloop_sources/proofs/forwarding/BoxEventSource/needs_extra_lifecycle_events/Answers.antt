use Rattle.calloop_sources.proofs.forwarding.BoxEventSource.needs_extra_lifecycle_events.Goals as goal

pub returns : goal.returns
returns g c = λ s. c.needs_extra_lifecycle_events.ensures s.value
