use Rattle.calloop_loop.specs.Machine.{view_of}
use Rattle.calloop_loop.specs.Rules.{Once, IdleInsertedBy}
use Rattle.calloop_loop.proofs.Seen.{did_leads}
use Rattle.calloop_loop.proofs.LoopHandle.insert_idle.Goals as goal

pub returns-clause-machine : goal.returns-clause-machine
returns-clause-machine g c = did_leads (Once g.P.Poller.outside (IdleInsertedBy c.args.idle c.insert_idle.result)) (view_of c.args.self.now.inner.now) (view_of c.insert_idle.new.self) c.insert_idle.ensures
