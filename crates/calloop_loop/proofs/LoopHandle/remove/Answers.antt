use Rattle.calloop_loop.specs.Machine.{view_of}
use Rattle.calloop_loop.specs.Rules.{Once, RemovedBy}
use Rattle.calloop_loop.proofs.Seen.{did_leads}
use Rattle.calloop_loop.proofs.LoopHandle.remove.Goals as goal

pub returns-clause-machine : goal.returns-clause-machine
returns-clause-machine g c = did_leads (Once g.P.Poller.outside (RemovedBy g.D.Dispatch.means c.args.token c.remove.result)) (view_of c.args.self.now.inner.now) (view_of c.remove.new.self) c.remove.ensures.case
