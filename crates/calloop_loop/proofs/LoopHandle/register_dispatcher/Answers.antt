use Rattle.calloop_loop.specs.Machine.{view_of}
use Rattle.calloop_loop.specs.Rules.{Once, InsertedBy}
use Rattle.calloop_loop.proofs.Seen.{did_leads}
use Rattle.calloop_loop.proofs.LoopHandle.register_dispatcher.Goals as goal

pub returns-clause-machine : goal.returns-clause-machine
returns-clause-machine g c = did_leads (Once g.P.Poller.outside (InsertedBy g.D.Dispatch.means c.args.dispatcher c.insert.result)) (view_of c.args.self.now.inner.now) (view_of c.insert.new.self) c.insert.ensures.case
