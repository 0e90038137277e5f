use Rattle.calloop_loop.specs.Machine.{view_of}
use Rattle.calloop_loop.specs.Rules.{Once, UpdatedBy}
use Rattle.calloop_loop.proofs.Seen.{did_leads}
use Rattle.calloop_loop.proofs.LoopHandle.update.Goals as goal

pub returns-clause-machine : goal.returns-clause-machine
returns-clause-machine g c = did_leads (Once g.P.Poller.outside (UpdatedBy g.D.Dispatch.means c.args.token.now c.change_registration.result)) (view_of c.args.self.now.inner.now) (view_of c.change_registration.new.self) c.change_registration.ensures.case
