use Rattle.calloop_loop.specs.Machine.{view_of}
use Rattle.calloop_loop.specs.Rules.{Once, InsertedBy, held_answer}
use Rattle.calloop_loop.proofs.Seen.{did_leads}
use Rattle.calloop_loop.proofs.LoopHandle.insert_source.Goals as goal

pub returns-clause-machine : goal.returns-clause-machine
returns-clause-machine g c =
    did_leads (Once g.P.Poller.outside (InsertedBy g.D.Dispatch.means (g.D.Choice.held (record { source = c.args.source; callback = c.args.callback })) (held_answer g.D.Choice.held c.args.callback c.insert_source.result)))
    (view_of c.args.self.now.inner.now) (view_of c.insert_source.new.self) c.insert_source.ensures.case
