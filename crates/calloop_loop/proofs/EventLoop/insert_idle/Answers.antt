use Rattle.calloop_loop.specs.Machine.{view_of}
use Rattle.calloop_loop.proofs.Inserting.{idle_added}
use Rattle.calloop_loop.proofs.EventLoop.insert_idle.Goals as goal

pub returns : goal.returns
returns g c =
    idle_added g.D.Dispatch.means g.D.Idle.IdleCallback.runs g.P.Poller.outside (view_of c.args.self.now) c.args.idle c.add_idle.result c.add_idle.new.self c.add_idle.ensures.ok c.add_idle.ensures.err
