use Rattle.calloop_loop.specs.Machine.{view_of}
use Rattle.calloop_loop.specs.Registering.{request_for}
use Rattle.calloop_loop.specs.Rules.{ServedAs, done_answer}
use Rattle.calloop_loop.proofs.ServedAsks.{change_served, closed}
use Rattle.calloop_loop.proofs.EventLoop.serve_change.Goals as goal

pub returns : goal.returns
returns g c =
    let answer = c.carry_out_change-answer.result in
    let v = view_of c.args.self.now in
    let d = closed g.P.Poller.outside (ServedAs g.D.Dispatch.means (request_for c.args.call c.args.token) answer) v (view_of c.carry_out_change-answer.new.self) (done_answer answer) c.carry_out_change-answer.ensures in
    rw (c.put_answer.ensures, c.done_answer.ensures) (_, change_served g.D.Dispatch.means g.P.Poller.outside c.args.call c.args.token answer v d.0 d.1, d.2, d.3)
