use Rattle.std.proofs.Common.{◌≡◌}
use Rattle.calloop_slots.specs.Slots.{content_at, is_in_turn}
use Rattle.calloop_loop.specs.Machine.{view_of}
use Rattle.calloop_loop.proofs.Going.{returned, was_in_turn, not_in_turn}
use Rattle.calloop_loop.proofs.EventLoop.give_back.Goals as goal

pub returns-in_default-clause-machine : goal.returns-in_default-clause-machine
returns-in_default-clause-machine g c told x =
    let ss = c.args.self.now.sources in
    let here = was_in_turn (is_in_turn (content_at ss c.args.token)) c.args.source c.in_default.ensures.value in
    rw (c.in_default.ensures.list, here) (returned g.D.Dispatch.means g.D.Idle.IdleCallback.runs g.P.Poller.outside c.args.token (view_of c.args.self.now) c.args.source told x here)

pub returns-in-Some-clause-machine : goal.returns-in-Some-clause-machine
returns-in-Some-clause-machine g c told x =
    let ss = c.args.self.now.sources in
    let there = not_in_turn (is_in_turn (content_at ss c.args.token)) c.args.source c.in-Some.left c.in-Some.ensures.value in
    let ss' : c.end_turn.new.self ≡ ss = rw there.0 at c.in-Some.ensures.list in
    rw (there.1, ss') at (c.unregister_left.ensures.machine told x)
