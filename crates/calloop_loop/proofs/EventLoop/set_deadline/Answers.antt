use Rattle.std.proofs.Common.{[], refl, sym, ◌∙◌}
use Rattle.calloop_slots.specs.Slots.{content_at}
use Rattle.calloop_loop.specs.Machine.{view_of}
use Rattle.calloop_loop.specs.Rules.{DeadlineSetBy}
use Rattle.calloop_loop.proofs.ServedAsks.{own_is, other_is, one_done}
use Rattle.calloop_loop.proofs.EventLoop.set_deadline.Goals as goal

pub returns-then-is_in_turn : goal.returns-then-is_in_turn
returns-then-is_in_turn g c =
    let mine = sym c.is_in_turn.ensures ∙ c.if-is_in_turn.true in
    ([], own_is _ (content_at c.args.self.now.sources c.args.token) mine (refl, refl), tt, refl)

pub returns : goal.returns
returns g c =
    let other = sym c.is_in_turn.ensures ∙ c.if-is_in_turn.false in
    let R = DeadlineSetBy g.D.Dispatch.means c.args.token c.args.deadline c.rearm.result in
    let d = one_done g.P.Poller.outside R (view_of c.args.self.now) (view_of c.rearm.new.self) c.rearm.ensures in
    (d.0, other_is _ (content_at c.args.self.now.sources c.args.token) other d.1, d.2, d.3)
