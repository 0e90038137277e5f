use Rattle.std.proofs.Common.{[], ◌∷◌, refl, sym, ◌∙◌}
use Rattle.calloop_slots.specs.declared.list.Content.TheVariants.{Vacant}
use Rattle.calloop_slots.specs.Slots.{content_at}
use Rattle.calloop_loop.specs.declared.asks.Answer.TheVariants.{Removed}
use Rattle.calloop_loop.specs.Held.{Unlisted, Owe}
use Rattle.calloop_loop.specs.Machine.{Put, Holds, view_of}
use Rattle.calloop_loop.specs.Rules.{RemovedBy}
use Rattle.calloop_loop.proofs.Going.{full_named}
use Rattle.calloop_loop.proofs.ServedAsks.{own_is, other_is, turn_full, closed, one_done}
use Rattle.calloop_loop.proofs.EventLoop.serve_removal.Goals as goal

pub returns-then-is_in_turn : goal.returns-then-is_in_turn
returns-then-is_in_turn g c =
    let ss = c.args.self.now.sources in
    let mine = sym c.is_in_turn.ensures ∙ c.if-is_in_turn.true in (
      Put c.args.token.slot Vacant ∷ Holds (Unlisted c.args.token) ∷ Holds Owe ∷ [],
      own_is _ (content_at ss c.args.token) mine refl,
      (full_named ss c.args.token (turn_full (content_at ss c.args.token) mine), (tt, (tt, tt))),
      rw (c.vacate.ensures, c.leave.ensures, c.owe.ensures, c.keep_none_for.ensures, mine) refl,
    )

pub returns : goal.returns
returns g c =
    let ss = c.args.self.now.sources in
    let other = sym c.is_in_turn.ensures ∙ c.if-is_in_turn.false in
    let R = RemovedBy g.D.Dispatch.means c.args.token c.remove-answer.result in
    let d = closed g.P.Poller.outside R (view_of c.args.self.now) (view_of c.remove-answer.new.self) (Removed c.remove-answer.result) (one_done g.P.Poller.outside R (view_of c.args.self.now) (view_of c.remove-answer.new.self) c.remove-answer.ensures.case) in
    rw c.put_answer.ensures (_, other_is _ (content_at ss c.args.token) other (c.remove-answer.result, d.0, d.1, refl), d.2, d.3)
