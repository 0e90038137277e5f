use Rattle.std.proofs.Common.{[], ◌∷◌, refl, sym, ◌∙◌}
use Rattle.calloop_sources.specs.declared.sources.source.PostAction.TheVariants.{Reregister, Disable}
use Rattle.calloop_slots.specs.Slots.{content_at}
use Rattle.calloop_loop.specs.Held.{Pend}
use Rattle.calloop_loop.specs.Machine.{Holds}
use Rattle.calloop_loop.proofs.ServedAsks.{own_is}
use Rattle.calloop_loop.proofs.EventLoop.carry_out_change.Goals as goal
use Rattle.calloop_loop.proofs.EventLoop.carry_out_change.Goals.{in-Update, in-Disable}

pub returns : goal.returns
returns g c =
    let own = sym c.is_in_turn.ensures ∙ c.if-not-is_in_turn.false in
    let here = content_at c.args.self.now.sources c.args.token in
    elim c.match-call.branch [
      | in-Update w ↦ rw (w.in-Update.is, w.self-is) (Holds (Pend Reregister) ∷ [], own_is _ here own (refl, refl), (tt, tt), refl)
      | in-Disable w ↦ rw (w.in-Disable.is, w.self-is) (Holds (Pend Disable) ∷ [], own_is _ here own (refl, refl), (tt, tt), refl)
    ]
