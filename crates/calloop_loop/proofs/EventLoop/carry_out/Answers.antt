use Rattle.std.proofs.Common.{[], ◌∷◌, ◌∙◌, ap, refl}
use Rattle.calloop_loop.specs.Machine.{View, view_of, Holds, Polling}
use Rattle.calloop_loop.specs.Askings.{Take}
use Rattle.calloop_loop.specs.Held.{Asking, IdleOut}
use Rattle.calloop_poll.specs.sys.Polls.{with_new_poller}
use Rattle.calloop_loop.proofs.EventLoop.carry_out.Goals as goal

pub returns-in-Poller : goal.returns-in-Poller
returns-in-Poller g c =
    let v : View g.row.D.Denot g.row.D-Idle.Denot g.row.P.Denot = view_of c.args.self.now in
    ((Polling c.in-Poller.poller ∷ []) ∷ [], rw c.in-Poller.is (c.replace.ensures.value ∙ c.poller_mut.ensures.value, refl), ap (λ (p : g.row.P.Denot). record v { poll = with_new_poller p v.poll }) c.replace.ensures.after)

pub returns-in-Cancel : goal.returns-in-Cancel
returns-in-Cancel g c =
    rw (c.in-Cancel.is, c.take_out_idle.ensures, c.number.ensures, c.ticket.ensures) ((Holds (IdleOut c.in-Cancel.idle.ticket.number) ∷ []) ∷ [], refl, refl)

pub returns-in-Answer : goal.returns-in-Answer
returns-in-Answer g c =
    rw (c.in-Answer.is, c.answer.ensures.rest, c.answer.ensures.value) ((Holds (Asking (Take c.in-Answer.ticket.number ∷ [])) ∷ []) ∷ [], (refl, refl), refl)
