use Rattle.std.proofs.Common.{[], ◌∷◌, refl}
use Rattle.calloop_loop.specs.declared.asks.Answer.TheVariants.{Done}
use Rattle.calloop_loop.specs.declared.asks.Request.TheVariants.{SetDeadline}
use Rattle.calloop_loop.specs.Held.{IdleIn, IdleOut, Told}
use Rattle.calloop_loop.specs.Machine.{Holds, view_of}
use Rattle.calloop_loop.specs.Rules.{InsertedBy, ServedAs, done_answer, inserted_answer}
use Rattle.calloop_loop.proofs.ServedAsks.{closed, one_done}
use Rattle.calloop_loop.proofs.EventLoop.serve.Goals as goal

pub returns-in-Insert : goal.returns-in-Insert
returns-in-Insert g c =
    let answer = c.insert-answer.result in
    let R = InsertedBy g.D.Dispatch.means c.in-Insert.dispatcher answer in
    let v = view_of c.args.self.now in
    let u = view_of c.insert-answer.new.self in
    let d = closed g.P.Poller.outside R v u (inserted_answer answer) (one_done g.P.Poller.outside R v u c.insert-answer.ensures.case) in
    rw (c.in-Insert.is, c.put_answer.ensures, c.inserted_answer.ensures) (_, (answer, d.0, d.1, refl), d.2, d.3)

pub returns-in-SetDeadline : goal.returns-in-SetDeadline
returns-in-SetDeadline g c =
    let answer = c.set_deadline-answer.result in
    let R = ServedAs g.D.Dispatch.means (SetDeadline c.in-SetDeadline.token c.in-SetDeadline.deadline) answer in
    let d = closed g.P.Poller.outside R (view_of c.args.self.now) (view_of c.set_deadline-answer.new.self) (done_answer answer) c.set_deadline-answer.ensures in
    rw (c.in-SetDeadline.is, c.put_answer-in-SetDeadline.ensures, c.done_answer.ensures) (_, (answer, d.0, d.1, refl), d.2, d.3)

pub returns-in-Idle : goal.returns-in-Idle
returns-in-Idle g c = rw (c.in-Idle.is, c.put_idle.ensures) (Holds (IdleIn c.in-Idle.idle) ∷ [], refl, (tt, tt), refl)

pub returns-in-Cancel : goal.returns-in-Cancel
returns-in-Cancel g c = rw (c.in-Cancel.is, c.put_answer-in-Cancel.ensures, c.take_out_idle.ensures) (Holds (IdleOut c.in-Cancel.ticket) ∷ Holds (Told Done) ∷ [], refl, (tt, (tt, tt)), refl)
