use Rattle.std.proofs.Common.{rules, ◌≡◌, [], List, ℤ, Option, true, false, Result, Ok, Err, refl}
use Rattle.std.specs.declared.io.Error.{Error as Cause}
use denote.Enum.Bare.{sameb}
use mathlib.Core.Bool.{not}
use Rattle.calloop_slots.specs.declared.error.Error.TheVariants.{IoError}
use Rattle.calloop_slots.specs.declared.token.Token.{Token}
use Rattle.calloop_poll.specs.declared.sys.Mode.{Mode}
use Rattle.calloop_poll.specs.declared.sys.Mode.TheVariants.{OneShot, Level, Edge}
use Rattle.calloop_sources.specs.declared.sources.source.PostAction.{PostAction}
use Rattle.calloop_sources.specs.declared.generic.Generic.{Generic}
use Rattle.calloop_poll.specs.contracts.sys.Mode.{the_type}
use Rattle.calloop_poll.specs.sys.Pollers.{Sockets}
use Rattle.calloop_poll.specs.sys.SocketCalls.{Edits}
use Rattle.calloop_poll.specs.sys.Tables.{Change}
use Rattle.calloop_poll.specs.sys.Polls.{PollView, PollStep, poll_view}
use Rattle.calloop_sources.specs.Generics.{ArmedBy, watched_by}
use Rattle.calloop_sources.proofs.generic.Generic.arm_again.Goals as goal

module _ {P F E : Type 0} (sockets : Sockets P) (raw_fd : F → Option ℤ) (gives : Cause → E → Type 0) where
  quiet : (m : Mode) (token : Token) (s : Generic F E) (v : PollView P) (action : PostAction) → true ≡ not (sameb the_type m Level)
      → ArmedBy sockets raw_fd gives m token s v action (Ok action) [] s
  quiet OneShot token s v action is = (refl, refl, refl)
  quiet Edge token s v action is = (refl, refl, refl)
  quiet Level token s v action is = absurd (cc)

  armed : (m : Mode) (token : Token) (s t : Generic F E) (v : PollView P) (action : PostAction) (answer : Result PostAction E) (steps : List (PollStep P))
      → false ≡ not (sameb the_type m Level) → ArmedBy sockets raw_fd gives Level token s v action answer steps t → ArmedBy sockets raw_fd gives m token s v action answer steps t
  armed OneShot token s t v action answer steps is by = absurd (cc)
  armed Edge token s t v action answer steps is by = absurd (cc)
  armed Level token s t v action answer steps is by = by

pub returns-then-ne : goal.returns-then-ne
returns-then-ne g c =
    ([], quiet g.P.Poller.sockets g.F.AsRawFd.raw_fd g.E.From.from_gives _ c.args.token c.args.self.now (poll_view c.args.poll.now) c.args.action c.if-ne.ensures, (tt, refl))

pub returns-in-Ok : goal.returns-in-Ok
returns-in-Ok g c =
    let edits : Edits g.P.Poller.sockets (poll_view c.args.poll.now) (Change c.args.token c.args.token (watched_by c.args.self.now)) c.as_raw_fd.result (Ok tt) c.in-Ok.ensures.edit.0 = search (rules, c.in-Ok.ensures.edit.1) in (
      c.in-Ok.ensures.edit.0,
      armed g.P.Poller.sockets g.F.AsRawFd.raw_fd g.E.From.from_gives _ c.args.token c.args.self.now _ (poll_view c.args.poll.now) c.args.action _ _ c.if-ne.ensures
          (Ok tt, c.as_raw_fd.result, c.as_raw_fd.ensures.number, edits, refl, refl),
      c.in-Ok.ensures.edit.2,
    )

pub returns-in-Err : goal.returns-in-Err
returns-in-Err g c =
    let edits : Edits g.P.Poller.sockets (poll_view c.args.poll.now) (Change c.args.token c.args.token (watched_by c.args.self.now)) c.as_raw_fd.result (Err (IoError c.in-Err.cause)) c.in-Err.ensures.edit.0 = search (rules, c.in-Err.ensures.edit.1) in (
      c.in-Err.ensures.edit.0,
      armed g.P.Poller.sockets g.F.AsRawFd.raw_fd g.E.From.from_gives _ c.args.token c.args.self.now _ (poll_view c.args.poll.now) c.args.action _ _ c.if-ne.ensures
          (Err (IoError c.in-Err.cause), c.as_raw_fd.result, c.as_raw_fd.ensures.number, edits, refl, (c.in-Err.cause, c.from.result, refl, c.from.ensures, refl)),
      c.in-Err.ensures.edit.2,
    )
