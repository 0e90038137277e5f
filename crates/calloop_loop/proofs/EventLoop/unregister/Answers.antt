use Rattle.std.proofs.Common.{List, ap, ◌∙◌}
use Rattle.calloop_slots.specs.declared.token.RegistrationToken.{RegistrationToken}
use Rattle.calloop_poll.specs.sys.Polls.{PollView, poll_view}
use Rattle.calloop_loop.specs.Askings.{Asks, none_kept_for}
use Rattle.calloop_loop.specs.Held.{Unlisted, held_after}
use Rattle.calloop_loop.specs.Machine.{View, view_of}
use Rattle.calloop_loop.proofs.EventLoop.unregister.Goals as goal

pub returns-clause-deed : goal.returns-clause-deed
returns-clause-deed g c =
    let v : View g.row.D.Denot g.row.D-Idle.Denot g.row.P.Denot = view_of c.args.self.now in
    let r = c.unregister-answer.ensures in (
      r.0,
      r.1,
      r.2.0,
      ap (λ (q : Asks g.row.D.Denot g.row.D-Idle.Denot). record v { slots = v.slots; poll = poll_view c.unregister-answer.new.poll; held = record v.held { lifecycle = c.leave.new.self.tokens.items; asks = q } }) c.keep_none_for.ensures
          ∙ ap (λ (l : List RegistrationToken). record v { slots = v.slots; poll = poll_view c.unregister-answer.new.poll; held = record v.held { lifecycle = l; asks = none_kept_for c.args.token v.held.asks } }) c.leave.ensures
          ∙ ap (λ (p : PollView g.row.P.Denot). record v { slots = v.slots; poll = p; held = held_after v.held (Unlisted c.args.token) }) r.2.1,
    )
