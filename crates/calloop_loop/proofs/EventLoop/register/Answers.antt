use Rattle.std.proofs.lemmas.Result.{err_from_is_err_and}
use Rattle.calloop_poll.specs.sys.Polls.{polls_after}
use Rattle.std.proofs.Common.{◌&&◌, List, [], true, inl, inr, refl, ap, ◌∙◌}
use Rattle.calloop_slots.specs.declared.token.RegistrationToken.{RegistrationToken}
use Rattle.calloop_poll.specs.sys.Polls.{PollView, poll_view}
use Rattle.calloop_loop.specs.Held.{Held, Listed, held_after}
use Rattle.calloop_loop.specs.Machine.{View, view_of}
use Rattle.calloop_loop.proofs.RegisteredEntries.{entered_done, entered_not}
use Rattle.calloop_loop.proofs.EventLoop.register.Goals as goal

pub returns : goal.returns
returns g c =
    let v : View g.row.D.Denot g.row.D-Idle.Denot g.row.P.Denot = view_of c.args.self.now in
    let needs = g.D.Dispatch.means.needs c.args.source.now in
    let r = rw c.new-factory.ensures at c.in_ok-register_source.ensures in
    let entry = entered_done needs c.args.token v.held c.enter.new.self.tokens.items (rw (c.needs_extra_lifecycle_events-needed.ensures, c.reserve_for.ensures.same) at c.enter.ensures) in (
      r.0,
      inr (c.register_source.new.factory, r.1),
      r.2.0,
      ap (λ (h : Held g.row.D.Denot g.row.D-Idle.Denot). record v { slots = v.slots; poll = poll_view c.register_source.new.poll; held = h }) entry
          ∙ ap (λ (p : PollView g.row.P.Denot). record v { slots = v.slots; poll = p; held = held_after v.held (Listed (needs && true) c.args.token) }) r.2.1,
    )

pub returns-in_err-register_source : goal.returns-in_err-register_source
returns-in_err-register_source g c =
    let v : View g.row.D.Denot g.row.D-Idle.Denot g.row.P.Denot = view_of c.args.self.now in
    let p = err_from_is_err_and c.from_residual.result c.from_residual.ensures.1 in
    let r = rw c.new-factory.ensures at c.in_err-register_source.ensures in
    let entry = entered_not (g.D.Dispatch.means.needs c.args.source.now) c.args.token v.held in
    rw p.1 (
      r.0,
      inr (c.register_source.new.factory, r.1),
      r.2.0,
      ap (λ (l : List RegistrationToken). record v { slots = v.slots; poll = poll_view c.register_source.new.poll; held = record v.held { lifecycle = l } }) c.reserve_for.ensures.same
          ∙ ap (λ (q : PollView g.row.P.Denot). record v { poll = q }) r.2.1
          ∙ ap (λ (h : Held g.row.D.Denot g.row.D-Idle.Denot). record v { slots = v.slots; poll = polls_after v.poll r.0; held = h }) entry,
    )

pub returns-in-Err : goal.returns-in-Err
returns-in-Err g c =
    let v : View g.row.D.Denot g.row.D-Idle.Denot g.row.P.Denot = view_of c.args.self.now in
    let err = rw c.needs_extra_lifecycle_events-needed.ensures at c.in-Err.ensures.err in
    let entry = entered_not (g.D.Dispatch.means.needs c.args.source.now) c.args.token v.held in (
      [],
      inl (err.0, refl, refl, refl, err.1),
      tt,
      ap (λ (l : List RegistrationToken). record v { held = record v.held { lifecycle = l } }) c.in-Err.ensures.same ∙ ap (λ (h : Held g.row.D.Denot g.row.D-Idle.Denot). record v { held = h }) entry,
    )
