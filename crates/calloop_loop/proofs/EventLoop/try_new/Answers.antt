use Rattle.std.proofs.Common.{[], List, refl, sym, ap, ◌∙◌, None}
use Rattle.std.specs.Arc.{arc_value}
use Rattle.calloop_slots.specs.declared.error.Error.{Error}
use Rattle.calloop_slots.specs.declared.list.Slot.{Slot}
use Rattle.calloop_slots.specs.declared.token.RegistrationToken.{RegistrationToken}
use Rattle.calloop_sources.specs.declared.sources.source.PostAction.TheVariants.{Continue}
use Rattle.calloop_loop.specs.declared.stops.StopNote.{StopNote}
use Rattle.calloop_loop.specs.Askings.{Asks, no_asks}
use Rattle.calloop_loop.specs.Held.{Held}
use Rattle.calloop_loop.specs.Ledgers.{new_ledger}
use Rattle.calloop_poll.specs.sys.Polls.{PollView, poll_view}
use Rattle.calloop_loop.proofs.EventLoop.try_new.Goals as goal

pub returns : goal.returns
returns g c =
    let watch = (poll_view c.in_ok-new.field-0).watch in
    let signal = (arc_value c.in_ok-new-2.field-0.shared).name in
    let new : PollView g.row.P.Denot =
    record { poller = c.args.poller; table = []; deadlines = record { entries = []; next = 0 }; batch = []; passes = []; pass = None; places = 0; watch = record { name = watch.name; notes = [] } } in
    let none : Held g.row.D.Denot g.row.D-Idle.Denot = record { lifecycle = []; pending = Continue; asks = no_asks; warnings = []; stops = [] } in
    let warnings = c.new-5.result.errors.items in
    record {
      new = (
        record { slots = []; poll = new; held = none; handed = []; ledger = new_ledger; signal = signal },
        record { slots = refl; table = refl; deadlines = refl; batch = refl; passes = refl; pass = refl; places = refl; unwatched = refl; held = refl; handed = refl; ledger = refl },
        sym
            (ap (λ (s : List (Slot g.row.D.Denot)). record { slots = s; poll = poll_view c.in_ok-new.field-0; held = record { lifecycle = c.new-3.result.tokens.items; pending = Continue; asks = c.numbered_from.result; warnings = warnings; stops = c.none.result }; signal = signal }) c.new.ensures
            ∙ ap (λ (p : PollView g.row.P.Denot). record { slots = []; poll = p; held = record { lifecycle = c.new-3.result.tokens.items; pending = Continue; asks = c.numbered_from.result; warnings = warnings; stops = c.none.result }; signal = signal }) c.in_ok-new.ensures.ok
            ∙ ap (λ (l : List RegistrationToken). record { slots = []; poll = new; held = record { lifecycle = l; pending = Continue; asks = c.numbered_from.result; warnings = warnings; stops = c.none.result }; signal = signal }) c.new-3.ensures
            ∙ ap (λ (q : Asks g.row.D.Denot g.row.D-Idle.Denot). record { slots = []; poll = new; held = record { lifecycle = []; pending = Continue; asks = q; warnings = warnings; stops = c.none.result }; signal = signal }) c.numbered_from.ensures
            ∙ ap (λ (es : List Error). record { slots = []; poll = new; held = record { lifecycle = []; pending = Continue; asks = no_asks; warnings = es; stops = c.none.result }; signal = signal }) c.new-5.ensures
            ∙ ap (λ (ns : List StopNote). record { slots = []; poll = new; held = record { lifecycle = []; pending = Continue; asks = no_asks; warnings = []; stops = ns }; signal = signal }) c.none.ensures),
      );
      poller = ap (λ p. p.poller) c.in_ok-new.ensures.ok;
      clock = c.in_ok-new.ensures.clock;
      err = tt;
    }
