use Rattle.std.proofs.Common.{◌≡◌, ◌++◌, refl, ap, sym, subst, arith}
use Rattle.calloop_slots.specs.Deadlines.{due}
use Rattle.calloop_wake.specs.Boards.{IsRising}
use Rattle.calloop_poll.specs.sys.Polls.{posted_events, polled_events, timer_events}
use Rattle.calloop_poll.specs.sys.Batches.{BatchView}
use Rattle.calloop_wake.proofs.Keyed.{are_of-taken}
use Rattle.calloop_poll.proofs.Gathering.{keys-new, events-gathered, events-polled, last_within, step-gathered}
use Rattle.calloop_poll.proofs.sys.poll.batch.Batch.gather.Goals as goal

pub append_posted-requires-clause-room : goal.append_posted-requires-clause-room
append_posted-requires-clause-room g c =
    omega (arith, c.requires.room, ap (λ (b : BatchView). b.room) c.self.view_is, c.len-first.ensures, c.unpost.ensures.keys.few, c.unpost.ensures.keys.counted)

pub append_posted-requires-clause-tokens : goal.append_posted-requires-clause-tokens
append_posted-requires-clause-tokens g c =
    let keys = c.unpost.ensures.keys.posted in
    subst IsRising (sym (keys-new c.self.inside.hub.name c.self.inside.passes.items c.unpost.new.passes.items keys c.len-first.result (omega (arith, c.len-first.ensures, c.self.inside.passes.ok.0)) c.unpost.ensures.keys.appended)) c.unpost.ensures.keys.rising

pub append_polled-requires : goal.append_polled-requires
append_polled-requires g c =
    omega (arith, c.requires.room, ap (λ (b : BatchView). b.room) c.self.view_is, c.len-first.ensures, c.unpost.ensures.keys.few, c.unpost.ensures.keys.counted, c.append_posted.ensures.len, c.append_posted.ensures.capacity)

pub append_due-requires : goal.append_due-requires
append_due-requires g c =
    omega (arith, c.requires.room, ap (λ (b : BatchView). b.room) c.self.view_is, c.len-first.ensures, c.unpost.ensures.keys.few, c.unpost.ensures.keys.counted, c.append_posted.ensures.len, c.append_posted.ensures.capacity, c.append_polled.ensures.len, c.append_polled.ensures.capacity)

pub invariant_of-self : goal.invariant_of-self
invariant_of-self g c =
    let keys = c.unpost.ensures.keys.posted in
    let entries = due c.args.now.nanos c.args.wheel.now.entries in
    let all : c.append_due.new.batch.items ≡ ((c.self.inside.events.items ++ posted_events keys) ++ polled_events c.args.given.now) ++ timer_events entries =
    events-gathered c.self.inside.hub.name c.self.inside.events.items c.append_posted.new.batch.items c.append_polled.new.batch.items c.append_due.new.batch.items c.self.inside.passes.items c.unpost.new.passes.items
    keys c.len-first.result c.args.given.now entries (omega (arith, c.len-first.ensures, c.self.inside.passes.ok.0)) c.unpost.ensures.keys.appended c.append_posted.ensures.items
    c.append_polled.ensures.items c.append_due.ensures.items in
    let polled : c.append_polled.new.batch.items ≡ (c.self.inside.events.items ++ posted_events keys) ++ polled_events c.args.given.now =
    events-polled c.self.inside.hub.name c.self.inside.events.items c.append_posted.new.batch.items c.append_polled.new.batch.items c.self.inside.passes.items c.unpost.new.passes.items keys c.len-first.result c.args.given.now
    (omega (arith, c.len-first.ensures, c.self.inside.passes.ok.0)) c.unpost.ensures.keys.appended c.append_posted.ensures.items c.append_polled.ensures.items in
    rw (c.last_polled-self-inside.ensures, polled, all, c.unpost.ensures.keys.appended, c.unpost.ensures.keys.seen) (record {
      in_step = step-gathered c.self.inside.hub.name c.self.inside.events.items c.self.inside.passes.items keys c.args.given.now entries c.self.invariant.in_step;
      own = are_of-taken c.self.inside.hub.name c.self.inside.passes.items keys c.self.invariant.own;
      own_turn = c.self.invariant.own_turn;
      within = last_within c.self.inside.polled c.args.given.now c.self.inside.events.items (posted_events keys) (polled_events c.args.given.now) (timer_events entries) c.self.invariant.within;
    })

pub returns-clause-batch : goal.returns-clause-batch
returns-clause-batch g c =
    let keys = c.unpost.ensures.keys.posted in
    let entries = due c.args.now.nanos c.args.wheel.now.entries in
    let all : c.append_due.new.batch.items ≡ ((c.self.inside.events.items ++ posted_events keys) ++ polled_events c.args.given.now) ++ timer_events entries =
    events-gathered c.self.inside.hub.name c.self.inside.events.items c.append_posted.new.batch.items c.append_polled.new.batch.items c.append_due.new.batch.items c.self.inside.passes.items c.unpost.new.passes.items
    keys c.len-first.result c.args.given.now entries (omega (arith, c.len-first.ensures, c.self.inside.passes.ok.0)) c.unpost.ensures.keys.appended c.append_posted.ensures.items
    c.append_polled.ensures.items c.append_due.ensures.items in
    let polled : c.append_polled.new.batch.items ≡ (c.self.inside.events.items ++ posted_events keys) ++ polled_events c.args.given.now =
    events-polled c.self.inside.hub.name c.self.inside.events.items c.append_posted.new.batch.items c.append_polled.new.batch.items c.self.inside.passes.items c.unpost.new.passes.items keys c.len-first.result c.args.given.now
    (omega (arith, c.len-first.ensures, c.self.inside.passes.ok.0)) c.unpost.ensures.keys.appended c.append_posted.ensures.items c.append_polled.ensures.items in
    (keys, (c.unpost.ensures.keys.rising, c.unpost.ensures.keys.few), rw (← c.self.view_is, c.last_polled-self-inside.ensures, polled, all, c.unpost.ensures.keys.appended, c.unpost.ensures.keys.seen) refl)
