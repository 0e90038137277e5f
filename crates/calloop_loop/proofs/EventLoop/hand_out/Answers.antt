use Rattle.std.proofs.Common.{◌≡◌, length, ◌∙◌, ap, sym, subst, refl, arith, None, Some, List, false}
use Rattle.calloop_slots.specs.declared.list.Content.TheVariants.{Source, InTurn}
use Rattle.calloop_slots.specs.declared.token.RegistrationToken.{RegistrationToken}
use Rattle.calloop_slots.specs.declared.list.Slot.{Slot}
use Rattle.calloop_slots.specs.Slots.{with_change, with_content, content_at, source_of, is_empty}
use Rattle.calloop_slots.specs.Tokens.{registration_of}
use Rattle.calloop_slots.proofs.Named.{named_changed}
use Rattle.calloop_poll.specs.sys.Polls.{PollView, poll_view, after_cut, with_pass}
use Rattle.calloop_slots.specs.Failures.{with_error}
use Rattle.calloop_loop.specs.Machine.{View, view_of}
use Rattle.calloop_loop.specs.Rules.{Goes, Cutting, Serving, Idling, after_hand_out}
use Rattle.calloop_sources.specs.sources.Deeds.{lend}
use Rattle.calloop_loop.specs.Askings.{Asks, of_turn}
use Rattle.calloop_loop.proofs.Going.{goes_to, goes_on, no_event, cut_none, turned, length-cut, batch-stepped}
use Rattle.calloop_loop.proofs.Inserting.{changed_twice}
use Rattle.calloop_loop.proofs.EventLoop.hand_out.Goals as goal

pub returns-in_default-clause-machine : goal.returns-in_default-clause-machine
returns-in_default-clause-machine g c =
    let v : View g.row.D.Denot g.row.D-Idle.Denot g.row.P.Denot = view_of c.args.self.now in
    let M = g.D.Dispatch.means in
    goes_to M g.D.Idle.IdleCallback.runs g.P.Poller.outside (Cutting c.args.«data».now) (Idling c.args.«data».now) v (record v { poll = after_cut v.poll }) _ (ap (λ (p : PollView g.row.P.Denot). record v { poll = p }) c.next_event.ensures.view)
    (no_event M g.D.Idle.IdleCallback.runs g.P.Poller.outside v c.args.«data».now c.in_default.ensures.event)

pub returns-in_default-get_mut-clause-machine : goal.returns-in_default-get_mut-clause-machine
returns-in_default-get_mut-clause-machine g c =
    let v : View g.row.D.Denot g.row.D-Idle.Denot g.row.P.Denot = view_of c.args.self.now in
    let M = g.D.Dispatch.means in
    let polls : poll_view c.end_event.new.self ≡ with_pass None (after_cut v.poll) = c.end_event.ensures ∙ ap (λ (p : PollView g.row.P.Denot). with_pass None p) c.next_event.ensures.view in
    let named : source_of (content_at v.slots c.registration-token.result) ≡ None = c.in_default-get_mut.ensures.refuses.0 refl in
    let none : None ≡ source_of (content_at v.slots (registration_of c.in-Some.event.token)) = sym named ∙ ap (λ (t : RegistrationToken). source_of (content_at v.slots t)) c.registration-token.ensures in
    goes_to M g.D.Idle.IdleCallback.runs g.P.Poller.outside (Cutting c.args.«data».now) (Cutting c.args.«data».now) v (record v { poll = with_pass None (after_cut v.poll) }) _
    (ap (λ (p : PollView g.row.P.Denot). record v { poll = p }) polls)
    (cut_none M g.D.Idle.IdleCallback.runs g.P.Poller.outside c.in-Some.event v c.args.«data».now c.in-Some.ensures.event none)

pub returns-clause-machine : goal.returns-clause-machine
returns-clause-machine g c =
    let M = g.D.Dispatch.means in
    let O = g.P.Poller.outside in
    let R = g.D.Idle.IdleCallback.runs in
    let v : View g.row.D.Denot g.row.D-Idle.Denot g.row.P.Denot = view_of c.args.self.now in
    let e = c.in-Some.event in
    let t = c.registration-token.result in
    let own : t ≡ registration_of e.token = c.registration-token.ensures in
    let s = c.in-Ok.source.now in
    let d = c.process_events-answer.new.self in
    let answer = with_error c.process_events-answer.result c.process_events-answer.new.failure in
    let polls : PollView g.row.P.Denot = poll_view c.end_event-2.new.self in
    let given : Asks g.row.D.Denot g.row.D-Idle.Denot = c.enter_turn.new.self in
    let asked : Asks g.row.D.Denot g.row.D-Idle.Denot = c.process_events-answer.new.requests in
    let begun : given ≡ of_turn (registration_of e.token) v.held.asks = c.enter_turn.ensures ∙ ap (λ (r : RegistrationToken). of_turn r v.held.asks) own in
    let x = c.args.«data».now in
    let y = c.process_events-answer.new.«data» in
    let found : Some s ≡ source_of (content_at v.slots (registration_of e.token)) = sym (ap (λ k. source_of k) c.in-Ok.ensures.ok) ∙ ap (λ (r : RegistrationToken). source_of (content_at v.slots r)) own in
    let full : is_empty (content_at v.slots t) ≡ false = ap (λ k. is_empty k) c.in-Ok.ensures.ok in
    let stands : content_at (with_change (with_content (Source d)) v.slots t.slot) t ≡ Source d = named_changed v.slots t (Source d) full in
    let taken : with_change (with_content InTurn) (with_change (with_content (Source d)) v.slots t.slot) t.slot ≡ with_change (with_content InTurn) v.slots e.token.slot =
    changed_twice InTurn (Source d) v.slots t.slot ∙ ap (λ (r : RegistrationToken). with_change (with_content InTurn) v.slots r.slot) own in
    let held : View g.row.D.Denot g.row.D-Idle.Denot g.row.P.Denot = record v { slots = with_change (with_content InTurn) (with_change (with_content (Source d)) v.slots t.slot) t.slot; poll = polls; held = record v.held { asks = asked } } in
    let out : View g.row.D.Denot g.row.D-Idle.Denot g.row.P.Denot = record v { slots = with_change (with_content InTurn) v.slots e.token.slot; poll = with_pass None (poll_view c.process_events-answer.new.poll); held = record v.held { asks = asked } } in
    let is : held ≡ out =
    ap (λ (ss : List (Slot g.row.D.Denot)). record v { slots = ss; poll = polls; held = record v.held { asks = asked } }) taken
    ∙ ap (λ (p : PollView g.row.P.Denot). record v { slots = with_change (with_content InTurn) v.slots e.token.slot; poll = p; held = record v.held { asks = asked } }) c.end_event-2.ensures in
    let after = after_hand_out (with_error c.go_on.result c.go_on.new.failure) y in
    let asks = g.met.D.Dispatch.asks s d (poll_view c.next_event.new.self) e.readiness e.token (lend x given answer y asked) c.process_events-answer.ensures.0 c.process_events-answer.ensures.1 in
    goes_on M R O (Cutting x) (Serving (registration_of e.token) d answer y) after v held (view_of c.go_on.new.self)
    (goes_to M R O (Cutting x) (Serving (registration_of e.token) d answer y) v out held is
    (turned M R O e v s d answer (poll_view c.next_event.new.self) (poll_view c.process_events-answer.new.poll) x y given asked c.in-Some.ensures.event found c.next_event.ensures.view begun c.process_events-answer.ensures asks))
    (subst (λ (r : RegistrationToken). Goes M R O (Serving r d answer y) after held (view_of c.go_on.new.self)) own (c.go_on.ensures.machine d y stands))

pub returns-clause-shorter : goal.returns-clause-shorter
returns-clause-shorter g c =
    let v = poll_view c.args.self.now.poll in
    let turn = c.process_events-answer.ensures in
    let batch : c.go_on.new.self.poll.batch.events ≡ (after_cut v).batch =
    c.go_on.ensures.batch ∙ ap (λ (p : PollView g.row.P.Denot). p.batch) c.end_event-2.ensures
    ∙ ap (λ (p : PollView g.row.P.Denot). p.batch) turn.2.1 ∙ batch-stepped (poll_view c.next_event.new.self) turn.0 ∙ ap (λ (p : PollView g.row.P.Denot). p.batch) c.next_event.ensures.view in
    λ _. omega (arith, ap length batch, length-cut v c.in-Some.event c.in-Some.ensures.event)
