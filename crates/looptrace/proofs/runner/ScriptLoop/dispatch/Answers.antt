use Rattle.std.proofs.Common.{◌≡◌, ℕ, List, [], ◌∷◌, ◌++◌, ◌∙◌, sym, ap, subst, refl, Some, Option, Result}
use Rattle.std.proofs.lemmas.List.{append_assoc}
use Rattle.std.specs.declared.time.Duration.{Duration}
use Rattle.calloop_slots.specs.declared.error.Error.{Error}
use Rattle.calloop_script.specs.declared.ScriptPoller.{ScriptPoller}
use Rattle.calloop_script.specs.declared.ScriptClock.{ScriptClock}
use Rattle.std.specs.Option.{option_map}
use Rattle.calloop_poll.specs.sys.Polls.{with_new_poller, is_filled}
use Rattle.calloop_loop.specs.declared.EventLoop.{EventLoop}
use Rattle.calloop_loop.specs.declared.LoopCall.TheVariants.{Dispatch as DispatchCall}
use Rattle.calloop_loop.specs.declared.LoopAnswer.TheVariants.{Dispatched}
use Rattle.calloop_loop.specs.Lending.{with_loop_poller}
use Rattle.calloop_loop.specs.Machine.{View, Polling, view_of}
use Rattle.looptrace.specs.declared.runner.PendingAnswer.{PendingAnswer}
use Rattle.looptrace.specs.Sources.{Source}
use Rattle.looptrace.specs.Runs.{IsPrepared, IsTakenBack, State, state_of, pending_of, fault_after, pending_after, Calls, waits_text, answer_text}
use Rattle.looptrace.proofs.runner.ScriptLoop.dispatch.Goals as goal

-- an equal dispatch
moved : (limit : Option Duration) (answer : Result (Unit {0}) Error) (x x' y y' : Option (List ℕ)) (v v' w w' : View Source (Unit {0}) ScriptPoller) → x ≡ x' → y ≡ y' → v ≡ v' → w ≡ w'
    → Calls (DispatchCall limit x) (Dispatched answer y) v w → Calls (DispatchCall limit x') (Dispatched answer y') v' w'
moved limit answer x x' y y' v v' w w' same_x same_y same_v same_w call =
    subst (λ (w : View Source (Unit {0}) ScriptPoller). Calls (DispatchCall limit x') (Dispatched answer y') v' w) same_w
    (subst (λ (v : View Source (Unit {0}) ScriptPoller). Calls (DispatchCall limit x') (Dispatched answer y') v w) same_v
    (subst (λ (y : Option (List ℕ)). Calls (DispatchCall limit x') (Dispatched answer y) v w) same_y
    (subst (λ (x : Option (List ℕ)). Calls (DispatchCall limit x) (Dispatched answer y) v w) same_x call)))

-- three texts, one behind the other
three : (old a b d t u v : List ℕ) → t ≡ old ++ a → u ≡ t ++ b → v ≡ u ++ d → v ≡ old ++ ((a ++ b) ++ d)
three old a b d t u v first second third =
    third ∙ ap (λ (u : List ℕ). u ++ d) (second ∙ ap (λ (t : List ℕ). t ++ b) first ∙ append_assoc old a b) ∙ append_assoc old (a ++ b) d

pub returns-clause-ok : goal.returns-clause-ok
returns-clause-ok g c =
    let s : State = state_of c.args.self.now in
    let held = c.handle.ensures.value in
    let held_after = c.handle-2.ensures.value in
    let ready : ScriptPoller = c.make_ready.new.poller in
    let back : ScriptPoller = c.take_back.new.poller in
    let before : View Source (Unit {0}) ScriptPoller = record s.loop { poll = with_new_poller ready s.loop.poll } in
    let after : View Source (Unit {0}) ScriptPoller = view_of c.dispatch-answer.new.self in
    let poller : c.poller_mut.result.now ≡ s.loop.poll.poller = c.poller_mut.ensures.value ∙ ap (λ (e : EventLoop Source ScriptPoller ScriptClock g.row.R.Denot (Option (List ℕ)) (Unit {0})). e.poll.poller) held in
    let poller_after : c.poller_mut-2.result.now ≡ after.poll.poller = c.poller_mut-2.ensures.value ∙ ap (λ (e : EventLoop Source ScriptPoller ScriptClock g.row.R.Denot (Option (List ℕ)) (Unit {0})). e.poll.poller) held_after in
    let same_before : view_of (with_loop_poller ready c.handle.result.inner.now) ≡ before = ap (λ (e : EventLoop Source ScriptPoller ScriptClock g.row.R.Denot (Option (List ℕ)) (Unit {0})). view_of (with_loop_poller ready e)) held in
    let loop_back : view_of (with_loop_poller back c.handle-2.result.inner.now) ≡ record after { poll = with_new_poller back after.poll } =
    ap (λ (e : EventLoop Source ScriptPoller ScriptClock g.row.R.Denot (Option (List ℕ)) (Unit {0})). view_of (with_loop_poller back e)) held_after in
    let is_ready : IsPrepared s.fault s.pending s.loop.poll.poller ready = subst (λ (p : ScriptPoller). IsPrepared s.fault s.pending p ready) poller c.in_ok-make_ready.ensures.ok in
    let is_back : IsTakenBack after.poll.poller back = subst (λ (p : ScriptPoller). IsTakenBack p back) poller_after c.in_ok-stands.ensures.2 in
    let stands : c.in_ok-stands.stands ≡ is_filled after.poll.poller.answers.items = c.in_ok-stands.ensures.1 ∙ ap (λ (p : ScriptPoller). is_filled p.answers.items) poller_after in
    let waits = waits_text after.poll.poller.waits.items in
    let said : List ℕ = (waits ++ c.in-Some.called.now) ++ answer_text c.dispatch-answer.result in
    let text = three c.args.text.now.items waits c.in-Some.called.now (answer_text c.dispatch-answer.result) c.take_back.new.text.items c.extend_from_slice.new.self.items c.append_answer.new.text.items
    (c.in_ok-stands.ensures.0 ∙ ap (λ (p : ScriptPoller). c.args.text.now.items ++ waits_text p.waits.items) poller_after) c.in_ok-extend_from_slice.ensures.items c.in_ok-append_answer.ensures in (
      said,
      text,
      record {
        ready = ready;
        is_ready = is_ready;
        before = before;
        lent = ((Polling ready ∷ []) ∷ [], (refl, refl), refl);
        limit = c.timeout_of.result;
        limit_is = c.timeout_of.ensures;
        answer = c.dispatch-answer.result;
        called = c.in-Some.called.now;
        after = after;
        dispatched = moved c.timeout_of.result c.dispatch-answer.result _ (Some []) _ (Some c.in-Some.called.now) _ before _ after c.new-said.ensures (sym c.in-Some.ensures)
            same_before refl c.dispatch-answer.ensures.case;
        is_back = is_back;
        back = ((Polling back ∷ []) ∷ [], (refl, refl), loop_back);
        sources = refl;
        fault = c.fault_after-self.ensures ∙ ap (λ b. fault_after b s.fault) stands;
        pending = c.pending_after.ensures ∙ ap (λ (o : Option PendingAnswer). pending_after c.in_ok-stands.stands s.fault (option_map pending_of o)) c.take.ensures.value ∙ ap (λ b. pending_after b s.fault s.pending) stands;
        text = refl;
      },
    )
