-- The lines of a script make calls that bring no counter of a timer into the loop.
use Rattle.std.proofs.Common.{◌≡◌, inl, inr, ℕ, List, [], ◌∷◌, ◌++◌, Option, Some, None, Result, Ok, Err, IfOk, IfSome, true, refl, sym, subst, ap, ◌∙◌}
use Rattle.logbook.specs.Pages.{Book}
use Rattle.calloop_slots.specs.declared.token.RegistrationToken.{RegistrationToken}
use Rattle.calloop_wake.specs.declared.Tally.{Tally}
use Rattle.calloop_script.specs.declared.ScriptPoller.{ScriptPoller}
use Rattle.calloop_poll.specs.declared.sys.Readiness.{Readiness}
use Rattle.calloop_sources.specs.declared.sources.dispatch.Dispatcher.{Dispatcher}
use Rattle.calloop_sources.specs.declared.sources.choice.OneOf.{OneOf}
use Rattle.calloop_sources.specs.declared.sources.choice.OneOf.TheVariants.{First, Other}
use Rattle.calloop_sources.specs.declared.timer.Timer.{Timer as TimerSource}
use Rattle.calloop_script.specs.ScriptPollers.{script_outside}
use Rattle.calloop_loop.specs.declared.LoopCall.TheVariants.{Insert, Enable, Update, Disable, Remove as RemoveCall, Release, Exchange, Dispatch as DispatchCall, InsertIdle, Cancel, Answer as AnswerOf, ForgetStop, LookForStop, Poller as NewPoller}
use Rattle.calloop_loop.specs.declared.LoopAnswer.{LoopAnswer}
use Rattle.calloop_loop.specs.declared.LoopAnswer.TheVariants.{Inserted, Removed, Dispatched, Poller as OldPoller}
use Rattle.calloop_laws.specs.EveryRun.{LoopRun, OverEveryRun, FromTheStart}
use Rattle.calloop_loop.specs.Machine.{World, View, Change}
use Rattle.calloop_loop.specs.Rules.{Run, all_traced}
use Rattle.calloop_laws.specs.Laws.{IsFresh, IsLedgerOf, changes_of, moments_of}
use Rattle.calloop_laws.specs.Freshness.{AllFreshCalls}
use Rattle.calloop_loop.proofs.Running.{run_none, run_first}
use Rattle.looptrace.specs.declared.command.Command.{Command}
use Rattle.looptrace.specs.declared.command.Command.TheVariants.{Nothing, Ping, Ring, Close, Remove}
use Rattle.looptrace.specs.declared.command.Command.TheVariants.{Answer as Event, Timer, Clock, Fault, Dispatch}
use Rattle.looptrace.specs.declared.source.Teller.{Teller}
use Rattle.looptrace.specs.declared.source.Alarm.{Alarm}
use Rattle.looptrace.specs.Sources.{Source, source_meaning, no_idles}
use Rattle.looptrace.specs.Runs.{State, Calls, Carried, IsPingOf, IsNewPing, IsNewTimer, token_with, RemoveOf, with_moment, DispatchLine, InsertLine, AnswerLine, RingLine, CloseLine, ClockLine, trace_step, MayWrite}
use Rattle.looptrace.specs.Commands.{command_of}
use Rattle.looptrace.specs.Lines.{lines_of}
use Rattle.looptrace.specs.Texts.{next_number}
use Rattle.looptrace.specs.Traces.{Written, Writes, WritesTo}
use Rattle.looptrace.specs.InTime.{ScriptCall, ScriptAnswerOf, IsScripted, AllScripted, Asks, LeadsInTime, MayWriteInTime}

fresh_ping : (name : List ℕ) (held : OneOf (Dispatcher Tally Teller) (Dispatcher TimerSource Alarm)) (s : Source) (ping : Option Book) → s.held ≡ held → IsPingOf name held ping
    → IsFresh (source_meaning {P = ScriptPoller}) s
fresh_ping name (First d) s ping is h = rw is ((λ counter. refl), tt)
fresh_ping name (Other d) s ping is h = absurd h

fresh_source : (s : Source) → IsScripted (Insert s) → IsFresh (source_meaning {P = ScriptPoller}) s
fresh_source s (name, inl h) = fresh_ping name s.held s h.0 refl h.1
fresh_source s (name, inr h) = rw h.1 ((λ counter. refl), tt)

pub fresh_calls : (calls : List ScriptCall) (answers : List (LoopAnswer Source ScriptPoller (Option (List ℕ)) (Unit {0}))) → AllScripted calls → AllFreshCalls source_meaning calls answers
fresh_calls [] answers h = tt
fresh_calls (call ∷ calls) [] h = tt
fresh_calls (Insert s ∷ calls) (answer ∷ answers) h = (fresh_source s h.0, fresh_calls calls answers h.1)
fresh_calls (Enable token ∷ calls) (answer ∷ answers) h = (tt, fresh_calls calls answers h.1)
fresh_calls (Update token ∷ calls) (answer ∷ answers) h = (tt, fresh_calls calls answers h.1)
fresh_calls (Disable token ∷ calls) (answer ∷ answers) h = (tt, fresh_calls calls answers h.1)
fresh_calls (RemoveCall token ∷ calls) (answer ∷ answers) h = (tt, fresh_calls calls answers h.1)
fresh_calls (Release token ∷ calls) (answer ∷ answers) h = (tt, fresh_calls calls answers h.1)
fresh_calls (Exchange token s ∷ calls) (answer ∷ answers) h = absurd h.0
fresh_calls (DispatchCall timeout x ∷ calls) (answer ∷ answers) h = (tt, fresh_calls calls answers h.1)
fresh_calls (InsertIdle idle ∷ calls) (answer ∷ answers) h = (tt, fresh_calls calls answers h.1)
fresh_calls (Cancel idle ∷ calls) (answer ∷ answers) h = (tt, fresh_calls calls answers h.1)
fresh_calls (AnswerOf ticket ∷ calls) (answer ∷ answers) h = (tt, fresh_calls calls answers h.1)
fresh_calls (ForgetStop ∷ calls) (answer ∷ answers) h = (tt, fresh_calls calls answers h.1)
fresh_calls (LookForStop ∷ calls) (answer ∷ answers) h = (tt, fresh_calls calls answers h.1)
fresh_calls (NewPoller p ∷ calls) (answer ∷ answers) h = (tt, fresh_calls calls answers h.1)

no_outcome : {A B : Type 0} (x : A) → ◌≡◌ {A = Option A} (Some x) None → B
no_outcome x h = cc

asks_nothing : (s t : State) → t ≡ s → Asks s.loop t.loop
asks_nothing s t is = record { calls = []; answers = []; scripted = tt; leads = λ w seen_is. ([], w, refl, seen_is ∙ ap (λ (u : State). u.loop) (sym is)) }

asks_same : (s t : State) → t.loop ≡ s.loop → Asks s.loop t.loop
asks_same s t is = record { calls = []; answers = []; scripted = tt; leads = λ w seen_is. ([], w, refl, seen_is ∙ sym is) }

-- one call, and then further ones
asks_then : (call : ScriptCall) (answer : LoopAnswer Source ScriptPoller (Option (List ℕ)) (Unit {0})) (u v x : View Source (Unit {0}) ScriptPoller) → IsScripted call → Calls call answer u v → Asks v x → Asks u x
asks_then call answer u v x is did rest = record {
  calls = call ∷ rest.calls;
  answers = answer ∷ rest.answers;
  scripted = (is, rest.scripted);
  leads = run_first source_meaning no_idles script_outside call answer rest.calls rest.answers u v x did rest.leads;
}

nothing_more : (v : View Source (Unit {0}) ScriptPoller) → Asks v v
nothing_more v = record { calls = []; answers = []; scripted = tt; leads = run_none source_meaning no_idles script_outside v }

asks_once : (call : ScriptCall) (answer : LoopAnswer Source ScriptPoller (Option (List ℕ)) (Unit {0})) (u v : View Source (Unit {0}) ScriptPoller) → IsScripted call → Calls call answer u v → Asks u v
asks_once call answer u v is did = asks_then call answer u v v is did (nothing_more v)

asks_removal : (s t : State) (said : List ℕ) (token : Option RegistrationToken) → RemoveOf s token t said → Asks s.loop t.loop
asks_removal s t said None h = asks_nothing s t h.0
asks_removal s t said (Some token) h = asks_once (RemoveCall token) (Removed h.0) s.loop t.loop tt h.1

asks_dispatch : (s t : State) (timeout : Option ℕ) (said : List ℕ) → DispatchLine s timeout t said → Asks s.loop t.loop
asks_dispatch s t timeout said h =
    asks_then (NewPoller h.ready) (OldPoller s.loop.poll.poller) s.loop h.before t.loop tt h.lent
    (asks_then (DispatchCall h.limit (Some [])) (Dispatched h.answer (Some h.called)) h.before h.after t.loop tt h.dispatched
    (asks_once (NewPoller t.loop.poll.poller) (OldPoller h.after.poll.poller) h.after t.loop tt h.back))

state_in : State → Option (State × List ℕ) → State
state_in u None = u
state_in u (Some (t, said)) = t

state_of_some : (t u : State) (said told : List ℕ) → ◌≡◌ {A = Option (State × List ℕ)} (Some (t, said)) (Some (u, told)) → t ≡ u
unfolding state_in
state_of_some t u said told is = ap (state_in u) is

asks_insertion : (s t : State) (said : List ℕ) (name : List ℕ) (made : Source → Option Book → Type 0)
    → ((source : Source) (ping : Option Book) → made source ping → IsScripted (Insert source)) → InsertLine s name made (Some (t, said)) → Asks s.loop t.loop
asks_insertion s t said name made is h = asks_once (Insert h.1) (Inserted h.4) s.loop t.loop (is h.1 h.2 h.3) h.5

asks_answer : (s t : State) (said : List ℕ) (key : ℕ) (readiness : Readiness) → AnswerLine s key readiness (Some (t, said)) → Asks s.loop t.loop
asks_answer s t said key readiness h = asks_same s t (ap (λ (u : State). u.loop) h.1)

asks_ring : (s t : State) (said : List ℕ) (name : List ℕ) → RingLine s name (Some (t, said)) → Asks s.loop t.loop
asks_ring s t said name h = asks_nothing s t h.1

asks_close : (s t : State) (said : List ℕ) (name : List ℕ) → CloseLine s name (Some (t, said)) → Asks s.loop t.loop
asks_close s t said name h = asks_same s t (ap (λ (u : State). u.loop) h.1)

asks_clock : (s t : State) (moment : ℕ) → ClockLine s moment t → Asks s.loop t.loop
asks_clock s t moment h = asks_once (NewPoller (with_moment moment s.loop.poll.poller)) (OldPoller s.loop.poll.poller) s.loop t.loop tt h.changed

asks_fault : (s t : State) (said : List ℕ) → ◌≡◌ {A = Option (State × List ℕ)} (Some (t, said)) (Some (record s { fault = true }, [])) → Asks s.loop t.loop
asks_fault s t said h = asks_same s t (ap (λ (u : State). u.loop) (state_of_some t (record s { fault = true }) said [] h))

command_asks : (s t : State) (said : List ℕ) (command : Command) → Carried s (Some command) (Some (t, said)) → Asks s.loop t.loop
command_asks s t said Nothing h = asks_nothing s t (state_of_some t s said [] h)
command_asks s t said (Ping name) h = asks_insertion s t said name (IsNewPing name) (λ source ping is. (name, inl (ping, is))) h
command_asks s t said (Ring name) h = asks_ring s t said name h
command_asks s t said (Close name) h = asks_close s t said name h
command_asks s t said (Remove slot version) h = asks_removal s t said (token_with slot version) h
command_asks s t said (Event key readiness) h = asks_answer s t said key readiness h
command_asks s t said (Timer name deadline) h = asks_insertion s t said name (IsNewTimer name deadline) (λ source ping is. (name, inr (deadline, is.0))) h
command_asks s t said (Clock moment) h = asks_clock s t moment h.0
command_asks s t said Fault h = asks_fault s t said h
command_asks s t said (Dispatch timeout) h = asks_dispatch s t timeout said h

pub line_asks : (s t : State) (said : List ℕ) (command : Option Command) → Carried s command (Some (t, said)) → Asks s.loop t.loop
line_asks s t said (Some command) h = command_asks s t said command h
line_asks s t said None h = no_outcome (t, said) h

-- Lists of calls, one behind the other.

run_append : (calls more : List ScriptCall) (answers others : List ScriptAnswerOf) (csss dsss : List (List (List (Change Source (Unit {0}) ScriptPoller)))) (w u x : World Source (Unit {0}) ScriptPoller)
    → Run source_meaning no_idles script_outside calls answers csss w u → Run source_meaning no_idles script_outside more others dsss u x
    → Run source_meaning no_idles script_outside (calls ++ more) (answers ++ others) (csss ++ dsss) w x
run_append [] more [] others [] dsss w u x h k = subst (λ (v : World Source (Unit {0}) ScriptPoller). Run source_meaning no_idles script_outside more others dsss v x) h k
run_append (call ∷ calls) more (answer ∷ answers) others (css ∷ csss) dsss w u x h k = (h.0, run_append calls more answers others csss dsss (all_traced w css) u x h.1 k)
run_append calls more answers others csss dsss w u x h k = absurd h

scripted_append : (calls more : List ScriptCall) → AllScripted calls → AllScripted more → AllScripted (calls ++ more)
scripted_append [] more h k = k
scripted_append (call ∷ calls) more h k = (h.0, scripted_append calls more h.1 k)

-- the law of the timers of scripts
abbrev pub TheLaw : Type 0
TheLaw = OverEveryRun source_meaning no_idles script_outside
    (FromTheStart (λ (r : LoopRun Source (Unit {0}) ScriptPoller (Option (List ℕ))). AllScripted r.calls → IsLedgerOf r.ended.ledger r.ended.poll))

asks_on : (u v x : View Source (Unit {0}) ScriptPoller) → Asks u v → Asks v x → Asks u x
asks_on u v x h k = record {
  calls = h.calls ++ k.calls;
  answers = h.answers ++ k.answers;
  scripted = scripted_append h.calls k.calls h.scripted k.scripted;
  leads = λ w is.
      let a = h.leads w is in
      let b = k.leads a.1 a.3 in
      (a.0 ++ b.0, b.1, run_append h.calls k.calls h.answers k.answers a.0 b.0 w a.1 b.1 a.2 b.2, b.3);
}

lines_ask : (lines : List (List ℕ)) (s : State) (number : ℕ) (w : Written) (finish : State) → WritesTo trace_step s number lines w finish → Asks s.loop finish.loop
lines_ask [] s number w finish h = asks_nothing s finish h.1
lines_ask (line ∷ lines) s number w finish (inl h) = asks_nothing s finish h.2
lines_ask (line ∷ lines) s number w finish (inr h) =
    asks_on s.loop h.0.loop finish.loop (line_asks s h.0 h.1 (command_of line) h.3) (lines_ask lines h.0 (next_number number) h.2 finish h.4)

writes_to : (lines : List (List ℕ)) (s : State) (number : ℕ) (w : Written) → Writes trace_step s number lines w → (finish : State) × WritesTo trace_step s number lines w finish
writes_to [] s number w h = (s, (h, refl))
writes_to (line ∷ lines) s number w (inl h) = (s, inl (h.0, h.1, refl))
writes_to (line ∷ lines) s number w (inr h) =
    let rest = writes_to lines h.0 (next_number number) h.2 h.4 in
    (rest.0, inr (h.0, h.1, h.2, h.3, rest.1, h.5))

leads_in_time : (u v : View Source (Unit {0}) ScriptPoller) → TheLaw → Asks u v → LeadsInTime u v
leads_in_time u v law h w new is =
    let a = h.leads w is in
    let r : LoopRun Source (Unit {0}) ScriptPoller (Option (List ℕ)) = record {
      calls = h.calls;
      answers = h.answers;
      changes = a.0;
      moments = moments_of w (changes_of a.0);
      began = w;
      ended = a.1;
    } in
    (r, a.2, refl, a.3, law r a.2 refl new h.scripted)

pub in_time : (script : List ℕ) (w : Written) → TheLaw → MayWrite script w → MayWriteInTime script w
in_time script w law h =
    let to = writes_to (lines_of script) h.0 1 w h.2 in
    (h.0, to.0, h.1, to.1, leads_in_time h.0.loop to.0.loop law (lines_ask (lines_of script) h.0 1 w to.0 to.1))

pub all_in_time : {E : Type 0} (result : Result ℕ E) (first : Option (List ℕ)) (Out Errors : Written → Type 0) → TheLaw
    → IfOk result (λ status. IfSome first (λ script. (w : Written) × MayWrite script w × Out w × Errors w × (status ≡ w.status)))
    → IfOk result (λ status. IfSome first (λ script. (w : Written) × MayWriteInTime script w × Out w))
all_in_time (Err e) first Out Errors law h = tt
all_in_time (Ok status) None Out Errors law h = tt
all_in_time (Ok status) (Some script) Out Errors law h = (h.0, in_time script h.0 law h.1, h.2)
