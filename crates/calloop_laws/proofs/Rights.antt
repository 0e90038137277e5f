-- Each event that is cut goes to the right source, or rightly to none.
use Rattle.std.proofs.Common.{◌≡◌, ℕ, ◌%◌, List, [], ◌∷◌, ◌++◌, map, refl, ap, sym, ◌∙◌, subst, arith, Some, None, Option, Result, Ok, Err, inl, inr, true, false, if◌then◌else◌, nat_eq, slice_get}
use Rattle.std.specs.Option.{option_map}
use Rattle.std.proofs.lemmas.Bool.Decides.{nat_tests}
use Rattle.std.proofs.lemmas.Option.{slice_get-map}
use Rattle.calloop_slots.specs.Widths.{versions}
use Rattle.calloop_slots.specs.declared.error.Error.{Error}
use Rattle.calloop_slots.specs.declared.error.InsertError.{InsertError}
use Rattle.calloop_slots.specs.declared.token.Token.{Token}
use Rattle.calloop_slots.specs.declared.token.RegistrationToken.{RegistrationToken}
use Rattle.calloop_poll.specs.declared.sys.Readiness.{Readiness}
use Rattle.calloop_slots.specs.declared.list.Content.{Content}
use Rattle.calloop_slots.specs.declared.list.Content.TheVariants.{Vacant, Source, InTurn}
use Rattle.calloop_slots.specs.Tokens.{registration_of}
use Rattle.calloop_slots.specs.Slots.{content_at, content_under}
use Rattle.calloop_poll.specs.declared.sys.poll.Pending.{Pending}
use Rattle.calloop_sources.specs.declared.sources.source.PostAction.{PostAction}
use Rattle.calloop_sources.specs.declared.sources.source.PostAction.TheVariants.{Continue, Reregister, Disable as DisableIt, Remove}
use Rattle.calloop_poll.specs.sys.Pollers.{Outside}
use Rattle.calloop_poll.specs.sys.Polls.{PollStep, own_event}
use Rattle.calloop_loop.specs.declared.LoopCall.{LoopCall}
use Rattle.calloop_loop.specs.declared.LoopCall.TheVariants.{Insert, Enable, Update, Disable, Remove as RemoveCall, Release, Exchange, Dispatch, InsertIdle, Cancel, Answer as AnswerOf, ForgetStop, LookForStop, Poller as NewPoller}
use Rattle.calloop_loop.specs.declared.LoopAnswer.{LoopAnswer}
use Rattle.calloop_loop.specs.declared.LoopAnswer.TheVariants.{Inserted, Enabled, Updated, Disabled, Removed, Released, Exchanged, Dispatched, IdleInserted, Cancelled, Answered, StopForgotten, Stopped, Poller as OldPoller}
use Rattle.calloop_sources.specs.sources.Deeds.{Lent}
use Rattle.calloop_sources.specs.sources.Meanings.{Meaning}
use Rattle.calloop_loop.specs.declared.asks.Asked.{Asked}
use Rattle.calloop_loop.specs.declared.asks.Idling.{Idling as Waiter}
use Rattle.calloop_loop.specs.declared.asks.Request.{Request}
use Rattle.calloop_loop.specs.declared.asks.Request.TheVariants.{Insert as AskInsert, Enable as AskEnable, Update as AskUpdate, Disable as AskDisable, SetDeadline as AskSetDeadline, Remove as AskRemove, Idle as AskIdle, Cancel as AskCancel}
use Rattle.calloop_loop.specs.Askings.{Asks, Runs}
use Rattle.calloop_loop.specs.Machine.{World, View, Registration, Change, Holds, visible, slot_of, world_after, world_after_all, Appended}
use Rattle.calloop_loop.specs.Roles.{only, is_callers, is_adapter}
use Rattle.calloop_loop.proofs.Roles.{left_removed}
use Rattle.calloop_loop.specs.Rules.{Doing, Beginning, Settling, Sleeping, Waiting, Gathering, Noticing, Cutting, Serving, Ending, Returning, Idling, RunningIdles, ServingIdle, Leaving, Outcome, Step, Steps, SleptAs, SleptBy, NoticedBy, told_in, CutTo, CutFrom, ActedBy, ReturnedTo, vacate, Case, Run, InsertedBy, AskedIn, SettledIn, TakesUp, as_listed, RemovedIn, EnabledBy, UpdatedBy, DisabledBy, RemovedBy, ReleasedBy, ExchangedIn, ExchangedBy, IdleInsertedBy, OwnOr, Served, ServedAs, ServedFrom, RunFrom, action_of, Once, all_traced, appends}
use Rattle.calloop_loop.specs.Held.{HeldStep, Begun, Pend}
use Rattle.calloop_laws.specs.Laws.{IsSource, AllRight, flatten, changes_of}
use Rattle.calloop_loop.proofs.Seen.{seen-all_done, done-append}

source_under : {D : Type 0} (v : ℕ) (o : Option (Registration D)) (d : D) → content_under v (option_map slot_of o) ≡ Source d → (r : Registration D) × (o ≡ Some r) × (r.reuse % versions ≡ v) × IsSource r.content
source_under v None d e = cc
source_under {D} v (Some r) d e =
    elim (nat_eq (r.reuse % versions) v) as (λ b. nat_eq (r.reuse % versions) v ≡ b → (if b then r.content else Vacant) ≡ Source d → (r' : Registration D) × (◌≡◌ {A = Option (Registration D)} (Some r) (Some r')) × (r'.reuse % versions ≡ v) × IsSource r'.content)
    [ true ↦ λ same full. (r, refl, grind (arith, nat_tests), (d, full)) | false ↦ λ _ none. cc ] refl e

named_is : {D : Type 0} (v : ℕ) (o : Option (Registration D)) (r : Registration D) → o ≡ Some r → r.reuse % versions ≡ v → content_under v (option_map slot_of o) ≡ r.content
named_is {D} v o r e same =
    let yes : nat_eq (r.reuse % versions) v ≡ true = grind (arith, nat_tests) in
    rw (e, yes) refl

module _ {D I P X : Type 0} (M : Meaning D P (Lent X (Asks D I))) (runs : Runs D I X) (O : Outside P) where
  cut_right : (w : World D I P) (e : Pending) (es : List Pending) (x : X) (cs : List (Change D I P)) (b : Doing D X) (c : Content D) → w.poll.batch ≡ e ∷ es → content_under e.token.version (option_map slot_of (slice_get w.slots e.token.slot)) ≡ c
      → CutTo M e c (visible w) x cs b → AllRight w cs
  cut_right w e es x cs b Vacant batch is h = rw (h.0, batch) ((λ r here same full. let n : r.content ≡ Vacant = sym (named_is e.token.version (slice_get w.slots e.token.slot) r here same) ∙ is in let f : r.content ≡ Source full.0 = full.1 in cc), (tt, tt))
  cut_right w e es x cs b InTurn batch is h = rw (h.0, batch) ((λ r here same full. let n : r.content ≡ InTurn = sym (named_is e.token.version (slice_get w.slots e.token.slot) r here same) ∙ is in let f : r.content ≡ Source full.0 = full.1 in cc), (tt, tt))
  cut_right w e es x cs b (Source d) batch is h = rw (h.6, batch) ((let f = source_under e.token.version (slice_get w.slots e.token.slot) d is in (refl, f.0, f.1, f.2, f.3)), (tt, (tt, (tt, (tt, tt)))))

  from_right : (w : World D I P) (es : List Pending) (x : X) (cs : List (Change D I P)) (b : Doing D X) → w.poll.batch ≡ es → CutFrom M es (visible w) x cs b → AllRight w cs
  from_right w [] x cs b batch h = rw h.0 tt
  from_right w (e ∷ es) x cs b batch h =
      let is : content_at (map slot_of w.slots) (registration_of e.token) ≡ content_under e.token.version (option_map slot_of (slice_get w.slots e.token.slot)) = ap (content_under e.token.version) (slice_get-map slot_of w.slots e.token.slot) in
      cut_right w e es x cs b (content_at (map slot_of w.slots) (registration_of e.token)) batch (sym is) h

  emptied_right : (w : World D I P) (token : RegistrationToken) (c : Content D) → AllRight w (vacate token c)
  emptied_right w token Vacant = tt
  emptied_right w token (Source d) = tt
  emptied_right w token InTurn = (tt, tt)

  acted_right : (w : World D I P) (token : RegistrationToken) (d : D) (answer : Result PostAction Error) (cs : List (Change D I P)) (e : D) (told : Result (Unit {0}) Error) → ActedBy M token d answer (visible w) cs e told → AllRight w cs
  acted_right w token d (Ok Continue) cs e told h = rw h.0 (tt, tt)
  acted_right w token d (Ok Reregister) cs e told h = rw h.2 (tt, (tt, (tt, tt)))
  acted_right w token d (Ok DisableIt) cs e told h = rw h.2 (tt, (tt, (tt, tt)))
  acted_right w token d (Ok Remove) cs e told h = rw h.0 (tt, emptied_right (world_after w (Holds (Pend Continue))) token (content_at (map slot_of w.slots) token))
  acted_right w token d (Err error) cs e told h = rw h.0 (tt, tt)

  returned_right : (w : World D I P) (token : RegistrationToken) (d : D) (c : Content D) (cs : List (Change D I P)) → ReturnedTo M token d c (visible w) cs → AllRight w cs
  returned_right w token d InTurn cs h = rw h (tt, tt)
  returned_right w token d Vacant cs h = rw h.5 (tt, (tt, (tt, (tt, tt))))
  returned_right w token d (Source f) cs h = rw h.5 (tt, (tt, (tt, (tt, tt))))

  appends_right : (given : List (Readiness × Token)) (w : World D I P) → AllRight w (appends given)
  appends_right [] w = tt
  appends_right (e ∷ es) w = (tt, appends_right es (world_after w (Appended (own_event e))))

  slept_as : (w : World D I P) (timeout : Option ℕ) (later : List RegistrationToken) (given : List (Readiness × Token)) (answer : Result (Unit {0}) Error) (x : X) (cs : List (Change D I P)) (b : Doing D X) → SleptAs timeout later given answer x cs b → AllRight w cs
  slept_as w timeout later given (Ok u) x cs b h = rw h.0 (appends_right given w)
  slept_as w timeout later given (Err e) x cs b h = rw h.0 tt

  slept_right : (w : World D I P) (timeout : Option ℕ) (token : RegistrationToken) (later : List RegistrationToken) (x : X) (cs : List (Change D I P)) (b : Doing D X) (c : Content D) → SleptBy M timeout token later c (visible w) x cs b → AllRight w cs
  slept_right w timeout token later x cs b Vacant h = rw h.0 tt
  slept_right w timeout token later x cs b InTurn h = rw h.0 tt
  slept_right w timeout token later x cs b (Source d) h = rw h.6 (tt, (tt, (tt, slept_as (world_after_all w (told_in token h.0)) timeout later h.1 h.2 x h.3 b h.5)))

  noticed_right : (w : World D I P) (from : ℕ) (token : RegistrationToken) (later : List RegistrationToken) (x : X) (cs : List (Change D I P)) (b : Doing D X) (c : Content D) → NoticedBy M from token later c (visible w) x cs b → AllRight w cs
  noticed_right w from token later x cs b Vacant h = rw h.0 tt
  noticed_right w from token later x cs b InTurn h = rw h.0 tt
  noticed_right w from token later x cs b (Source d) h = rw h.2 (tt, (tt, (tt, tt)))

  pub right-append : (w : World D I P) (cs ds : List (Change D I P)) → AllRight w cs → AllRight (world_after_all w cs) ds → AllRight w (cs ++ ds)
  right-append w [] ds h k = k
  right-append w (c ∷ cs) ds h k = (h.0, right-append (world_after w c) cs ds h.1 k)

  pub done-joined : (w : World D I P) (css : List (List (Change D I P))) → world_after_all w (flatten css) ≡ all_traced w css
  done-joined w [] = refl
  done-joined w (cs ∷ css) = done-append w cs (flatten css) ∙ done-joined (world_after_all w cs) css

  inserted_right : (w : World D I P) (d : D) (answer : Result RegistrationToken (InsertError D)) (cs : List (Change D I P)) → InsertedBy M d answer (visible w) cs → AllRight w cs
  inserted_right w d (Ok token) cs h = rw h.6 (tt, (tt, (tt, (tt, tt))))
  inserted_right w d (Err refused) cs h = elim h [ inl k ↦ rw k.2 tt | inr k ↦ rw k.4 (tt, (tt, (tt, tt))) ]

  asked_right : (w : World D I P) (R : D → Outcome → List (PollStep P) → D → Type 0) (noted : D → Outcome → HeldStep D I) (token : RegistrationToken) (c : Content D) (answer : Outcome) (cs : List (Change D I P)) → AskedIn R noted token c answer cs → AllRight w cs
  asked_right w R noted token Vacant answer cs h = rw h.1 tt
  asked_right w R noted token InTurn answer cs h = rw h.1 tt
  asked_right w R noted token (Source d) answer cs h = rw h.3 (tt, (tt, (tt, (tt, tt))))

  removed_right : (w : World D I P) (token : RegistrationToken) (c : Content D) (answer : Option D) (cs : List (Change D I P)) → RemovedIn M token c answer (visible w) cs → AllRight w cs
  removed_right w token Vacant answer cs h = rw h.1 tt
  removed_right w token InTurn answer cs h = rw h.1 tt
  removed_right w token (Source d) answer cs h = rw h.6 (tt, (tt, (tt, (tt, tt))))

  own_or : {A B G : Type 0} (c : Content D) → (A → G) → (B → G) → OwnOr c A B → G
  own_or InTurn f g h = f h
  own_or Vacant f g h = g h
  own_or (Source d) f g h = g h

  -- a request, and its answer after it
  told_right : (w : World D I P) (ds cs : List (Change D I P)) (step : HeldStep D I) → cs ≡ ds ++ Holds step ∷ [] → AllRight w ds → AllRight w cs
  told_right w ds cs step is h = rw is (right-append w ds (Holds step ∷ []) h (tt, tt))

  served_as_right : (w : World D I P) (request : Request D I) (answer : Outcome) (cs : List (Change D I P)) → ServedAs M request answer (visible w) cs → AllRight w cs
  served_as_right w (AskEnable token) answer cs h = own_or (content_at (map slot_of w.slots) token) (λ k. rw k.1 tt) (λ k. asked_right w _ _ token (only (is_callers M) (content_at (map slot_of w.slots) token)) answer cs k) h
  served_as_right w (AskUpdate token) answer cs h = own_or (content_at (map slot_of w.slots) token) (λ k. rw k.1 (tt, tt)) (λ k. asked_right w _ _ token (only (is_callers M) (content_at (map slot_of w.slots) token)) answer cs k) h
  served_as_right w (AskDisable token) answer cs h = own_or (content_at (map slot_of w.slots) token) (λ k. rw k.1 (tt, tt)) (λ k. asked_right w _ _ token (only (is_callers M) (content_at (map slot_of w.slots) token)) answer cs k) h
  served_as_right w (AskSetDeadline token deadline) answer cs h = own_or (content_at (map slot_of w.slots) token) (λ k. rw k.1 tt) (λ k. asked_right w _ _ token (only (is_callers M) (content_at (map slot_of w.slots) token)) answer cs k) h
  served_as_right w (AskInsert d) answer cs h = absurd h
  served_as_right w (AskRemove token) answer cs h = absurd h
  served_as_right w (AskIdle idle) answer cs h = absurd h
  served_as_right w (AskCancel ticket) answer cs h = absurd h

  served_right : (w : World D I P) (request : Request D I) (cs : List (Change D I P)) → Served M request (visible w) cs → AllRight w cs
  served_right w (AskInsert d) cs h = told_right w h.1 cs _ h.3 (inserted_right w d h.0 h.1 h.2)
  served_right w (AskEnable token) cs h = told_right w h.1 cs _ h.3 (served_as_right w (AskEnable token) h.0 h.1 h.2)
  served_right w (AskUpdate token) cs h = told_right w h.1 cs _ h.3 (served_as_right w (AskUpdate token) h.0 h.1 h.2)
  served_right w (AskDisable token) cs h = told_right w h.1 cs _ h.3 (served_as_right w (AskDisable token) h.0 h.1 h.2)
  served_right w (AskSetDeadline token deadline) cs h = told_right w h.1 cs _ h.3 (served_as_right w (AskSetDeadline token deadline) h.0 h.1 h.2)
  served_right w (AskRemove token) cs h =
      own_or (content_at (map slot_of w.slots) token) (λ k. rw k (tt, (tt, (tt, tt)))) (λ k. told_right w k.1 cs _ k.3 (removed_right w token (only (is_callers M) (content_at (map slot_of w.slots) token)) k.0 k.1 k.2)) h
  served_right w (AskIdle idle) cs h = rw h (tt, tt)
  served_right w (AskCancel ticket) cs h = rw h (tt, (tt, tt))

  served_from_right : (w : World D I P) (asked : List (Asked D I)) (on next b : Doing D X) (cs : List (Change D I P)) → ServedFrom M asked on next b (visible w) cs → AllRight w cs
  served_from_right w [] on next b cs h = rw h.0 tt
  served_from_right w (a ∷ as') on next b cs h = rw h.2 (tt, served_right (world_after w (Holds Begun)) a.request h.0 h.1)

  run_from_right : (w : World D I P) (idles : List (Waiter I)) (x : X) (cs : List (Change D I P)) (b : Doing D X) → RunFrom runs idles (visible w) x cs b → AllRight w cs
  run_from_right w [] x cs b h = rw h.0 tt
  run_from_right w (i ∷ is) x cs b h = rw h.3 (tt, (tt, tt))

  released_right : (w : World D I P) (token : RegistrationToken) (answer : Outcome) (cs : List (Change D I P)) → ReleasedBy M token answer (visible w) cs → AllRight w cs
  released_right w token (Ok u) cs h = (let r = left_removed M token (only (is_adapter M) (content_at (map slot_of w.slots) token)) (visible w) cs h in removed_right w token (only (is_adapter M) (content_at (map slot_of w.slots) token)) r.0 cs r.1)
  released_right w token (Err e) cs h = asked_right w _ _ token (only (is_adapter M) (content_at (map slot_of w.slots) token)) (Err e) cs h

  settled_right : (w : World D I P) (token : RegistrationToken) (c : Content D) (cs : List (Change D I P)) → SettledIn M token c (visible w) cs → AllRight w cs
  settled_right w token Vacant cs h = rw h tt
  settled_right w token InTurn cs h = rw h tt
  settled_right w token (Source d) cs (inl h) = asked_right w (TakesUp M token w.poll) (as_listed token) token (Source d) (Ok tt) cs h
  settled_right w token (Source d) cs (inr h) = removed_right w token (Source d) h.0 cs h.1

  step_right : (w : World D I P) (a b : Doing D X) (cs : List (Change D I P)) → Step M runs O (visible w) a cs b → AllRight w cs
  step_right w (Beginning timeout x) b cs h = rw h.4 (tt, (tt, (tt, tt)))
  step_right w (Settling timeout [] x) b cs h = rw h.0 tt
  step_right w (Settling timeout (t ∷ later) x) b cs h = settled_right w t (only (is_adapter M) (content_at (map slot_of w.slots) t)) cs h.0
  step_right w (Sleeping timeout [] x) b cs h = rw h.0 tt
  step_right w (Sleeping timeout (t ∷ later) x) b cs h = slept_right w timeout t later x cs b (content_at (map slot_of w.slots) t) h
  step_right w (Waiting timeout x) b cs h = rw h.5 (tt, (tt, tt))
  step_right w (Gathering now given x) b cs h = rw h.1 (tt, tt)
  step_right w (Noticing from [] x) b cs h = rw h.0 tt
  step_right w (Noticing from (t ∷ later) x) b cs h = noticed_right w from t later x cs b (content_at (map slot_of w.slots) t) h
  step_right w (Cutting x) b cs h = from_right w w.poll.batch x cs b refl h
  step_right w (Serving token d answer x) b cs h = served_from_right w w.held.asks.written _ _ b cs h
  step_right w (Ending token d answer x) b cs h = acted_right w token d (action_of answer w.held.pending) cs h.0 h.1 h.2
  step_right w (Returning token d told x) b cs h = returned_right w token d (content_at (map slot_of w.slots) token) cs h.0
  step_right w (Idling x) b cs h = rw h.0 (tt, tt)
  step_right w (RunningIdles x) b cs h = run_from_right w w.held.asks.running x cs b h
  step_right w (ServingIdle x) b cs h = served_from_right w w.held.asks.written _ _ b cs h
  step_right w (Leaving answer x) b cs h = absurd h

  steps_right : (w : World D I P) (a b : Doing D X) (css : List (List (Change D I P))) → Steps M runs O (visible w) a css b → AllRight w (flatten css)
  steps_right w a b [] h = tt
  steps_right w a b (cs ∷ css) h =
      right-append w cs (flatten css) (step_right w a h.0 cs h.1) (steps_right (world_after_all w cs) h.0 b css (subst (λ (v : View D I P). Steps M runs O v h.0 css b) (sym (seen-all_done w cs)) h.3))

  exchanged_right : (w : World D I P) (token : RegistrationToken) (new : D) (c : Content D) (answer : Result D D) (cs : List (Change D I P)) → ExchangedIn token new c answer cs → AllRight w cs
  exchanged_right w token new Vacant answer cs h = rw h.1 tt
  exchanged_right w token new InTurn answer cs h = rw h.1 tt
  exchanged_right w token new (Source d) answer cs h = rw h.1 (tt, tt)

  right-one : (w : World D I P) (cs : List (Change D I P)) → AllRight w cs → AllRight w (cs ++ [])
  right-one w cs h = right-append w cs [] h tt

  once_right : (w : World D I P) (R : View D I P → List (Change D I P) → Type 0) (css : List (List (Change D I P))) → Once O R (visible w) css → ((cs : List (Change D I P)) → R (visible w) cs → AllRight w cs) → AllRight w (flatten css)
  once_right w R [] h f = absurd h
  once_right w R (cs ∷ []) h f = right-one w cs (f cs h.0)
  once_right w R (cs ∷ ds ∷ css) h f = absurd h

  case_right : (w : World D I P) (call : LoopCall D P X I) (answer : LoopAnswer D P X I) (css : List (List (Change D I P))) → Case M runs O call answer (visible w) css → AllRight w (flatten css)
  case_right w (Insert d) (Inserted answer) (cs ∷ []) h = right-one w cs (inserted_right w d answer cs h.0)
  case_right w (Insert d) (Inserted answer) [] h = absurd h
  case_right w (Insert d) (Inserted answer) (cs ∷ ds ∷ css) h = absurd h
  case_right w (Enable token) (Enabled answer) css h = once_right w (EnabledBy M token answer) css h (λ cs r. asked_right w _ _ token (only (is_callers M) (content_at (map slot_of w.slots) token)) answer cs r)
  case_right w (Update token) (Updated answer) css h = once_right w (UpdatedBy M token answer) css h (λ cs r. asked_right w _ _ token (only (is_callers M) (content_at (map slot_of w.slots) token)) answer cs r)
  case_right w (Disable token) (Disabled answer) css h = once_right w (DisabledBy M token answer) css h (λ cs r. asked_right w _ _ token (only (is_callers M) (content_at (map slot_of w.slots) token)) answer cs r)
  case_right w (RemoveCall token) (Removed answer) css h = once_right w (RemovedBy M token answer) css h (λ cs r. removed_right w token (only (is_callers M) (content_at (map slot_of w.slots) token)) answer cs r)
  case_right w (Release token) (Released answer) css h = once_right w (ReleasedBy M token answer) css h (λ cs r. released_right w token answer cs r)
  case_right w (Exchange token d) (Exchanged answer) css h = once_right w (ExchangedBy M token d answer) css h (λ cs r. exchanged_right w token d (only (is_callers M) (content_at (map slot_of w.slots) token)) answer cs r)
  case_right w (Dispatch timeout x) (Dispatched answer x') css h = elim h [ inl k ↦ rw k.2 tt | inr k ↦ steps_right w _ _ css k ]
  case_right w (InsertIdle idle) (IdleInserted (Ok made)) css h = once_right w (IdleInsertedBy idle (Ok made)) css h (λ cs r. rw r.2 (tt, tt))
  case_right w (InsertIdle idle) (IdleInserted (Err refused)) css h = once_right w (IdleInsertedBy idle (Err refused)) css h (λ cs r. rw r.2 tt)
  case_right w (Cancel idle) Cancelled css h = rw h (tt, tt)
  case_right w (AnswerOf ticket) (Answered answer) css h = rw h.1 (tt, tt)
  case_right w ForgetStop StopForgotten css h = rw h (tt, tt)
  case_right w LookForStop (Stopped found) css h = rw h (tt, tt)
  case_right w (NewPoller p) (OldPoller q) css h = rw h.1 (tt, tt)
  case_right w call answer css h = absurd h

  pub run_right : (calls : List (LoopCall D P X I)) (answers : List (LoopAnswer D P X I)) (csss : List (List (List (Change D I P)))) (w w' : World D I P) → Run M runs O calls answers csss w w' → AllRight w (changes_of csss)
  run_right [] [] [] w w' h = tt
  run_right (call ∷ calls) (answer ∷ answers) (css ∷ csss) w w' h =
      right-append w (flatten css) (changes_of csss) (case_right w call answer css h.0)
      (subst (λ (u : World D I P). AllRight u (changes_of csss)) (sym (done-joined w css)) (run_right calls answers csss (all_traced w css) w' h.1))
  run_right calls answers csss w w' h = absurd h
