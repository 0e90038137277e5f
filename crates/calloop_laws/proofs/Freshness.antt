-- Calls, sources and idles insert and exchange only what satisfies the condition on what comes into the loop.
use Rattle.std.proofs.Common.{◌≡◌, ℕ, List, [], ◌∷◌, ◌++◌, map, refl, sym, subst, Option, Result, Ok, Err, inl, inr}
use Rattle.calloop_slots.specs.declared.error.Error.{Error}
use Rattle.calloop_slots.specs.declared.error.InsertError.{InsertError}
use Rattle.calloop_slots.specs.declared.token.Token.{Token}
use Rattle.calloop_slots.specs.declared.token.RegistrationToken.{RegistrationToken}
use Rattle.calloop_poll.specs.declared.sys.Readiness.{Readiness}
use Rattle.calloop_slots.specs.declared.list.Content.{Content}
use Rattle.calloop_slots.specs.declared.list.Content.TheVariants.{Vacant, Source, InTurn}
use Rattle.calloop_slots.specs.Tokens.{registration_of}
use Rattle.calloop_slots.specs.Slots.{content_at}
use Rattle.calloop_poll.specs.declared.sys.poll.Pending.{Pending}
use Rattle.calloop_sources.specs.declared.sources.source.PostAction.{PostAction}
use Rattle.calloop_sources.specs.declared.sources.source.PostAction.TheVariants.{Continue, Reregister, Disable as DisableIt, Remove}
use Rattle.calloop_poll.specs.sys.Pollers.{Outside}
use Rattle.calloop_poll.specs.sys.Polls.{PollStep, own_event}
use Rattle.calloop_loop.specs.declared.LoopCall.{LoopCall}
use Rattle.calloop_loop.specs.declared.LoopCall.TheVariants.{Insert, Enable, Update, Disable, Remove as RemoveCall, Release, Exchange, Dispatch, InsertIdle, Cancel, Answer as AnswerOf, ForgetStop, LookForStop, Poller as NewPoller}
use Rattle.calloop_loop.specs.declared.LoopAnswer.{LoopAnswer}
use Rattle.calloop_loop.specs.declared.LoopAnswer.TheVariants.{Inserted, Enabled, Updated, Disabled, Removed, Released, Exchanged, Dispatched, IdleInserted, Cancelled, Answered, StopForgotten, Stopped, Poller as OldPoller}
use Rattle.calloop_sources.specs.sources.Deeds.{Lent}
use Rattle.calloop_sources.specs.sources.Meanings.{Meaning}
use Rattle.calloop_loop.specs.declared.asks.Asked.{Asked}
use Rattle.calloop_loop.specs.declared.asks.Idling.{Idling as Waiter}
use Rattle.calloop_loop.specs.declared.asks.Request.{Request}
use Rattle.calloop_loop.specs.declared.asks.Request.TheVariants.{Insert as AskInsert, Enable as AskEnable, Update as AskUpdate, Disable as AskDisable, SetDeadline as AskSetDeadline, Remove as AskRemove, Idle as AskIdle, Cancel as AskCancel}
use Rattle.calloop_loop.specs.Askings.{Asks, Runs, begun_from}
use Rattle.calloop_loop.specs.Machine.{World, View, IsNew, Change, Holds, visible, slot_of, world_after, world_after_all, Appended}
use Rattle.calloop_loop.proofs.Roles.{left_removed}
use Rattle.calloop_loop.specs.Roles.{only, is_callers, is_adapter}
use Rattle.calloop_loop.specs.Rules.{Doing, Beginning, Settling, Sleeping, Waiting, Gathering, Noticing, Cutting, Serving, Ending, Returning, Idling, RunningIdles, ServingIdle, Leaving, Outcome, Step, Steps, SleptAs, SleptBy, NoticedBy, told_in, CutTo, CutFrom, ActedBy, ReturnedTo, vacate, Case, Run, InsertedBy, AskedIn, SettledIn, TakesUp, as_listed, RemovedIn, EnabledBy, UpdatedBy, DisabledBy, RemovedBy, ReleasedBy, ExchangedIn, ExchangedBy, IdleInsertedBy, OwnOr, Served, ServedAs, ServedFrom, RunFrom, action_of, Once, all_traced, appends}
use Rattle.calloop_loop.specs.Held.{HeldStep, Begun, Pend}
use Rattle.calloop_laws.specs.Laws.{AllBring, flatten, changes_of}
use Rattle.calloop_laws.specs.Freshness.{AreOnly, IsOnly, AsksOnly, RunsOnly, CallBrings, AllCallsBring}
use Rattle.calloop_laws.proofs.Rights.{done-joined}
use Rattle.calloop_loop.proofs.Seen.{seen-all_done, done-append}

fresh-append : {D I P : Type 0} (C : D → Type 0) (S : D → D → Type 0) (cs ds : List (Change D I P)) → AllBring C S cs → AllBring C S ds → AllBring C S (cs ++ ds)
fresh-append C S [] ds h k = k
fresh-append C S (c ∷ cs) ds h k = (h.0, fresh-append C S cs ds h.1 k)

fresh_begun : {D I : Type 0} (C : D → Type 0) (q : Asks D I) (as' : List (Asked D I)) → q.written ≡ as' → AreOnly C q.written → AreOnly C (begun_from as' q).written
fresh_begun C q [] is h = h
fresh_begun {D} {I} C q (a ∷ as') is h = (subst (λ (l : List (Asked D I)). AreOnly C l) is h).1

own_or : {D A B G : Type 0} (c : Content D) → (A → G) → (B → G) → OwnOr c A B → G
own_or InTurn f g h = f h
own_or Vacant f g h = g h
own_or (Source d) f g h = g h

module _ {D I P X : Type 0} (C : D → Type 0) (S : D → D → Type 0) (M : Meaning D P (Lent X (Asks D I))) (runs : Runs D I X) (O : Outside P) (turns : AsksOnly C M) (idles : RunsOnly C runs) where
  -- all that is written inserts no counter
  abbrev Asked' : World D I P → Type 0
  Asked' w = AreOnly C w.held.asks.written

  -- nor do these changes, which leave it so
  abbrev Fresh : World D I P → List (Change D I P) → Type 0
  Fresh w cs = AllBring C S cs × Asked' (world_after_all w cs)

  on-append : (w : World D I P) (cs ds : List (Change D I P)) → Fresh w cs → (Asked' (world_after_all w cs) → Fresh (world_after_all w cs) ds) → Fresh w (cs ++ ds)
  on-append w cs ds h f = (let k = f h.1 in (fresh-append C S cs ds h.0 k.0, subst (λ (u : World D I P). Asked' u) (sym (done-append w cs ds)) k.1))

  cut_fresh : (w : World D I P) (e : Pending) (x : X) (cs : List (Change D I P)) (b : Doing D X) (c : Content D) → CutTo M e c (visible w) x cs b → Asked' w → Fresh w cs
  cut_fresh w e x cs b Vacant h k = rw h.0 ((tt, (tt, tt)), k)
  cut_fresh w e x cs b InTurn h k = rw h.0 ((tt, (tt, tt)), k)
  cut_fresh w e x cs b (Source d) h k = rw h.6 ((tt, (tt, (tt, (tt, (tt, tt))))), turns d h.0 _ _ _ _ h.2 h.5 k)

  from_fresh : (w : World D I P) (es : List Pending) (x : X) (cs : List (Change D I P)) (b : Doing D X) → CutFrom M es (visible w) x cs b → Asked' w → Fresh w cs
  from_fresh w [] x cs b h k = rw h.0 (tt, k)
  from_fresh w (e ∷ es) x cs b h k = cut_fresh w e x cs b (content_at (map slot_of w.slots) (registration_of e.token)) h k

  emptied_fresh : (w : World D I P) (token : RegistrationToken) (c : Content D) → Asked' w → Fresh w (vacate token c)
  emptied_fresh w token Vacant k = (tt, k)
  emptied_fresh w token (Source d) k = (tt, k)
  emptied_fresh w token InTurn k = ((tt, tt), k)

  acted_fresh : (w : World D I P) (token : RegistrationToken) (d : D) (answer : Result PostAction Error) (cs : List (Change D I P)) (e : D) (told : Result (Unit {0}) Error) → ActedBy M token d answer (visible w) cs e told → Asked' w → Fresh w cs
  acted_fresh w token d (Ok Continue) cs e told h k = rw h.0 ((tt, tt), k)
  acted_fresh w token d (Ok Reregister) cs e told h k = rw h.2 ((tt, (tt, (tt, tt))), k)
  acted_fresh w token d (Ok DisableIt) cs e told h k = rw h.2 ((tt, (tt, (tt, tt))), k)
  acted_fresh w token d (Ok Remove) cs e told h k = rw h.0 (let g = emptied_fresh (world_after w (Holds (Pend Continue))) token (content_at (map slot_of w.slots) token) k in ((tt, g.0), g.1))
  acted_fresh w token d (Err error) cs e told h k = rw h.0 ((tt, tt), k)

  returned_fresh : (w : World D I P) (token : RegistrationToken) (d : D) (c : Content D) (cs : List (Change D I P)) → ReturnedTo M token d c (visible w) cs → Asked' w → Fresh w cs
  returned_fresh w token d InTurn cs h k = rw h ((tt, tt), k)
  returned_fresh w token d Vacant cs h k = rw h.5 ((tt, (tt, (tt, (tt, tt)))), k)
  returned_fresh w token d (Source f) cs h k = rw h.5 ((tt, (tt, (tt, (tt, tt)))), k)

  appends_fresh : (given : List (Readiness × Token)) (w : World D I P) → Asked' w → Fresh w (appends given)
  appends_fresh [] w k = (tt, k)
  appends_fresh (e ∷ es) w k = (let r = appends_fresh es (world_after w (Appended (own_event e))) k in ((tt, r.0), r.1))

  slept_as : (w : World D I P) (timeout : Option ℕ) (later : List RegistrationToken) (given : List (Readiness × Token)) (answer : Result (Unit {0}) Error) (x : X) (cs : List (Change D I P)) (b : Doing D X) → SleptAs timeout later given answer x cs b → Asked' w → Fresh w cs
  slept_as w timeout later given (Ok u) x cs b h k = rw h.0 (appends_fresh given w k)
  slept_as w timeout later given (Err e) x cs b h k = rw h.0 (tt, k)

  slept_fresh : (w : World D I P) (timeout : Option ℕ) (token : RegistrationToken) (later : List RegistrationToken) (x : X) (cs : List (Change D I P)) (b : Doing D X) (c : Content D) → SleptBy M timeout token later c (visible w) x cs b → Asked' w → Fresh w cs
  slept_fresh w timeout token later x cs b Vacant h k = rw h.0 (tt, k)
  slept_fresh w timeout token later x cs b InTurn h k = rw h.0 (tt, k)
  slept_fresh w timeout token later x cs b (Source d) h k = rw h.6 (let g = slept_as (world_after_all w (told_in token h.0)) timeout later h.1 h.2 x h.3 b h.5 k in ((tt, (tt, (tt, g.0))), g.1))

  noticed_fresh : (w : World D I P) (from : ℕ) (token : RegistrationToken) (later : List RegistrationToken) (x : X) (cs : List (Change D I P)) (b : Doing D X) (c : Content D) → NoticedBy M from token later c (visible w) x cs b → Asked' w → Fresh w cs
  noticed_fresh w from token later x cs b Vacant h k = rw h.0 (tt, k)
  noticed_fresh w from token later x cs b InTurn h k = rw h.0 (tt, k)
  noticed_fresh w from token later x cs b (Source d) h k = rw h.2 ((tt, (tt, (tt, tt))), k)

  inserted_fresh : (w : World D I P) (d : D) (answer : Result RegistrationToken (InsertError D)) (cs : List (Change D I P)) → C d → InsertedBy M d answer (visible w) cs → Asked' w → Fresh w cs
  inserted_fresh w d (Ok token) cs n h k = rw h.6 ((n, (tt, (tt, (tt, tt)))), k)
  inserted_fresh w d (Err refused) cs n h k = elim h [ inl g ↦ rw g.2 (tt, k) | inr g ↦ rw g.4 ((n, (tt, (tt, tt))), k) ]

  asked_fresh : (w : World D I P) (R : D → Outcome → List (PollStep P) → D → Type 0) (noted : D → Outcome → HeldStep D I) (token : RegistrationToken) (c : Content D) (answer : Outcome) (cs : List (Change D I P))
      → ((d : D) (a : Outcome) → Asked' w → Asked' (world_after w (Holds (noted d a)))) → AskedIn R noted token c answer cs → Asked' w → Fresh w cs
  asked_fresh w R noted token Vacant answer cs f h k = rw h.1 (tt, k)
  asked_fresh w R noted token InTurn answer cs f h k = rw h.1 (tt, k)
  asked_fresh w R noted token (Source d) answer cs f h k = rw h.3 ((tt, (tt, (tt, (tt, tt)))), f d answer k)

  removed_fresh : (w : World D I P) (token : RegistrationToken) (c : Content D) (answer : Option D) (cs : List (Change D I P)) → RemovedIn M token c answer (visible w) cs → Asked' w → Fresh w cs
  removed_fresh w token Vacant answer cs h k = rw h.1 (tt, k)
  removed_fresh w token InTurn answer cs h k = rw h.1 (tt, k)
  removed_fresh w token (Source d) answer cs h k = rw h.6 ((tt, (tt, (tt, (tt, tt)))), k)

  -- a request, and its answer after it
  told_fresh : (w : World D I P) (ds cs : List (Change D I P)) (step : HeldStep D I) → ((u : World D I P) → Asked' u → Asked' (world_after u (Holds step))) → cs ≡ ds ++ Holds step ∷ [] → Fresh w ds → Fresh w cs
  told_fresh w ds cs step f is h = rw is (on-append w ds (Holds step ∷ []) h (λ k. ((tt, tt), f (world_after_all w ds) k)))

  served_as_fresh : (w : World D I P) (request : Request D I) (answer : Outcome) (cs : List (Change D I P)) → ServedAs M request answer (visible w) cs → Asked' w → Fresh w cs
  served_as_fresh w (AskEnable token) answer cs h k = own_or (content_at (map slot_of w.slots) token) (λ g. rw g.1 (tt, k)) (λ g. asked_fresh w _ _ token (only (is_callers M) (content_at (map slot_of w.slots) token)) answer cs (λ d a l. l) g k) h
  served_as_fresh w (AskUpdate token) answer cs h k = own_or (content_at (map slot_of w.slots) token) (λ g. rw g.1 ((tt, tt), k)) (λ g. asked_fresh w _ _ token (only (is_callers M) (content_at (map slot_of w.slots) token)) answer cs (λ d a l. l) g k) h
  served_as_fresh w (AskDisable token) answer cs h k = own_or (content_at (map slot_of w.slots) token) (λ g. rw g.1 ((tt, tt), k)) (λ g. asked_fresh w _ _ token (only (is_callers M) (content_at (map slot_of w.slots) token)) answer cs (λ d a l. l) g k) h
  served_as_fresh w (AskSetDeadline token deadline) answer cs h k = own_or (content_at (map slot_of w.slots) token) (λ g. rw g.1 (tt, k)) (λ g. asked_fresh w _ _ token (only (is_callers M) (content_at (map slot_of w.slots) token)) answer cs (λ d a l. l) g k) h
  served_as_fresh w (AskInsert d) answer cs h k = absurd h
  served_as_fresh w (AskRemove token) answer cs h k = absurd h
  served_as_fresh w (AskIdle idle) answer cs h k = absurd h
  served_as_fresh w (AskCancel ticket) answer cs h k = absurd h

  served_fresh : (w : World D I P) (request : Request D I) (cs : List (Change D I P)) → IsOnly C request → Served M request (visible w) cs → Asked' w → Fresh w cs
  served_fresh w (AskInsert d) cs n h k = told_fresh w h.1 cs _ (λ u l. l) h.3 (inserted_fresh w d h.0 h.1 n h.2 k)
  served_fresh w (AskEnable token) cs n h k = told_fresh w h.1 cs _ (λ u l. l) h.3 (served_as_fresh w (AskEnable token) h.0 h.1 h.2 k)
  served_fresh w (AskUpdate token) cs n h k = told_fresh w h.1 cs _ (λ u l. l) h.3 (served_as_fresh w (AskUpdate token) h.0 h.1 h.2 k)
  served_fresh w (AskDisable token) cs n h k = told_fresh w h.1 cs _ (λ u l. l) h.3 (served_as_fresh w (AskDisable token) h.0 h.1 h.2 k)
  served_fresh w (AskSetDeadline token deadline) cs n h k = told_fresh w h.1 cs _ (λ u l. l) h.3 (served_as_fresh w (AskSetDeadline token deadline) h.0 h.1 h.2 k)
  served_fresh w (AskRemove token) cs n h k =
      own_or (content_at (map slot_of w.slots) token) (λ g. rw g ((tt, (tt, (tt, tt))), k)) (λ g. told_fresh w g.1 cs _ (λ u l. l) g.3 (removed_fresh w token (only (is_callers M) (content_at (map slot_of w.slots) token)) g.0 g.1 g.2 k)) h
  served_fresh w (AskIdle idle) cs n h k = rw h ((tt, tt), k)
  served_fresh w (AskCancel ticket) cs n h k = rw h ((tt, (tt, tt)), k)

  served_from_fresh : (w : World D I P) (asked : List (Asked D I)) (on next b : Doing D X) (cs : List (Change D I P)) → ServedFrom M asked on next b (visible w) cs → AreOnly C asked → Asked' w → Fresh w cs
  served_from_fresh w [] on next b cs h l k = rw h.0 (tt, k)
  served_from_fresh w (a ∷ as') on next b cs h l k =
      rw h.2 (let g = served_fresh (world_after w (Holds Begun)) a.request h.0 l.0 h.1 (fresh_begun C w.held.asks w.held.asks.written refl k) in ((tt, g.0), g.1))

  run_from_fresh : (w : World D I P) (is : List (Waiter I)) (x : X) (cs : List (Change D I P)) (b : Doing D X) → RunFrom runs is (visible w) x cs b → Asked' w → Fresh w cs
  run_from_fresh w [] x cs b h k = rw h.0 (tt, k)
  run_from_fresh w (i ∷ is) x cs b h k = rw h.3 ((tt, (tt, tt)), idles i.idle x h.0 _ _ h.2 k)

  settled_fresh : (w : World D I P) (token : RegistrationToken) (c : Content D) (cs : List (Change D I P)) → SettledIn M token c (visible w) cs → Asked' w → Fresh w cs
  settled_fresh w token Vacant cs h k = rw h (tt, k)
  settled_fresh w token InTurn cs h k = rw h (tt, k)
  settled_fresh w token (Source d) cs (inl h) k = asked_fresh w (TakesUp M token w.poll) (as_listed token) token (Source d) (Ok tt) cs (λ d a l. l) h k
  settled_fresh w token (Source d) cs (inr h) k = removed_fresh w token (Source d) h.0 cs h.1 k

  released_fresh : (w : World D I P) (token : RegistrationToken) (answer : Outcome) (cs : List (Change D I P)) → ReleasedBy M token answer (visible w) cs → Asked' w → Fresh w cs
  released_fresh w token (Ok u) cs h k = (let r = left_removed M token (only (is_adapter M) (content_at (map slot_of w.slots) token)) (visible w) cs h in removed_fresh w token (only (is_adapter M) (content_at (map slot_of w.slots) token)) r.0 cs r.1 k)
  released_fresh w token (Err e) cs h k = asked_fresh w _ _ token (only (is_adapter M) (content_at (map slot_of w.slots) token)) (Err e) cs (λ d a l. l) h k

  step_fresh : (w : World D I P) (a b : Doing D X) (cs : List (Change D I P)) → Step M runs O (visible w) a cs b → Asked' w → Fresh w cs
  step_fresh w (Beginning timeout x) b cs h k = rw h.4 ((tt, (tt, (tt, tt))), k)
  step_fresh w (Settling timeout [] x) b cs h k = rw h.0 (tt, k)
  step_fresh w (Settling timeout (t ∷ later) x) b cs h k = settled_fresh w t (only (is_adapter M) (content_at (map slot_of w.slots) t)) cs h.0 k
  step_fresh w (Sleeping timeout [] x) b cs h k = rw h.0 (tt, k)
  step_fresh w (Sleeping timeout (t ∷ later) x) b cs h k = slept_fresh w timeout t later x cs b (content_at (map slot_of w.slots) t) h k
  step_fresh w (Waiting timeout x) b cs h k = rw h.5 ((tt, (tt, tt)), k)
  step_fresh w (Gathering now given x) b cs h k = rw h.1 ((tt, tt), k)
  step_fresh w (Noticing from [] x) b cs h k = rw h.0 (tt, k)
  step_fresh w (Noticing from (t ∷ later) x) b cs h k = noticed_fresh w from t later x cs b (content_at (map slot_of w.slots) t) h k
  step_fresh w (Cutting x) b cs h k = from_fresh w w.poll.batch x cs b h k
  step_fresh w (Serving token d answer x) b cs h k = served_from_fresh w w.held.asks.written _ _ b cs h k k
  step_fresh w (Ending token d answer x) b cs h k = acted_fresh w token d (action_of answer w.held.pending) cs h.0 h.1 h.2 k
  step_fresh w (Returning token d told x) b cs h k = returned_fresh w token d (content_at (map slot_of w.slots) token) cs h.0 k
  step_fresh w (Idling x) b cs h k = rw h.0 ((tt, tt), k)
  step_fresh w (RunningIdles x) b cs h k = run_from_fresh w w.held.asks.running x cs b h k
  step_fresh w (ServingIdle x) b cs h k = served_from_fresh w w.held.asks.written _ _ b cs h k k
  step_fresh w (Leaving answer x) b cs h k = absurd h

  steps_fresh : (w : World D I P) (a b : Doing D X) (css : List (List (Change D I P))) → Steps M runs O (visible w) a css b → Asked' w → Fresh w (flatten css)
  steps_fresh w a b [] h k = (tt, k)
  steps_fresh w a b (cs ∷ css) h k =
      on-append w cs (flatten css) (step_fresh w a h.0 cs h.1 k) (steps_fresh (world_after_all w cs) h.0 b css (subst (λ (v : View D I P). Steps M runs O v h.0 css b) (sym (seen-all_done w cs)) h.3))

  exchanged_fresh : (w : World D I P) (token : RegistrationToken) (new : D) (c : Content D) (answer : Result D D) (cs : List (Change D I P)) → CallBrings {I = I} {P = P} {X = X} C S (Exchange token new) (Exchanged answer) → ExchangedIn token new c answer cs → Asked' w → Fresh w cs
  exchanged_fresh w token new Vacant answer cs n h k = rw h.1 (tt, k)
  exchanged_fresh w token new InTurn answer cs n h k = rw h.1 (tt, k)
  exchanged_fresh w token new (Source d) (Ok e) cs n h k = (let same : e ≡ d = cc in rw h.1 ((subst (λ (o : D). CallBrings {I = I} {P = P} {X = X} C S (Exchange token new) (Exchanged (Ok o))) same n, tt), k))
  exchanged_fresh w token new (Source d) (Err e) cs n h k = cc

  one_fresh : (w : World D I P) (cs : List (Change D I P)) → Fresh w cs → Fresh w (cs ++ [])
  one_fresh w cs h = on-append w cs [] h (λ k. (tt, k))

  once_fresh : (w : World D I P) (R : View D I P → List (Change D I P) → Type 0) (css : List (List (Change D I P))) → Once O R (visible w) css → ((cs : List (Change D I P)) → R (visible w) cs → Fresh w cs) → Fresh w (flatten css)
  once_fresh w R [] h f = absurd h
  once_fresh w R (cs ∷ []) h f = one_fresh w cs (f cs h.0)
  once_fresh w R (cs ∷ ds ∷ css) h f = absurd h

  case_fresh : (w : World D I P) (call : LoopCall D P X I) (answer : LoopAnswer D P X I) (css : List (List (Change D I P))) → CallBrings C S call answer → Case M runs O call answer (visible w) css → Asked' w → Fresh w (flatten css)
  case_fresh w (Insert d) (Inserted answer) css n h k = once_fresh w (InsertedBy M d answer) css h (λ cs r. inserted_fresh w d answer cs n r k)
  case_fresh w (Enable token) (Enabled answer) css n h k = once_fresh w (EnabledBy M token answer) css h (λ cs r. asked_fresh w _ _ token (only (is_callers M) (content_at (map slot_of w.slots) token)) answer cs (λ d a l. l) r k)
  case_fresh w (Update token) (Updated answer) css n h k = once_fresh w (UpdatedBy M token answer) css h (λ cs r. asked_fresh w _ _ token (only (is_callers M) (content_at (map slot_of w.slots) token)) answer cs (λ d a l. l) r k)
  case_fresh w (Disable token) (Disabled answer) css n h k = once_fresh w (DisabledBy M token answer) css h (λ cs r. asked_fresh w _ _ token (only (is_callers M) (content_at (map slot_of w.slots) token)) answer cs (λ d a l. l) r k)
  case_fresh w (RemoveCall token) (Removed answer) css n h k = once_fresh w (RemovedBy M token answer) css h (λ cs r. removed_fresh w token (only (is_callers M) (content_at (map slot_of w.slots) token)) answer cs r k)
  case_fresh w (Release token) (Released answer) css n h k = once_fresh w (ReleasedBy M token answer) css h (λ cs r. released_fresh w token answer cs r k)
  case_fresh w (Exchange token d) (Exchanged answer) css n h k = once_fresh w (ExchangedBy M token d answer) css h (λ cs r. exchanged_fresh w token d (only (is_callers M) (content_at (map slot_of w.slots) token)) answer cs n r k)
  case_fresh w (Dispatch timeout x) (Dispatched answer x') css n h k = elim h [ inl g ↦ rw g.2 (tt, k) | inr g ↦ steps_fresh w _ _ css g k ]
  case_fresh w (InsertIdle idle) (IdleInserted (Ok made)) css n h k = once_fresh w (IdleInsertedBy idle (Ok made)) css h (λ cs r. rw r.2 ((tt, tt), k))
  case_fresh w (InsertIdle idle) (IdleInserted (Err refused)) css n h k = once_fresh w (IdleInsertedBy idle (Err refused)) css h (λ cs r. rw r.2 (tt, k))
  case_fresh w (Cancel idle) Cancelled css n h k = rw h ((tt, tt), k)
  case_fresh w (AnswerOf ticket) (Answered answer) css n h k = rw h.1 ((tt, tt), k)
  case_fresh w ForgetStop StopForgotten css n h k = rw h ((tt, tt), k)
  case_fresh w LookForStop (Stopped found) css n h k = rw h ((tt, tt), k)
  case_fresh w (NewPoller p) (OldPoller q) css n h k = rw h.1 ((tt, tt), k)
  case_fresh w call answer css n h k = absurd h

  run_fresh : (calls : List (LoopCall D P X I)) (answers : List (LoopAnswer D P X I)) (csss : List (List (List (Change D I P)))) (w w' : World D I P) → AllCallsBring C S calls answers → Run M runs O calls answers csss w w' → Asked' w → AllBring C S (changes_of csss)
  run_fresh [] [] [] w w' n h k = tt
  run_fresh (call ∷ calls) (answer ∷ answers) (css ∷ csss) w w' n h k =
      let g = case_fresh w call answer css n.0 h.0 k in
      fresh-append C S (flatten css) (changes_of csss) g.0
      (run_fresh calls answers csss (all_traced w css) w' n.1 h.1 (subst (λ (u : World D I P). Asked' u) (done-joined M runs O w css) g.1))
  run_fresh calls answers csss w w' n h k = absurd h

  -- a run from the state in which nothing has happened
  pub new_run_fresh : (calls : List (LoopCall D P X I)) (answers : List (LoopAnswer D P X I)) (csss : List (List (List (Change D I P)))) (w w' : World D I P) → IsNew w → AllCallsBring C S calls answers → Run M runs O calls answers csss w w' → AllBring C S (changes_of csss)
  new_run_fresh calls answers csss w w' new n h = run_fresh calls answers csss w w' n h (rw new.held tt)

-- If anything may be inserted, nothing has to be checked of what is.

any_request : {D I : Type 0} (request : Request D I) → IsOnly (λ d. Unit {0}) request
any_request (AskInsert d) = tt
any_request (AskEnable token) = tt
any_request (AskUpdate token) = tt
any_request (AskDisable token) = tt
any_request (AskSetDeadline token deadline) = tt
any_request (AskRemove token) = tt
any_request (AskIdle idle) = tt
any_request (AskCancel ticket) = tt

any_fits : {D I : Type 0} (as' : List (Asked D I)) → AreOnly (λ d. Unit {0}) as'
any_fits [] = tt
any_fits (a ∷ as') = (any_request a.request, any_fits as')

pub any_asks : {D I P X : Type 0} (M : Meaning D P (Lent X (Asks D I))) → AsksOnly (λ d. Unit {0}) M
any_asks M s t v readiness token turn steps h before = any_fits turn.asked_after.written

pub any_runs : {D I X : Type 0} (runs : Runs D I X) → RunsOnly (λ d. Unit {0}) runs
any_runs runs i x y q r h before = any_fits r.written
