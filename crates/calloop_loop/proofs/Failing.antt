-- An error of a dispatch comes from its wait or from a source, or no memory was left.
use Rattle.std.proofs.Common.{◌≡◌, ℕ, List, [], ◌∷◌, Bool, refl, sym, ◌∙◌, Option, Result, Ok, Err, inl, inr}
use Rattle.std.specs.Prelude.{IfErr}
use Rattle.std.specs.declared.io.Error.{Error as Cause}
use Rattle.calloop_slots.specs.declared.error.Error.{Error}
use Rattle.calloop_slots.specs.declared.error.Error.TheVariants.{OutOfMemory}
use Rattle.calloop_slots.specs.declared.token.Token.{Token}
use Rattle.calloop_slots.specs.declared.token.RegistrationToken.{RegistrationToken}
use Rattle.calloop_slots.specs.declared.list.Content.{Content}
use Rattle.calloop_slots.specs.declared.list.Content.TheVariants.{Vacant, Source, InTurn}
use Rattle.calloop_wake.specs.declared.watch.Watch.{Watch}
use Rattle.calloop_slots.specs.Tokens.{registration_of}
use Rattle.calloop_slots.specs.Slots.{content_at}
use Rattle.calloop_poll.specs.declared.sys.Readiness.{Readiness}
use Rattle.calloop_poll.specs.declared.sys.poll.Pending.{Pending}
use Rattle.calloop_sources.specs.declared.sources.source.PostAction.{PostAction}
use Rattle.calloop_sources.specs.declared.sources.source.PostAction.TheVariants.{Continue, Reregister, Disable as DisableIt, Remove}
use Rattle.calloop_sources.specs.sources.Deeds.{Deed, Lent, Reregistered, Unregistered, Slept}
use Rattle.calloop_sources.specs.sources.Meanings.{Meaning}
use Rattle.calloop_poll.specs.sys.Pollers.{Outside}
use Rattle.calloop_poll.specs.sys.Polls.{PollView, PollStep}
use Rattle.calloop_poll.specs.sys.Waits.{Waited}
use Rattle.calloop_loop.specs.declared.asks.Asked.{Asked}
use Rattle.calloop_loop.specs.declared.asks.Idling.{Idling as Waiter}
use Rattle.calloop_loop.specs.Askings.{Asks, Runs}
use Rattle.calloop_loop.specs.DispatchErrors.{FailsWith, IsOfDispatch}
use Rattle.calloop_loop.specs.Held.{is_listed}
use Rattle.calloop_loop.specs.Machine.{View, Change, all_viewed}
use Rattle.calloop_loop.specs.Rules.{Doing, Beginning, Settling, Sleeping, Waiting, Gathering, Noticing, Cutting, Serving, Ending, Returning, Idling, RunningIdles, ServingIdle, Leaving, Outcome, Step, Steps, SleptAs, SleptBy, NoticedBy, CutTo, CutFrom, RegisteredBy, ActedBy, ServedFrom, RunFrom, DispatchedBy, action_of, after_wait, after_turn}

-- an answer, of which only an error matters
of_error : {A : Type 0} (F : Error → Type 0) (answer : Result A Error) → ((e : Error) → answer ≡ Err e → F e) → IfErr answer F
of_error F (Ok a) f = tt
of_error F (Err e) f = f e refl

-- what a source asked for itself in its turn is no error
of_action : (F : Error → Type 0) (answer : Result PostAction Error) (pending : PostAction) → IfErr answer F → IfErr (action_of answer pending) F
of_action F (Ok Continue) pending k = tt
of_action F (Ok Reregister) pending k = tt
of_action F (Ok DisableIt) pending k = tt
of_action F (Ok Remove) pending k = tt
of_action F (Err e) pending k = k

module _ {D I P X : Type 0} (M : Meaning D P (Lent X (Asks D I))) (runs : Runs D I X) (O : Outside P) where
  abbrev From : Error → Type 0
  From e = IsOfDispatch M O e

  -- an error on its way out comes from there
  abbrev IsFounded : Doing D X → Type 0
  IsFounded (Serving token d answer x) = IfErr answer From
  IsFounded (Ending token d answer x) = IfErr answer From
  IsFounded (Returning token d told x) = IfErr told From
  IsFounded (Leaving answer x) = IfErr answer From
  IsFounded (Beginning timeout x) = Unit {0}
  IsFounded (Settling timeout later x) = Unit {0}
  IsFounded (Sleeping timeout later x) = Unit {0}
  IsFounded (Waiting timeout x) = Unit {0}
  IsFounded (Gathering now given x) = Unit {0}
  IsFounded (Noticing from later x) = Unit {0}
  IsFounded (Cutting x) = Unit {0}
  IsFounded (Idling x) = Unit {0}
  IsFounded (RunningIdles x) = Unit {0}
  IsFounded (ServingIdle x) = Unit {0}

  of_source : (d d' : D) (v : PollView P) (deed : Deed (Lent X (Asks D I))) (steps : List (PollStep P)) (e : Error) → M.does d v deed steps d' → FailsWith e deed → From e
  of_source d d' v deed steps e does fails = inr (inr (record { before = d; poll = v; deed = deed; steps = steps; after = d'; does = does; fails = fails }))

  slept_as : (d d' : D) (v : PollView P) (timeout : Option ℕ) (later : List RegistrationToken) (given : List (Readiness × Token)) (answer : Outcome) (x : X) (cs : List (Change D I P)) (b : Doing D X) → M.does d v (Slept given answer) [] d' → SleptAs timeout later given answer x cs b → IsFounded b
  slept_as d d' v timeout later given (Ok u) x cs b does h = rw h.1 tt
  slept_as d d' v timeout later given (Err e) x cs b does h = rw h.1 (of_source d d' v (Slept given (Err e)) [] e does refl)

  slept_founded : (v : View D I P) (timeout : Option ℕ) (token : RegistrationToken) (later : List RegistrationToken) (x : X) (cs : List (Change D I P)) (b : Doing D X) (c : Content D) → SleptBy M timeout token later c v x cs b → IsFounded b
  slept_founded v timeout token later x cs b Vacant h = rw h.1 tt
  slept_founded v timeout token later x cs b InTurn h = rw h.1 tt
  slept_founded v timeout token later x cs b (Source d) h = slept_as d h.0 v.poll timeout later h.1 h.2 x h.3 b h.4 h.5

  noticed_founded : (v : View D I P) (from : ℕ) (token : RegistrationToken) (later : List RegistrationToken) (x : X) (cs : List (Change D I P)) (b : Doing D X) (c : Content D) → NoticedBy M from token later c v x cs b → IsFounded b
  noticed_founded v from token later x cs b Vacant h = rw h.1 tt
  noticed_founded v from token later x cs b InTurn h = rw h.1 tt
  noticed_founded v from token later x cs b (Source d) h = rw h.3 tt

  waited_founded : (v : PollView P) (timeout : Option ℕ) (answer : Result ℕ Cause) (given : List (ℕ × Readiness)) (p : P) (w : Watch) (x : X) → Waited O v timeout answer given p w → IsFounded (after_wait answer given x)
  waited_founded v timeout (Ok now) given p w x h = tt
  waited_founded v timeout (Err cause) given p w x h = inr (inl (record { before = v; timeout = timeout; cause = cause; given = given; after = p; watch = w; waited = h; is = refl }))

  cut_founded : (v : View D I P) (e : Pending) (x : X) (cs : List (Change D I P)) (b : Doing D X) (c : Content D) → CutTo M e c v x cs b → IsFounded b
  cut_founded v e x cs b Vacant h = rw h.1 tt
  cut_founded v e x cs b InTurn h = rw h.1 tt
  cut_founded v e x cs b (Source d) h = rw h.7 (of_error From h.1 (λ cause is. of_source d h.0 _ _ h.2 cause h.5 is))

  from_founded : (v : View D I P) (es : List Pending) (x : X) (cs : List (Change D I P)) (b : Doing D X) → CutFrom M es v x cs b → IsFounded b
  from_founded v [] x cs b h = rw h.1 tt
  from_founded v (e ∷ es) x cs b h = cut_founded v e x cs b (content_at v.slots (registration_of e.token)) h

  served_founded : (v : View D I P) (asked : List (Asked D I)) (on next b : Doing D X) (cs : List (Change D I P)) → ServedFrom M asked on next b v cs → IsFounded on → IsFounded next → IsFounded b
  served_founded v [] on next b cs h k l = rw h.1 l
  served_founded v (a ∷ as') on next b cs h k l = rw h.3 k

  registered_founded : (v : PollView P) (token : RegistrationToken) (listed : Bool) (d e : D) (told : Outcome) (steps : List (PollStep P)) → RegisteredBy M Reregistered token listed v d told steps e → IfErr told From
  registered_founded v token listed d e told steps h =
      of_error From told (λ cause is.
      elim h [ inl k ↦ (let same : Err OutOfMemory ≡ Err cause = sym k.1 ∙ is in inl (cc)) | inr k ↦ of_source d e v _ steps cause k.1 is ])

  acted_founded : (v : View D I P) (token : RegistrationToken) (d : D) (answer : Result PostAction Error) (cs : List (Change D I P)) (e : D) (told : Outcome) → ActedBy M token d answer v cs e told → IfErr answer From → IfErr told From
  acted_founded v token d (Ok Continue) cs e told h k = rw h.2 tt
  acted_founded v token d (Ok Reregister) cs e told h k = registered_founded v.poll token (is_listed token v.held.lifecycle) d e told h.0 h.1
  acted_founded v token d (Ok DisableIt) cs e told h k = of_error From told (λ cause is. of_source d e v.poll (Unregistered told) h.0 cause h.1 is)
  acted_founded v token d (Ok Remove) cs e told h k = rw h.2 tt
  acted_founded v token d (Err error) cs e told h k = rw h.2 k

  turn_founded : (told : Outcome) (x : X) → IfErr told From → IsFounded (after_turn told x)
  turn_founded (Ok u) x k = tt
  turn_founded (Err e) x k = k

  run_founded : (idles : List (Waiter I)) (v : View D I P) (x : X) (cs : List (Change D I P)) (b : Doing D X) → RunFrom runs idles v x cs b → IsFounded b
  run_founded [] v x cs b h = rw h.1 tt
  run_founded (i ∷ is) v x cs b h = rw h.4 tt

  step_founded : (v : View D I P) (a b : Doing D X) (cs : List (Change D I P)) → Step M runs O v a cs b → IsFounded a → IsFounded b
  step_founded v (Beginning timeout x) b cs h k = rw h.5 tt
  step_founded v (Settling timeout [] x) b cs h k = rw h.1 tt
  step_founded v (Settling timeout (t ∷ later) x) b cs h k = rw h.1 tt
  step_founded v (Sleeping timeout [] x) b cs h k = rw h.1 tt
  step_founded v (Sleeping timeout (t ∷ later) x) b cs h k = slept_founded v timeout t later x cs b (content_at v.slots t) h
  step_founded v (Waiting timeout x) b cs h k = rw h.6 (waited_founded v.poll timeout h.0 h.1 h.2 h.3 x h.4)
  step_founded v (Gathering now given x) b cs h k = rw h.2 tt
  step_founded v (Noticing from [] x) b cs h k = rw h.1 tt
  step_founded v (Noticing from (t ∷ later) x) b cs h k = noticed_founded v from t later x cs b (content_at v.slots t) h
  step_founded v (Cutting x) b cs h k = from_founded v v.poll.batch x cs b h
  step_founded v (Serving token d answer x) b cs h k = served_founded v v.held.asks.written (Serving token d answer x) (Ending token d answer x) b cs h k k
  step_founded v (Ending token d answer x) b cs h k = rw h.3 (acted_founded v token d (action_of answer v.held.pending) cs h.0 h.1 h.2 (of_action From answer v.held.pending k))
  step_founded v (Returning token d told x) b cs h k = rw h.1 (turn_founded told x k)
  step_founded v (Idling x) b cs h k = rw h.1 tt
  step_founded v (RunningIdles x) b cs h k = run_founded v.held.asks.running v x cs b h
  step_founded v (ServingIdle x) b cs h k = served_founded v v.held.asks.written (ServingIdle x) (RunningIdles x) b cs h tt tt
  step_founded v (Leaving answer x) b cs h k = absurd h

  steps_founded : (v : View D I P) (a b : Doing D X) (css : List (List (Change D I P))) → Steps M runs O v a css b → IsFounded a → IsFounded b
  steps_founded v a b [] h k = rw h k
  steps_founded v a b (cs ∷ css) h k = steps_founded (all_viewed v cs) h.0 b css h.3 (step_founded v a h.0 cs h.1 k)

  -- the error of a dispatch
  pub dispatch_founded : (v : View D I P) (timeout : Option ℕ) (x x' : X) (answer : Outcome) (css : List (List (Change D I P))) → DispatchedBy M runs O timeout x answer x' v css → IfErr answer (IsOfDispatch M O)
  dispatch_founded v timeout x x' answer css (inl h) = rw h.0 (inl refl)
  dispatch_founded v timeout x x' answer css (inr h) = steps_founded v (Beginning timeout x) (Leaving answer x') css h tt
