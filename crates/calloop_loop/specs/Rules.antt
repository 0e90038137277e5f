-- The rules of the loop: which changes each call may make. A rule speaks of what the loop holds before, and allows lists of
-- changes; it leaves open the answers of source, poller and callback. In calloop these are the calls of LoopHandle and EventLoop,
-- in loop_logic.rs.
use Rattle.std.specs.Prelude.{
  ◌≡◌,
  ℕ,
  ◌^◌,
  ◌-◌,
  ◌<◌,
  List,
  [],
  ◌∷◌,
  ◌++◌,
  drop,
  length,
  ◌⊎◌,
  Bool,
  true,
  false,
  ◌&&◌,
  Option,
  Some,
  None,
  Result,
  Ok,
  Err,
}
use Rattle.std.specs.declared.io.Error.{Error as Cause}
use Rattle.calloop_slots.specs.Widths.{most_slots}
use Rattle.calloop_slots.specs.declared.error.Error.{Error}
use Rattle.calloop_slots.specs.declared.error.Error.TheVariants.{InvalidToken, IoError, OutOfMemory, OwnTurn}
use Rattle.calloop_slots.specs.declared.error.InsertError.{InsertError}
use Rattle.calloop_slots.specs.declared.token.Token.{Token}
use Rattle.calloop_slots.specs.declared.token.TokenFactory.{TokenFactory}
use Rattle.calloop_slots.specs.declared.token.RegistrationToken.{RegistrationToken}
use Rattle.calloop_slots.specs.declared.wheel.Instant.{Instant}
use Rattle.calloop_slots.specs.declared.list.Content.{Content}
use Rattle.calloop_slots.specs.declared.list.Slot.{Slot}
use Rattle.calloop_slots.specs.declared.list.Content.TheVariants.{Vacant, Source, InTurn}
use Rattle.calloop_slots.specs.Tokens.{registration_of}
use Rattle.calloop_wake.specs.declared.watch.Watch.{Watch}
use Rattle.calloop_slots.specs.Slots.{content_at, first_vacant, next_registration, CannotClaim}
use Rattle.calloop_poll.specs.declared.sys.Readiness.{Readiness}
use Rattle.calloop_poll.specs.declared.sys.poll.Pending.{Pending}
use Rattle.calloop_sources.specs.declared.sources.dispatch.Dispatcher.{Dispatcher}
use Rattle.calloop_sources.specs.declared.sources.source.PostAction.{PostAction}
use Rattle.calloop_sources.specs.declared.sources.source.PostAction.TheVariants.{
  Continue,
  Reregister,
  Disable as DisableIt,
  Remove,
}
use Rattle.calloop_sources.specs.sources.Deeds.{Deed, Registered, Reregistered, Unregistered, Turned, Slept, Noticed, Lent, lend}
use Rattle.calloop_sources.specs.sources.Meanings.{Meaning}
use Rattle.calloop_sources.specs.sources.SetDeadlines.{SetsDeadline}
use Rattle.calloop_poll.specs.sys.Pollers.{Outside, nanos_of}
use Rattle.calloop_poll.specs.sys.Events.{events_of}
use Rattle.calloop_poll.specs.sys.Polls.{PollView, PollStep, AllAllowed, own_event, after_cut}
use Rattle.calloop_poll.specs.sys.Waits.{Waited}
use Rattle.calloop_poll.specs.sys.TakenMarks.{AreTaken}
use Rattle.calloop_wake.specs.Watches.{with_note}
use Rattle.calloop_wake.specs.declared.notes.Note.TheVariants.{Counted, Marked}
use Rattle.calloop_loop.specs.declared.LoopCall.{LoopCall}
use Rattle.calloop_loop.specs.declared.LoopCall.TheVariants.{
  Insert,
  Enable,
  Update,
  Disable,
  Remove as RemoveCall,
  Release,
  Exchange,
  Dispatch,
  InsertIdle,
  Cancel,
  Answer as AnswerOf,
  ForgetStop,
  LookForStop,
  Poller as NewPoller,
}
use Rattle.calloop_loop.specs.declared.LoopAnswer.{LoopAnswer}
use Rattle.calloop_loop.specs.declared.LoopAnswer.TheVariants.{
  Inserted,
  Enabled,
  Updated,
  Disabled,
  Removed,
  Released,
  Exchanged,
  Dispatched,
  IdleInserted,
  Cancelled,
  Answered,
  StopForgotten,
  Stopped,
  Poller as OldPoller,
}
use Rattle.calloop_loop.specs.declared.asks.Answer.{Answer}
use Rattle.calloop_loop.specs.declared.asks.Answer.TheVariants.{
  Done,
  Inserted as InsertedAnswer,
  NotInserted,
  Removed as RemovedAnswer,
  Refused,
}
use Rattle.calloop_loop.specs.declared.asks.Asked.{Asked}
use Rattle.calloop_loop.specs.declared.asks.Idle.{Idle}
use Rattle.calloop_loop.specs.declared.asks.Idling.{Idling as Waiter}
use Rattle.calloop_loop.specs.declared.asks.Request.{Request}
use Rattle.calloop_loop.specs.declared.asks.Request.TheVariants.{
  Insert as AskInsert,
  Enable as AskEnable,
  Update as AskUpdate,
  Disable as AskDisable,
  SetDeadline as AskSetDeadline,
  Remove as AskRemove,
  Idle as AskIdle,
  Cancel as AskCancel,
}
use Rattle.calloop_loop.specs.declared.stops.StopNote.TheVariants.{Forgot, Looked}
use Rattle.calloop_loop.specs.Askings.{Asks, AskStep, Take, Runs, CannotAsk, asks_after, of_turn, answer_under, idle_begun}
use Rattle.calloop_loop.specs.Roles.{only, is_callers, is_adapter}
use Rattle.calloop_loop.specs.Held.{
  HeldStep,
  is_listed,
  Listed,
  Unlisted,
  Pend,
  Asking,
  AskingIn,
  Begun,
  Told,
  Owe,
  Paid,
  Cleared,
  Warned,
  StopNoted,
  IdleIn,
  IdleNew,
  IdleOut,
  IdlesTaken,
  IdleBegun,
}
use Rattle.calloop_loop.specs.Machine.{
  World,
  View,
  Change,
  Put,
  Claim,
  Swapped,
  Polls,
  Polling,
  Watching,
  Counting,
  Holds,
  Appended,
  Gathered,
  Cut,
  Ended,
  AllFit,
  after_change,
  all_viewed,
  world_after_all,
  visible,
}

-- a factory that has given no token: calloop's TokenFactory::new
abbrev pub factory_of : RegistrationToken → TokenFactory
factory_of t = record { registration = t; given = 0 }

-- the answer of a source to its registration, or to a later call
abbrev pub Outcome : Type 0
Outcome = Result (Unit {0}) Error

abbrev pub is_done : Outcome → Bool
is_done (Ok u) = true
is_done (Err e) = false

-- a registration, first or anew, under this token, with a factory that has given none; if the source is to be told of waits
-- and isn't listed yet, the registration fails when there is no room for its entry, and the source is then as it was
abbrev pub RegisteredBy : {D I P X : Type 0} → Meaning D P (Lent X (Asks D I))
    → (TokenFactory → Outcome → TokenFactory → Deed (Lent X (Asks D I))) → RegistrationToken → (listed : Bool) → PollView P
    → D → Outcome → List (PollStep P) → D → Type 0
RegisteredBy M deed token listed v d answer steps e =
    ((M.needs d ≡ true) × (answer ≡ Err OutOfMemory) × (steps ≡ []) × (e ≡ d) × (listed ≡ false))
    ⊎ ((f : TokenFactory) × M.does d v (deed (factory_of token) answer f) steps e)

-- a registration that succeeds lists a source that is to be told of waits
abbrev pub listing_of : {D I P X : Type 0} → Meaning D P (Lent X (Asks D I)) → RegistrationToken → D → Outcome
    → HeldStep D I
listing_of M token d answer = Listed (M.needs d && is_done answer) token

-- when a registration is taken back, its entry is taken out, even if taking it back fails
abbrev pub unlisting_of : {D I : Type 0} → RegistrationToken → D → Outcome → HeldStep D I
unlisting_of token d answer = Unlisted token

-- what a source that is out of its slot did, by R, with what becomes of its entry
abbrev pub ByOne : {D I P : Type 0} → Outside P → (D → Outcome → List (PollStep P) → D → Type 0)
    → (entry : D → Outcome → HeldStep D I) → D → Outcome → D → View D I P → View D I P → Type 0
ByOne {D} {I} {P} O R entry d answer e v u =
    (steps : List (PollStep P)) × R d answer steps e × AllAllowed O v.poll steps
    × (u ≡ all_viewed v (Polls steps ∷ Holds (entry d answer) ∷ []))

-- why an insertion changes nothing: there is no slot, or no room for an entry
abbrev pub CannotInsert : {D : Type 0} → List (Slot D) → (needed : Bool) → Error → Type 0
CannotInsert slots needed error = CannotClaim slots error ⊎ ((needed ≡ true) × (error ≡ OutOfMemory))

-- a source is registered in the first vacant slot, which is claimed for it; if its registration fails, the slot is vacant again
-- under its new version, and the poller is as that registration left it: calloop's register_dispatcher
abbrev pub InsertedBy : {D I P X : Type 0} → Meaning D P (Lent X (Asks D I)) → D
    → Result RegistrationToken (InsertError D) → View D I P → List (Change D I P) → Type 0
InsertedBy {D} {I} {P} M d (Ok token) v cs =
    (first_vacant v.slots < most_slots) × (token ≡ next_registration v.slots)
    × (e : D) × (f : TokenFactory) × (steps : List (PollStep P))
    × M.does d v.poll (Registered (factory_of token) (Ok tt) f) steps e
    × (cs ≡ Claim d ∷ Polls steps ∷ Holds (Listed (M.needs d) token) ∷ Put token.slot (Source e) ∷ [])
InsertedBy {D} {I} {P} M d (Err refused) v cs =
    ((refused.inserted ≡ d) × CannotInsert v.slots (M.needs d) refused.error × (cs ≡ []))
    ⊎ ((first_vacant v.slots < most_slots) × (f : TokenFactory) × (steps : List (PollStep P))
    × M.does d v.poll (Registered (factory_of (next_registration v.slots)) (Err refused.error) f) steps refused.inserted
    × (cs ≡ Claim d ∷ Polls steps ∷ Put (first_vacant v.slots) Vacant ∷ []))

-- a call of the source in a slot: it goes out of the slot, and comes back as the call left it, even after a failure; R relates
-- the source, its answer, its steps, and the source after, and `entry` is what becomes of its entry
abbrev pub AskedIn : {D I P : Type 0} → (D → Outcome → List (PollStep P) → D → Type 0)
    → (entry : D → Outcome → HeldStep D I) → RegistrationToken → Content D → Outcome → List (Change D I P) → Type 0
AskedIn R entry token Vacant answer cs = (answer ≡ Err InvalidToken) × (cs ≡ [])
AskedIn R entry token InTurn answer cs = (answer ≡ Err InvalidToken) × (cs ≡ [])
AskedIn {D} {I} {P} R entry token (Source d) answer cs =
    (e : D) × (steps : List (PollStep P)) × R d answer steps e
    × (cs ≡ Put token.slot InTurn ∷ Polls steps ∷ Holds (entry d answer) ∷ Put token.slot (Source e) ∷ [])

-- the source that a token names is registered, with a factory that has given no token
abbrev pub EnabledBy : {D I P X : Type 0} → Meaning D P (Lent X (Asks D I)) → RegistrationToken
    → Result (Unit {0}) Error → View D I P → List (Change D I P) → Type 0
EnabledBy M token answer v cs =
    AskedIn (RegisteredBy M Registered token (is_listed token v.held.lifecycle) v.poll) (listing_of M token) token
    (only (is_callers M) (content_at v.slots token)) answer cs

-- it is registered anew
abbrev pub UpdatedBy : {D I P X : Type 0} → Meaning D P (Lent X (Asks D I)) → RegistrationToken
    → Result (Unit {0}) Error → View D I P → List (Change D I P) → Type 0
UpdatedBy M token answer v cs =
    AskedIn (RegisteredBy M Reregistered token (is_listed token v.held.lifecycle) v.poll) (listing_of M token) token
    (only (is_callers M) (content_at v.slots token)) answer cs

-- its registration is taken back
abbrev pub DisabledBy : {D I P X : Type 0} → Meaning D P (Lent X (Asks D I)) → RegistrationToken
    → Result (Unit {0}) Error → View D I P → List (Change D I P) → Type 0
DisabledBy M token answer v cs =
    AskedIn (λ d a steps e. M.does d v.poll (Unregistered a) steps e) (unlisting_of token) token
    (only (is_callers M) (content_at v.slots token)) answer cs

-- the source is given this deadline, and then registered anew, so that it is armed for it; one that is no timer stays as it was.
-- A caller of calloop does both, by `Timer::set_deadline` and `update`
abbrev pub RearmedBy : {D I P X : Type 0} → Meaning D P (Lent X (Asks D I)) → (deadline : Instant) → RegistrationToken
    → (listed : Bool) → PollView P → D → Outcome → List (PollStep P) → D → Type 0
RearmedBy {D} M deadline token listed v d answer steps e =
    ((answer ≡ Err InvalidToken) × (steps ≡ []) × SetsDeadline M deadline d false e)
    ⊎ ((timer : D) × SetsDeadline M deadline d true timer
    × RegisteredBy M Reregistered token listed v timer answer steps e)

-- the timer that a token names is armed for this deadline
abbrev pub DeadlineSetBy : {D I P X : Type 0} → Meaning D P (Lent X (Asks D I)) → RegistrationToken → (deadline : Instant)
    → Outcome → View D I P → List (Change D I P) → Type 0
DeadlineSetBy M token deadline answer v cs =
    AskedIn (RearmedBy M deadline token (is_listed token v.held.lifecycle) v.poll) (listing_of M token) token
    (only (is_callers M) (content_at v.slots token)) answer cs

-- the source leaves its slot vacant, is unregistered, and is handed back; a failure of the unregistration is a warning, if
-- there is memory for one; calloop's remove hands nothing back
abbrev pub RemovedIn : {D I P X : Type 0} → Meaning D P (Lent X (Asks D I)) → RegistrationToken → Content D → Option D
    → View D I P → List (Change D I P) → Type 0
RemovedIn M token Vacant answer v cs = (answer ≡ None) × (cs ≡ [])
RemovedIn M token InTurn answer v cs = (answer ≡ None) × (cs ≡ [])
RemovedIn {D} {I} {P} M token (Source d) answer v cs =
    (e : D) × (told : Outcome) × (kept : Bool) × (steps : List (PollStep P))
    × M.does d v.poll (Unregistered told) steps e × (answer ≡ Some e)
    × (cs ≡ Put token.slot Vacant ∷ Polls steps ∷ Holds (Unlisted token) ∷ Holds (Warned kept told) ∷ [])

abbrev pub RemovedBy : {D I P X : Type 0} → Meaning D P (Lent X (Asks D I)) → RegistrationToken → Option D → View D I P
    → List (Change D I P) → Type 0
RemovedBy M token answer v cs = RemovedIn M token (only (is_callers M) (content_at v.slots token)) answer v cs

-- another source takes the place of the one that a token names, and the latter is the answer; both are the same source if
-- it is changed in its slot, as in calloop by as_source_mut. If the token names none, the other source is handed back.
abbrev pub ExchangedIn : {D I P : Type 0} → RegistrationToken → D → Content D → Result D D → List (Change D I P)
    → Type 0
ExchangedIn token new Vacant answer cs = (answer ≡ Err new) × (cs ≡ [])
ExchangedIn token new InTurn answer cs = (answer ≡ Err new) × (cs ≡ [])
ExchangedIn token new (Source d) answer cs = (answer ≡ Ok d) × (cs ≡ Swapped token.slot d new ∷ [])

abbrev pub ExchangedBy : {D I P X : Type 0} → Meaning D P (Lent X (Asks D I)) → RegistrationToken → D → Result D D
    → View D I P → List (Change D I P) → Type 0
ExchangedBy M token new answer v cs = ExchangedIn token new (only (is_callers M) (content_at v.slots token)) answer cs

-- an idle is put at the end, under the next ticket, or handed back
abbrev pub IdleInsertedBy : {D I P : Type 0} → I → Result Idle (InsertError I) → View D I P → List (Change D I P)
    → Type 0
IdleInsertedBy idle (Ok made) v cs =
    (v.held.asks.next < 2 ^ 64 - 1) × (made.ticket.number ≡ v.held.asks.next) × (cs ≡ Holds (IdleNew idle) ∷ [])
IdleInsertedBy idle (Err refused) v cs = (refused.inserted ≡ idle) × CannotAsk v.held.asks refused.error × (cs ≡ [])

-- what the loop takes up of an adapter in a slot: its interest is registered anew, and on failure the adapter itself keeps the
-- error; or its `Async` was dropped, and it leaves its slot; a marked entry that isn't an adapter is left alone. In calloop a
-- poll calls LoopInner's reregister
abbrev pub TakesUp : {D I P X : Type 0} → Meaning D P (Lent X (Asks D I)) → RegistrationToken → PollView P → D → Outcome
    → List (PollStep P) → D → Type 0
TakesUp M token v d answer steps e =
    (f : TokenFactory) × M.does d v (Reregistered (factory_of token) answer f) steps e

abbrev pub as_listed : {D I : Type 0} → RegistrationToken → D → Outcome → HeldStep D I
as_listed token d answer = Listed false token

abbrev pub SettledIn : {D I P X : Type 0} → Meaning D P (Lent X (Asks D I)) → RegistrationToken → Content D → View D I P
    → List (Change D I P) → Type 0
SettledIn M token Vacant v cs = cs ≡ []
SettledIn M token InTurn v cs = cs ≡ []
SettledIn {D} {I} {P} M token (Source d) v cs =
    AskedIn (TakesUp M token v.poll) (as_listed token) token (Source d) (Ok tt) cs
    ⊎ ((answer : Option D) × RemovedIn M token (Source d) answer v cs)

-- an adapter is given back: its registration is taken back, and it leaves its slot; if taking the registration back fails,
-- the adapter stays as the failure left it; calloop's kill ignores such an error, and the adapter leaves
abbrev pub LeftIn : {D I P X : Type 0} → Meaning D P (Lent X (Asks D I)) → RegistrationToken → Content D → View D I P
    → List (Change D I P) → Type 0
LeftIn M token Vacant v cs = ⊥
LeftIn M token InTurn v cs = ⊥
LeftIn {D} {I} {P} M token (Source d) v cs =
    (e : D) × (steps : List (PollStep P)) × M.does d v.poll (Unregistered (Ok tt)) steps e
    × (cs ≡ Put token.slot Vacant ∷ Polls steps ∷ Holds (Unlisted token) ∷ Holds (Warned false (Ok tt)) ∷ [])

abbrev pub ReleasedBy : {D I P X : Type 0} → Meaning D P (Lent X (Asks D I)) → RegistrationToken → Outcome → View D I P
    → List (Change D I P) → Type 0
ReleasedBy M token (Ok u) v cs = LeftIn M token (only (is_adapter M) (content_at v.slots token)) v cs
ReleasedBy M token (Err e) v cs =
    AskedIn (λ d a steps f. M.does d v.poll (Unregistered a) steps f) (unlisting_of token) token
    (only (is_adapter M) (content_at v.slots token)) (Err e) cs

-- what the loop is doing within a dispatch; X is the data that the caller lends
pub data Doing (D X : Type 0) : Type 0 where
  Beginning : (timeout : Option ℕ) (x : X) → Doing D X
  -- these adapters were marked, and are still to be settled
  Settling : (timeout : Option ℕ) (later : List RegistrationToken) (x : X) → Doing D X
  -- these sources are still to be told of the wait
  Sleeping : (timeout : Option ℕ) (later : List RegistrationToken) (x : X) → Doing D X
  Waiting : (timeout : Option ℕ) (x : X) → Doing D X
  Gathering : (now : ℕ) (given : List (ℕ × Readiness)) (x : X) → Doing D X
  -- these sources are still to be told what was gathered, which is in the batch from this position on
  Noticing : (from : ℕ) (later : List RegistrationToken) (x : X) → Doing D X
  Cutting : (x : X) → Doing D X
  -- a source had its turn; what was asked for is carried out, and then its post action
  Serving : (token : RegistrationToken) (source : D) (answer : Result PostAction Error) (x : X) → Doing D X
  Ending : (token : RegistrationToken) (source : D) (answer : Result PostAction Error) (x : X) → Doing D X
  Returning : (token : RegistrationToken) (source : D) (told : Result (Unit {0}) Error) (x : X) → Doing D X
  -- the batch is empty; a round of idles begins, and what each asks for is carried out after it
  Idling : (x : X) → Doing D X
  RunningIdles : (x : X) → Doing D X
  ServingIdle : (x : X) → Doing D X
  Leaving : (answer : Result (Unit {0}) Error) (x : X) → Doing D X

abbrev pub after_wait : {D X : Type 0} → Result ℕ Cause → List (ℕ × Readiness) → X → Doing D X
after_wait (Ok now) given x = Gathering now given x
after_wait (Err cause) given x = Leaving (Err (IoError cause)) x

-- a source that is told of a wait goes out of its slot meanwhile, and does nothing to `Poll`
abbrev pub told_in : {D I P : Type 0} → RegistrationToken → D → List (Change D I P)
told_in token e = Put token.slot InTurn ∷ Polls [] ∷ Put token.slot (Source e) ∷ []

-- events for which a source asks before a wait join the batch at its end, in order
abbrev pub appends : {D I P : Type 0} → List (Readiness × Token) → List (Change D I P)
appends [] = []
appends (e ∷ es) = Appended (own_event e) ∷ appends es

-- before a wait: the events for which a source asks join the batch in order; if it fails, none joins, and the dispatch ends
abbrev pub SleptAs : {D I P X : Type 0} → (timeout : Option ℕ) → (later : List RegistrationToken)
    → List (Readiness × Token) → Outcome → X → List (Change D I P) → Doing D X → Type 0
SleptAs timeout later given (Ok u) x cs b = (cs ≡ appends given) × (b ≡ Sleeping timeout later x)
SleptAs timeout later given (Err e) x cs b = (cs ≡ []) × (b ≡ Leaving (Err e) x)

abbrev pub SleptBy : {D I P X : Type 0} → Meaning D P (Lent X (Asks D I)) → Option ℕ → RegistrationToken
    → List RegistrationToken → Content D → View D I P → X → List (Change D I P) → Doing D X → Type 0
SleptBy M timeout token later Vacant v x cs b = (cs ≡ []) × (b ≡ Sleeping timeout later x)
SleptBy M timeout token later InTurn v x cs b = (cs ≡ []) × (b ≡ Sleeping timeout later x)
SleptBy {D} {I} {P} {X} M timeout token later (Source d) v x cs b =
    (e : D) × (given : List (Readiness × Token)) × (answer : Outcome) × (joined : List (Change D I P))
    × M.does d v.poll (Slept given answer) [] e
    × SleptAs timeout later given answer x joined b × (cs ≡ told_in token e ++ joined)

-- after a wait: a source is told of the events of its registration that were gathered
abbrev pub NoticedBy : {D I P X : Type 0} → Meaning D P (Lent X (Asks D I)) → (from : ℕ) → RegistrationToken
    → List RegistrationToken → Content D → View D I P → X → List (Change D I P) → Doing D X → Type 0
NoticedBy M from token later Vacant v x cs b = (cs ≡ []) × (b ≡ Noticing from later x)
NoticedBy M from token later InTurn v x cs b = (cs ≡ []) × (b ≡ Noticing from later x)
NoticedBy {D} M from token later (Source d) v x cs b =
    (e : D) × M.does d v.poll (Noticed (events_of token (drop from v.poll.batch))) [] e × (cs ≡ told_in token e)
    × (b ≡ Noticing from later x)

-- the outcome of telling one source: the next one is told, or an error ends the dispatch
abbrev pub after_telling : {D X : Type 0} → Option ℕ → List RegistrationToken → Outcome → X → Doing D X
after_telling timeout later (Ok u) x = Sleeping timeout later x
after_telling timeout later (Err e) x = Leaving (Err e) x

abbrev pub after_all_told : {D X : Type 0} → Option ℕ → Outcome → X → Doing D X
after_all_told timeout (Ok u) x = Waiting timeout x
after_all_told timeout (Err e) x = Leaving (Err e) x

-- the event that was cut goes to the source that its token names, which has its own turn, or to none: the loop of calloop's
-- dispatch_events
abbrev pub CutTo : {D I P X : Type 0} → Meaning D P (Lent X (Asks D I)) → Pending → Content D → View D I P → X
    → List (Change D I P) → Doing D X → Type 0
CutTo M e Vacant v x cs b = (cs ≡ Cut None ∷ Ended ∷ []) × (b ≡ Cutting x)
CutTo M e InTurn v x cs b = (cs ≡ Cut None ∷ Ended ∷ []) × (b ≡ Cutting x)
CutTo {D} {I} {P} {X} M e (Source d) v x cs b =
    (d' : D) × (answer : Result PostAction Error) × (steps : List (PollStep P)) × (x' : X)
    × (asked : List (AskStep D I))
    × M.does d (after_cut v.poll)
    (Turned e.readiness e.token
    (lend x (of_turn (registration_of e.token) v.held.asks) answer x'
    (asks_after (of_turn (registration_of e.token) v.held.asks) asked))) steps d'
    × (cs
    ≡ Cut (Some e.token.slot) ∷ Put e.token.slot InTurn ∷ Polls steps ∷ Ended
    ∷ Holds (AskingIn (registration_of e.token) asked) ∷ [])
    × (b ≡ Serving (registration_of e.token) d' answer x')

abbrev pub CutFrom : {D I P X : Type 0} → Meaning D P (Lent X (Asks D I)) → List Pending → View D I P → X
    → List (Change D I P) → Doing D X → Type 0
CutFrom M [] v x cs b = (cs ≡ []) × (b ≡ Idling x)
CutFrom M (e ∷ es) v x cs b = CutTo M e (content_at v.slots (registration_of e.token)) v x cs b

-- the slot of this token is emptied, if the slot is still in its turn
abbrev pub vacate : {D I P : Type 0} → RegistrationToken → Content D → List (Change D I P)
vacate token InTurn = Put token.slot Vacant ∷ []
vacate token Vacant = []
vacate token (Source d) = []

-- What callbacks ask for.

-- the answer to a request
abbrev pub inserted_answer : {D : Type 0} → Result RegistrationToken (InsertError D) → Answer D
inserted_answer (Ok token) = InsertedAnswer token
inserted_answer (Err refused) = NotInserted refused

abbrev pub done_answer : {D : Type 0} → Outcome → Answer D
done_answer (Ok u) = Done
done_answer (Err e) = Refused e

-- a request about the source in its turn does `own`; about another, or none, it does what the handle's call does
abbrev pub OwnOr : {D : Type 0} → Content D → (own other : Type 0) → Type 0
OwnOr InTurn own other = own
OwnOr Vacant own other = other
OwnOr (Source d) own other = other

-- what a request does, and its answer: a source in its turn can't be registered, nor its deadline be set, which its callback
-- does by what it returns; registering it anew, or taking its registration back, waits for the end of its turn; calloop does the
-- same, but its enable panics in such a turn
abbrev pub ServedAs : {D I P X : Type 0} → Meaning D P (Lent X (Asks D I)) → Request D I → Outcome → View D I P
    → List (Change D I P) → Type 0
ServedAs M (AskEnable token) answer v cs =
    OwnOr (content_at v.slots token) ((answer ≡ Err OwnTurn) × (cs ≡ [])) (EnabledBy M token answer v cs)
ServedAs M (AskUpdate token) answer v cs =
    OwnOr (content_at v.slots token) ((answer ≡ Ok tt) × (cs ≡ Holds (Pend Reregister) ∷ [])) (UpdatedBy M token answer v cs)
ServedAs M (AskDisable token) answer v cs =
    OwnOr (content_at v.slots token) ((answer ≡ Ok tt) × (cs ≡ Holds (Pend DisableIt) ∷ [])) (DisabledBy M token answer v cs)
ServedAs M (AskSetDeadline token deadline) answer v cs =
    OwnOr (content_at v.slots token) ((answer ≡ Err OwnTurn) × (cs ≡ [])) (DeadlineSetBy M token deadline answer v cs)
ServedAs M request answer v cs = ⊥

-- a request with its answer. A source that asks for its own removal leaves its slot at once, and is answered when its
-- turn is over.
abbrev pub Served : {D I P X : Type 0} → Meaning D P (Lent X (Asks D I)) → Request D I → View D I P
    → List (Change D I P) → Type 0
Served {D} {I} {P} M (AskInsert d) v cs =
    (answer : Result RegistrationToken (InsertError D)) × (ds : List (Change D I P)) × InsertedBy M d answer v ds
    × (cs ≡ ds ++ Holds (Told (inserted_answer answer)) ∷ [])
Served {D} {I} {P} M (AskRemove token) v cs =
    OwnOr (content_at v.slots token) (cs ≡ Put token.slot Vacant ∷ Holds (Unlisted token) ∷ Holds Owe ∷ [])
    ((answer : Option D) × (ds : List (Change D I P)) × RemovedBy M token answer v ds
    × (cs ≡ ds ++ Holds (Told (RemovedAnswer answer)) ∷ []))
Served M (AskIdle idle) v cs = cs ≡ Holds (IdleIn idle) ∷ []
Served M (AskCancel ticket) v cs = cs ≡ Holds (IdleOut ticket) ∷ Holds (Told Done) ∷ []
Served {D} {I} {P} M request v cs =
    (answer : Outcome) × (ds : List (Change D I P)) × ServedAs M request answer v ds
    × (cs ≡ ds ++ Holds (Told (done_answer answer)) ∷ [])

-- the first request that was written is carried out; if there is none, the loop goes on
abbrev pub ServedFrom : {D I P X : Type 0} → Meaning D P (Lent X (Asks D I)) → List (Asked D I)
    → (on next b : Doing D X) → View D I P → List (Change D I P) → Type 0
ServedFrom M [] on next b v cs = (cs ≡ []) × (b ≡ next)
ServedFrom {D} {I} {P} M (a ∷ as') on next b v cs =
    (ds : List (Change D I P)) × Served M a.request (after_change v (Holds Begun)) ds × (cs ≡ Holds Begun ∷ ds) × (b ≡ on)

-- what a source asked for about itself counts only if its turn answered `Continue`, as in calloop
abbrev pub action_of : Result PostAction Error → (pending : PostAction) → Result PostAction Error
action_of (Ok Continue) pending = Ok pending
action_of (Ok Reregister) pending = Ok Reregister
action_of (Ok DisableIt) pending = Ok DisableIt
action_of (Ok Remove) pending = Ok Remove
action_of (Err e) pending = Err e

-- the post action of a turn is taken; after an error there is none. calloop takes it the same way.
abbrev pub ActedBy : {D I P X : Type 0} → Meaning D P (Lent X (Asks D I)) → RegistrationToken → D
    → Result PostAction Error → View D I P → List (Change D I P) → D → Result (Unit {0}) Error → Type 0
ActedBy M token d (Ok Continue) v cs e told = (cs ≡ Holds (Pend Continue) ∷ []) × (e ≡ d) × (told ≡ Ok tt)
ActedBy {D} {I} {P} M token d (Ok Reregister) v cs e told =
    (steps : List (PollStep P)) × RegisteredBy M Reregistered token (is_listed token v.held.lifecycle) v.poll d told steps e
    × (cs ≡ Holds (Pend Continue) ∷ Polls steps ∷ Holds (listing_of M token d told) ∷ [])
ActedBy {D} {I} {P} M token d (Ok DisableIt) v cs e told =
    (steps : List (PollStep P)) × M.does d v.poll (Unregistered told) steps e
    × (cs ≡ Holds (Pend Continue) ∷ Polls steps ∷ Holds (Unlisted token) ∷ [])
ActedBy M token d (Ok Remove) v cs e told =
    (cs ≡ Holds (Pend Continue) ∷ vacate token (content_at v.slots token)) × (e ≡ d) × (told ≡ Ok tt)
ActedBy M token d (Err error) v cs e told = (cs ≡ Holds (Pend Continue) ∷ []) × (e ≡ d) × (told ≡ Err error)

-- an error leaves the rest of the batch for the next dispatch; calloop drops it
abbrev pub after_turn : {D X : Type 0} → Result (Unit {0}) Error → X → Doing D X
after_turn (Ok u) x = Cutting x
after_turn (Err e) x = Leaving (Err e) x

-- the source goes back to its slot, if that is still in its turn; else it is unregistered last, and a failure of that is a
-- warning, if there is memory for one. A source that asked for its own removal is handed back.
abbrev pub ReturnedTo : {D I P X : Type 0} → Meaning D P (Lent X (Asks D I)) → RegistrationToken → D → Content D
    → View D I P → List (Change D I P) → Type 0
ReturnedTo M token d InTurn v cs = cs ≡ Put token.slot (Source d) ∷ []
ReturnedTo {D} {I} {P} M token d content v cs =
    (e : D) × (answer : Outcome) × (kept : Bool) × (steps : List (PollStep P))
    × M.does d v.poll (Unregistered answer) steps e
    × (cs
    ≡ Polls steps ∷ Holds (Unlisted token) ∷ Holds (Warned kept answer) ∷ Holds (Paid (RemovedAnswer (Some e))) ∷ [])

-- the idles that were taken run in order, as by calloop's dispatch_idles; a cancelled one isn't among them
abbrev pub RunFrom : {D I P X : Type 0} → Runs D I X → List (Waiter I) → View D I P → X → List (Change D I P)
    → Doing D X → Type 0
RunFrom runs [] v x cs b = (cs ≡ []) × (b ≡ Leaving (Ok tt) x)
RunFrom {D} {I} {P} {X} runs (i ∷ is) v x cs b =
    (x' : X) × (asked : List (AskStep D I))
    × runs i.idle x (idle_begun v.held.asks) x' (asks_after (idle_begun v.held.asks) asked)
    × (cs ≡ Holds IdleBegun ∷ Holds (Asking asked) ∷ []) × (b ≡ ServingIdle x')

-- one small step, in terms of the loop's view
abbrev pub Step : {D I P X : Type 0} → Meaning D P (Lent X (Asks D I)) → Runs D I X → Outside P → View D I P → Doing D X
    → List (Change D I P) → Doing D X → Type 0
Step M runs O v (Beginning timeout x) cs b =
    (places : ℕ) × (marked : List RegistrationToken) × (taken : List RegistrationToken) × AreTaken taken marked
    × (cs ≡ Counting places ∷ Holds Cleared ∷ Watching (with_note (Marked taken) (with_note (Counted places) v.poll.watch)) ∷ [])
    × (b ≡ Settling timeout marked x)
Step M runs O v (Settling timeout [] x) cs b = (cs ≡ []) × (b ≡ Sleeping timeout v.held.lifecycle x)
Step M runs O v (Settling timeout (t ∷ later) x) cs b =
    SettledIn M t (only (is_adapter M) (content_at v.slots t)) v cs × (b ≡ Settling timeout later x)
Step M runs O v (Sleeping timeout [] x) cs b = (cs ≡ []) × (b ≡ Waiting timeout x)
Step M runs O v (Sleeping timeout (t ∷ later) x) cs b = SleptBy M timeout t later (content_at v.slots t) v x cs b
Step {D} {I} {P} M runs O v (Waiting timeout x) cs b =
    (answer : Result ℕ Cause) × (given : List (ℕ × Readiness)) × (p : P) × (w : Watch)
    × Waited O v.poll timeout answer given p w
    × (cs ≡ Polling p ∷ Watching w ∷ []) × (b ≡ after_wait answer given x)
Step M runs O v (Gathering now given x) cs b =
    (posted : List ℕ) × (cs ≡ Gathered posted given now ∷ []) × (b ≡ Noticing (length v.poll.batch) v.held.lifecycle x)
Step M runs O v (Noticing from [] x) cs b = (cs ≡ []) × (b ≡ Cutting x)
Step M runs O v (Noticing from (t ∷ later) x) cs b = NoticedBy M from t later (content_at v.slots t) v x cs b
Step M runs O v (Cutting x) cs b = CutFrom M v.poll.batch v x cs b
Step M runs O v (Serving token d answer x) cs b =
    ServedFrom M v.held.asks.written (Serving token d answer x) (Ending token d answer x) b v cs
Step {D} M runs O v (Ending token d answer x) cs b =
    (e : D) × (told : Result (Unit {0}) Error) × ActedBy M token d (action_of answer v.held.pending) v cs e told
    × (b ≡ Returning token e told x)
Step M runs O v (Returning token d told x) cs b =
    ReturnedTo M token d (content_at v.slots token) v cs × (b ≡ after_turn told x)
Step M runs O v (Idling x) cs b = (cs ≡ Holds IdlesTaken ∷ []) × (b ≡ RunningIdles x)
Step M runs O v (RunningIdles x) cs b = RunFrom runs v.held.asks.running v x cs b
Step M runs O v (ServingIdle x) cs b = ServedFrom M v.held.asks.written (ServingIdle x) (RunningIdles x) b v cs
Step M runs O v (Leaving answer x) cs b = ⊥

-- a list of small steps, with the changes of each
abbrev pub Steps : {D I P X : Type 0} → Meaning D P (Lent X (Asks D I)) → Runs D I X → Outside P → View D I P
    → Doing D X → List (List (Change D I P)) → Doing D X → Type 0
Steps M runs O v a [] b = b ≡ a
Steps {D} {I} {P} {X} M runs O v a (cs ∷ css) b =
    (c : Doing D X) × Step M runs O v a cs c × AllFit O v cs × Steps M runs O (all_viewed v cs) c css b

abbrev pub after_changes : {D I P : Type 0} → View D I P → List (List (Change D I P)) → View D I P
after_changes v [] = v
after_changes v (cs ∷ css) = after_changes (all_viewed v cs) css

abbrev pub all_traced : {D I P : Type 0} → World D I P → List (List (Change D I P)) → World D I P
all_traced w [] = w
all_traced w (cs ∷ css) = all_traced (world_after_all w cs) css

-- a case of one step
abbrev pub Once : {D I P : Type 0} → Outside P → (View D I P → List (Change D I P) → Type 0) → View D I P
    → List (List (Change D I P)) → Type 0
Once O R v [] = ⊥
Once O R v (cs ∷ []) = R v cs × AllFit O v cs
Once O R v (cs ∷ ds ∷ css) = ⊥

-- if there is no memory for the batch, nothing is changed; else a dispatch begins with room for the batch and goes on until
-- it ends (in calloop dispatch_events, then dispatch_idles)
abbrev pub DispatchedBy : {D I P X : Type 0} → Meaning D P (Lent X (Asks D I)) → Runs D I X → Outside P → Option ℕ → X
    → Result (Unit {0}) Error → X → View D I P → List (List (Change D I P)) → Type 0
DispatchedBy M runs O timeout x answer x' v css =
    ((answer ≡ Err OutOfMemory) × (x' ≡ x) × (css ≡ []))
    ⊎ Steps M runs O v (Beginning timeout x) css (Leaving answer x')

abbrev pub Case : {D I P X : Type 0} → Meaning D P (Lent X (Asks D I)) → Runs D I X → Outside P → LoopCall D P X I
    → LoopAnswer D P X I → View D I P → List (List (Change D I P)) → Type 0
Case M runs O (Insert d) (Inserted answer) v css = Once O (InsertedBy M d answer) v css
Case M runs O (Enable token) (Enabled answer) v css = Once O (EnabledBy M token answer) v css
Case M runs O (Update token) (Updated answer) v css = Once O (UpdatedBy M token answer) v css
Case M runs O (Disable token) (Disabled answer) v css = Once O (DisabledBy M token answer) v css
Case M runs O (RemoveCall token) (Removed answer) v css = Once O (RemovedBy M token answer) v css
Case M runs O (Release token) (Released answer) v css = Once O (ReleasedBy M token answer) v css
Case M runs O (Exchange token d) (Exchanged answer) v css = Once O (ExchangedBy M token d answer) v css
Case M runs O (Dispatch timeout x) (Dispatched answer x') v css =
    DispatchedBy M runs O (nanos_of timeout) x answer x' v css
Case M runs O (InsertIdle idle) (IdleInserted answer) v css = Once O (IdleInsertedBy idle answer) v css
Case M runs O (Cancel idle) Cancelled v css = css ≡ (Holds (IdleOut idle.ticket.number) ∷ []) ∷ []
Case M runs O (AnswerOf ticket) (Answered answer) v css =
    (answer ≡ answer_under ticket.number v.held.asks.answers) × (css ≡ (Holds (Asking (Take ticket.number ∷ [])) ∷ []) ∷ [])
Case M runs O ForgetStop StopForgotten v css = css ≡ (Holds (StopNoted Forgot) ∷ []) ∷ []
Case M runs O LookForStop (Stopped found) v css = css ≡ (Holds (StopNoted (Looked found)) ∷ []) ∷ []
Case M runs O (NewPoller p) (OldPoller q) v css = (q ≡ v.poll.poller) × (css ≡ (Polling p ∷ []) ∷ [])
Case M runs O call answer v css = ⊥

-- a list of cases, each beginning in the state that the one before left; the changes of each are told
abbrev pub Run : {D I P X : Type 0} → Meaning D P (Lent X (Asks D I)) → Runs D I X → Outside P → List (LoopCall D P X I)
    → List (LoopAnswer D P X I) → List (List (List (Change D I P))) → World D I P → World D I P → Type 0
Run M runs O [] [] [] w w' = w' ≡ w
Run M runs O (call ∷ calls) (answer ∷ answers) (css ∷ csss) w w' =
    Case M runs O call answer (visible w) css × Run M runs O calls answers csss (all_traced w css) w'
Run M runs O calls answers csss w w' = ⊥

-- what a function of the loop did, in terms of the loop's view
abbrev pub Did : {D I P : Type 0} → (View D I P → List (List (Change D I P)) → Type 0) → View D I P → View D I P
    → Type 0
Did {D} {I} {P} R old new = (css : List (List (Change D I P))) × R old css × (new ≡ after_changes old css)

-- from every machine state that agrees with what the loop held, the call is a case, and ends in a state that agrees again
abbrev pub Leads : {D I P : Type 0} → (View D I P → List (List (Change D I P)) → Type 0) → View D I P → View D I P
    → Type 0
Leads {D} {I} {P} R old new =
    (w : World D I P) → visible w ≡ old
    → (css : List (List (Change D I P))) × R (visible w) css × (visible (all_traced w css) ≡ new)

-- within a dispatch
abbrev pub Goes : {D I P X : Type 0} → Meaning D P (Lent X (Asks D I)) → Runs D I X → Outside P → Doing D X → Doing D X
    → View D I P → View D I P → Type 0
Goes M runs O a b old new = Did (λ v css. Steps M runs O v a css b) old new

-- the outcome of handing out the first event: another one, or the end if there was none, or an error
abbrev pub after_hand_out : {D X : Type 0} → Result Bool Error → X → Doing D X
after_hand_out (Ok true) x = Cutting x
after_hand_out (Ok false) x = Idling x
after_hand_out (Err e) x = Leaving (Err e) x

-- the outcome of handing out all of them
abbrev pub after_batch : {D X : Type 0} → Outcome → X → Doing D X
after_batch (Ok u) x = Idling x
after_batch (Err e) x = Leaving (Err e) x

-- the outcome of running the first idle: another one, or the end if there was none
abbrev pub after_idle : {D X : Type 0} → Bool → X → Doing D X
after_idle true x = RunningIdles x
after_idle false x = Leaving (Ok tt) x

-- the answer of an insertion of a source, if it is held with its callback
abbrev pub held_answer : {D S F : Type 0} → (Dispatcher S F → D) → F → Result RegistrationToken (InsertError S)
    → Result RegistrationToken (InsertError D)
held_answer held f (Ok token) = Ok token
held_answer held f (Err refused) =
    Err (record { inserted = held (record { source = refused.inserted; callback = f }); error = refused.error })

-- from every machine state that agrees, a list of calls is a run, which ends in a state that agrees again
abbrev pub RunLeads : {D I P X : Type 0} → Meaning D P (Lent X (Asks D I)) → Runs D I X → Outside P
    → List (LoopCall D P X I) → List (LoopAnswer D P X I) → View D I P → View D I P → Type 0
RunLeads {D} {I} {P} M runs O calls answers old new =
    (w : World D I P) → visible w ≡ old
    → (csss : List (List (List (Change D I P)))) × (w' : World D I P) × Run M runs O calls answers csss w w'
    × (visible w' ≡ new)
