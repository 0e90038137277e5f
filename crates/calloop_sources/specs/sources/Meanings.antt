-- What a source or a dispatcher means: a relation between its state before a call, what the call read of `Poll`,
-- what was done, the steps that it made there, and its state after the call. calloop's `EventSource` and
-- `EventDispatcher`, seen from outside; calloop promises nothing of them.
use Rattle.std.specs.Prelude.{◌≡◌, ◌↔◌, ◌≤◌, ℕ, List, [], length, Bool, true, false, Option, None, Some, Result, Ok, Err}
use Rattle.calloop_slots.specs.declared.error.Error.{Error}
use Rattle.calloop_slots.specs.declared.token.Token.{Token}
use Rattle.calloop_slots.specs.declared.token.RegistrationToken.{RegistrationToken}
use Rattle.calloop_slots.specs.declared.token.TokenFactory.{TokenFactory}
use Rattle.calloop_poll.specs.declared.sys.Readiness.{Readiness}
use Rattle.calloop_sources.specs.declared.sources.dispatch.Dispatcher.{Dispatcher}
use Rattle.calloop_sources.specs.declared.sources.choice.OneOf.{OneOf}
use Rattle.calloop_sources.specs.declared.sources.dispatch.Role.{Role}
use Rattle.calloop_sources.specs.declared.sources.dispatch.Role.TheVariants.{Caller, Adapter, Timeout}
use Rattle.calloop_sources.specs.declared.sources.choice.OneOf.TheVariants.{First, Other}
use Rattle.calloop_poll.specs.sys.Pollers.{Outside}
use Rattle.calloop_poll.specs.sys.Polls.{PollView, PollStep, AllStepped}
use Rattle.calloop_sources.specs.sources.Calls.{Calling, Went, Becomes, IsOfSource}
use Rattle.calloop_sources.specs.sources.Deeds.{Deed, Registered, Reregistered, Unregistered, Turned, Slept, Noticed}
use Rattle.calloop_sources.specs.sources.Deeds.{Heard, Lent}
use Rattle.calloop_sources.specs.sources.Holdings.{Holding, Keeps, IsBelow, holds_none}
use Rattle.calloop_poll.specs.sys.Keys.{IsKeyOf, IsFactoryOf, AllActFor, no_key}

-- D is the source or dispatcher, P the poller, T what a turn takes and returns
pub record Meaning (D P T : Type 0) : Type 1 where
  -- the timer counters that it holds
  pub holds : D → ℕ → Holding
  -- the keys that it is registered under
  pub keys : D → ℕ → Type 0
  -- other conditions on its state, e.g. that two timers within it hold different counters
  pub fits : D → Type 0
  -- whether it is told of waits: before each, and after each
  pub needs : D → Bool
  -- for how many events it may ask before one wait
  pub limit : D → ℕ
  -- its owner: the caller, or the loop itself
  pub role : D → Role
  pub does : D → PollView P → Deed T → List (PollStep P) → D → Type 0

-- it did this, by steps that are possible
abbrev pub Does : {D P T : Type 0} → Outside P → Meaning D P T → D → PollView P → Deed T → D → PollView P → Type 0
Does {D} {P} {T} outside m s v deed t w =
    (steps : List (PollStep P)) × m.does s v deed steps t × AllStepped outside v steps w

-- a factory that has made no token
abbrev pub fresh_factory : RegistrationToken → TokenFactory
fresh_factory t = record { registration = t; given = 0 }

-- what the loop does for an adapter: its interest is registered anew, and the adapter itself keeps the error if that fails;
-- or its `Async` was dropped, and its registration is taken back, with this result
abbrev pub SettledAs : {D P T : Type 0} → Outside P → Meaning D P T → RegistrationToken
    → (left : Option (Result (Unit {0}) Error)) → D → PollView P → D → PollView P → Type 0
SettledAs outside m token None s v t w =
    (f : TokenFactory) × Does outside m s v (Reregistered (fresh_factory token) (Ok tt) f) t w
SettledAs outside m token (Some answer) s v t w = Does outside m s v (Unregistered answer) t w

-- for every other role the loop does nothing
abbrev pub Settles : {D P T : Type 0} → Role → Outside P → Meaning D P T → RegistrationToken
    → (left : Option (Result (Unit {0}) Error)) → D → PollView P → D → PollView P → Type 0
Settles Caller outside m token left s v t w = (left ≡ None) × (t ≡ s) × (w ≡ v)
Settles Adapter outside m token left s v t w = SettledAs outside m token left s v t w
Settles Timeout outside m token left s v t w = (left ≡ None) × (t ≡ s) × (w ≡ v)

-- it leaves the counters of others alone, and calls at most once for each arming of its own
abbrev pub KeepsCounters : {D P T : Type 0} → Meaning D P T → Type 0
KeepsCounters {D} {P} {T} m =
    (s t : D) (v : PollView P) (deed : Deed T) (steps : List (PollStep P))
    → m.fits s → IsBelow v.deadlines.next (m.holds s) → m.does s v deed steps t
    → m.fits t × Keeps (m.holds s) v.deadlines.next steps (m.holds t)

-- it is at home in this registration: each key that it is registered under is a key of this registration; without a key it
-- is at home anywhere
abbrev pub IsAtHome : {D P T : Type 0} → Meaning D P T → RegistrationToken → D → Type 0
IsAtHome m registration s = (key : ℕ) → m.keys s key → IsKeyOf registration key

-- the condition before a deed: at home, with a factory of that registration if one is lent; a registration that succeeds
-- may begin anywhere
abbrev pub BeginsIn : {T : Type 0} → (at_home : Type 0) → RegistrationToken → Deed T → Type 0
BeginsIn at_home registration (Registered f (Ok u) g) = IsFactoryOf registration f
BeginsIn at_home registration (Registered f (Err e) g) = at_home × IsFactoryOf registration f
BeginsIn at_home registration (Reregistered f answer g) = at_home × IsFactoryOf registration f
BeginsIn at_home registration (Unregistered answer) = at_home
BeginsIn at_home registration (Turned readiness token turn) = at_home
BeginsIn at_home registration (Slept given answer) = at_home
BeginsIn at_home registration (Noticed events) = at_home

-- each deed that begins in a registration leaves the source at home there; one that was at home acts under keys of that
-- registration alone, and one that comes from another registration may take back what it had there when it is registered
abbrev pub KeepsHome : {D P T : Type 0} → Meaning D P T → Type 0
KeepsHome {D} {P} {T} m =
    (registration : RegistrationToken) (s t : D) (v : PollView P) (deed : Deed T) (steps : List (PollStep P))
    → BeginsIn (IsAtHome m registration s) registration deed → m.does s v deed steps t
    → IsAtHome m registration t × (IsAtHome m registration s → AllActFor registration steps)

-- A source's event limit never changes; before a wait it asks for at most that many events; and one that isn't told of waits
-- may ask for none. calloop's sources return at most one.
pub record KeepsLimit {D P T : Type 0} (m : Meaning D P T) : Type 0 where
  pub same : (s t : D) (v : PollView P) (deed : Deed T) (steps : List (PollStep P))
      → m.does s v deed steps t → m.limit t ≡ m.limit s
  pub within : (s t : D) (v : PollView P) (given : List (Readiness × Token)) (answer : Result (Unit {0}) Error)
      (steps : List (PollStep P)) → m.does s v (Slept given answer) steps t → length given ≤ m.limit s
  pub untold : (s : D) → m.needs s ≡ false → m.limit s ≡ 0

-- the laws that every source keeps
pub record IsKeeping {D P T : Type 0} (m : Meaning D P T) : Type 0 where
  pub counters : KeepsCounters m
  pub home : KeepsHome m
  pub limit : KeepsLimit m

-- the requests after a turn are reached from those before it
abbrev pub IsAsking : {D P X Q : Type 0} → (Q → Q → Type 0) → Meaning D P (Lent X Q) → Type 0
IsAsking {D} {P} {X} {Q} reaches m =
    (s t : D) (v : PollView P) (readiness : Readiness) (token : Token) (turn : Lent X Q) (steps : List (PollStep P))
    → m.does s v (Turned readiness token turn) steps t → reaches turn.asked_before turn.asked_after

-- a turn fails only with a source's errors
abbrev pub FailsAsSource : {D P X Q : Type 0} → Meaning D P (Lent X Q) → Type 0
FailsAsSource {D} {P} {X} {Q} m =
    (s t : D) (v : PollView P) (readiness : Readiness) (token : Token) (turn : Lent X Q) (steps : List (PollStep P))
    → m.does s v (Turned readiness token turn) steps t → (e : Error) → turn.answer ≡ Err e → IsOfSource e

-- the turn of a source with its callback: the source's own turn, whose calls went to the callback in order, as in
-- process_events of calloop's EventDispatcher
pub record IsTurned
    {F E M T Cause X Q : Type 0}
    (turn : Heard E M T Cause → Type 0)
    (may : Calling F E M T X Q)
    (reaches : Q → Q → Type 0)
    (becomes : Cause → Error → Type 0)
    (before : F) (lent : Lent X Q) (after : F) : Type 0 where
  pub inner : Heard E M T Cause
  pub turned : turn inner
  pub went : Went may reaches before lent.before lent.asked_before inner.calls after lent.after lent.asked_after
  pub told : Becomes becomes inner.answer lent.answer

-- a source with its callback; only a turn of the source calls the callback
abbrev pub dispatcher_means : {S F P E M T Cause X Q : Type 0}
    → Meaning S P (Heard E M T Cause) → Calling F E M T X Q → (Q → Q → Type 0) → (Cause → Error → Type 0)
    → Dispatcher S F → PollView P → Deed (Lent X Q) → List (PollStep P) → Dispatcher S F → Type 0
dispatcher_means m may reaches becomes s v (Registered f answer g) steps t =
    m.does s.source v (Registered f answer g) steps t.source × (t.callback ≡ s.callback)
dispatcher_means m may reaches becomes s v (Reregistered f answer g) steps t =
    m.does s.source v (Reregistered f answer g) steps t.source × (t.callback ≡ s.callback)
dispatcher_means m may reaches becomes s v (Unregistered answer) steps t =
    m.does s.source v (Unregistered answer) steps t.source × (t.callback ≡ s.callback)
dispatcher_means m may reaches becomes s v (Slept given answer) steps t =
    m.does s.source v (Slept given answer) steps t.source × (t.callback ≡ s.callback)
dispatcher_means m may reaches becomes s v (Noticed events) steps t =
    m.does s.source v (Noticed events) steps t.source × (t.callback ≡ s.callback)
dispatcher_means m may reaches becomes s v (Turned readiness token turn) steps t =
    IsTurned (λ inner. m.does s.source v (Turned readiness token inner) steps t.source) may reaches becomes
    s.callback turn t.callback

abbrev pub with_callback : {S F P E M T Cause X Q : Type 0}
    → Meaning S P (Heard E M T Cause) → Calling F E M T X Q → (Q → Q → Type 0) → (Cause → Error → Type 0)
    → Meaning (Dispatcher S F) P (Lent X Q)
with_callback m may reaches becomes =
    record {
      holds = λ s. m.holds s.source;
      keys = λ s. m.keys s.source;
      fits = λ s. m.fits s.source;
      needs = λ s. m.needs s.source;
      limit = λ s. m.limit s.source;
      role = λ s. Caller;
      does = dispatcher_means m may reaches becomes;
    }

-- a property of the side that is there
abbrev pub of_either {ℓ} : {A B : Type 0} {C : Type ℓ} → (A → C) → (B → C) → OneOf A B → C
of_either f g (First a) = f a
of_either f g (Other b) = g b

-- both on one side, and related there
abbrev pub on_both : {A B : Type 0} → (A → A → Type 0) → (B → B → Type 0) → OneOf A B → OneOf A B → Type 0
on_both R S (First a) (First b) = R a b
on_both R S (Other a) (Other b) = S a b
on_both R S (First a) (Other b) = ⊥
on_both R S (Other a) (First b) = ⊥

-- the meaning of a choice of two; calloop has trait objects
abbrev pub one_of : {A B P T : Type 0} → Meaning A P T → Meaning B P T → Meaning (OneOf A B) P T
one_of m n =
    record {
      holds = of_either m.holds n.holds;
      keys = of_either m.keys n.keys;
      fits = of_either m.fits n.fits;
      needs = of_either m.needs n.needs;
      limit = of_either m.limit n.limit;
      role = of_either m.role n.role;
      does = λ s v deed steps t. on_both (λ a b. m.does a v deed steps b) (λ a b. n.does a v deed steps b) s t;
    }

-- the meaning of a value that is seen as another value
abbrev pub seen_as : {D A P T : Type 0} → (D → A) → Meaning A P T → Meaning D P T
seen_as see m =
    record {
      holds = λ s. m.holds (see s);
      keys = λ s. m.keys (see s);
      fits = λ s. m.fits (see s);
      needs = λ s. m.needs (see s);
      limit = λ s. m.limit (see s);
      role = λ s. m.role (see s);
      does = λ s v deed steps t. m.does (see s) v deed steps (see t);
    }

-- the same meaning, with this role
abbrev pub in_role : {D P T : Type 0} → Role → Meaning D P T → Meaning D P T
in_role role m = record m { role = λ s. role }

-- at most so many events are asked for before a wait
abbrev pub IsWithin : {T : Type 0} → (limit : ℕ) → Deed T → Type 0
IsWithin limit (Registered f answer g) = Unit {0}
IsWithin limit (Reregistered f answer g) = Unit {0}
IsWithin limit (Unregistered answer) = Unit {0}
IsWithin limit (Turned readiness token turn) = Unit {0}
IsWithin limit (Slept given answer) = length given ≤ limit
IsWithin limit (Noticed events) = Unit {0}

-- the meaning of one that holds no counter and no key, does nothing to `Poll`, and isn't told of waits
abbrev pub still : {D P T : Type 0} → (D → PollView P → Deed T → D → Type 0) → Meaning D P T
still does =
    record {
      holds = λ s. holds_none;
      keys = λ s. no_key;
      fits = λ s. Unit {0};
      needs = λ s. false;
      limit = λ s. 0;
      role = λ s. Caller;
      does = λ s v deed steps t. (steps ≡ []) × does s v deed t × IsWithin 0 deed;
    }

-- the same, but told of waits, before each of which it may ask for at most so many events
abbrev pub attentive_to : {D P T : Type 0} → (limit : ℕ) → (D → PollView P → Deed T → D → Type 0) → Meaning D P T
attentive_to limit does =
    record (still does) {
      needs = λ s. true;
      limit = λ s. limit;
      does = λ s v deed steps t. (steps ≡ []) × does s v deed t × IsWithin limit deed;
    }

-- the same with one event
abbrev pub attentive : {D P T : Type 0} → (D → PollView P → Deed T → D → Type 0) → Meaning D P T
attentive does = attentive_to 1 does

-- a held part keeps its meaning: the whole does exactly what the part does, and then holds the part again
pub record IsHeld {A D P T : Type 0} (held : A → D) (m : Meaning A P T) (n : Meaning D P T) : Type 0 where
  pub holds : (s : A) → n.holds (held s) ≡ m.holds s
  pub keys : (s : A) (key : ℕ) → n.keys (held s) key ↔ m.keys s key
  pub fits : (s : A) → n.fits (held s) ↔ m.fits s
  pub needs : (s : A) → n.needs (held s) ≡ m.needs s
  pub limit : (s : A) → n.limit (held s) ≡ m.limit s
  pub role : (s : A) → n.role (held s) ≡ m.role s
  pub does : (s : A) (v : PollView P) (deed : Deed T) (steps : List (PollStep P)) (t : D)
      → n.does (held s) v deed steps t ↔ ((b : A) × (t ≡ held b) × m.does s v deed steps b)
