-- What a source or a dispatcher did in one call, with all that the call took and returned beside `Poll`. calloop's
-- `EventSource` and `EventDispatcher` have the same calls; here a call with its result is one value.
use Rattle.std.specs.Prelude.{◌≡◌, List, [], Result, Ok}
use Rattle.calloop_slots.specs.declared.error.Error.{Error}
use Rattle.calloop_slots.specs.declared.token.Token.{Token}
use Rattle.calloop_slots.specs.declared.token.TokenFactory.{TokenFactory}
use Rattle.calloop_poll.specs.declared.sys.Readiness.{Readiness}
use Rattle.calloop_sources.specs.declared.sources.source.PostAction.{PostAction}
use Rattle.calloop_sources.specs.sources.Calls.{CallbackCall}

-- T is what a turn took and returned beside its event: `Heard` of a source, `Lent` of a dispatcher; a registration has
-- the factory before and after it
pub data Deed (T : Type 0) : Type 0 where
  Registered : (before : TokenFactory) (answer : Result (Unit {0}) Error) (after : TokenFactory) → Deed T
  Reregistered : (before : TokenFactory) (answer : Result (Unit {0}) Error) (after : TokenFactory) → Deed T
  Unregistered : (answer : Result (Unit {0}) Error) → Deed T
  Turned : (readiness : Readiness) (token : Token) (turn : T) → Deed T
  -- before a wait: the source may ask for events, usually for its own tokens, which are handed out in this order
  Slept : (given : List (Readiness × Token)) (answer : Result (Unit {0}) Error) → Deed T
  -- after a wait: these events of the source's registration were gathered
  Noticed : (events : List (Readiness × Token)) → Deed T

-- before a wait the source asks for no event, and doesn't fail
abbrev pub SaysNothing : List (Readiness × Token) → Result (Unit {0}) Error → Type 0
SaysNothing given answer = (given ≡ []) × (answer ≡ Ok tt)

-- the turn of a source: the calls of its callback, and its result
pub record Heard (E M T Cause : Type 0) : Type 0 where
  pub calls : List (CallbackCall E M T)
  pub answer : Result PostAction Cause

abbrev pub new_heard : {E M T Cause : Type 0} → List (CallbackCall E M T) → Result PostAction Cause → Heard E M T Cause
new_heard calls answer = record { calls = calls; answer = answer }

-- the turn of a dispatcher: the data and the requests that were lent, before and after it, and its result
pub record Lent (X Q : Type 0) : Type 0 where
  pub before : X
  pub asked_before : Q
  pub answer : Result PostAction Error
  pub after : X
  pub asked_after : Q

abbrev pub lend : {X Q : Type 0} → X → Q → Result PostAction Error → X → Q → Lent X Q
lend x q answer y r = record { before = x; asked_before = q; answer = answer; after = y; asked_after = r }
