-- A socket as a source: its registration and its turn. calloop's `Generic` leaves its mode to the poller; here it keeps
-- it. Both act on their own token alone.
use Rattle.std.specs.Prelude.{◌≡◌, ◌⊎◌, ◌∷◌, [], List, ℕ, ℤ, true, false, Bool, Option, None, Some, IfSome, Result, Ok, Err}
use Rattle.std.specs.declared.io.Error.{Error as Cause}
use Rattle.std.specs.declared.io.ErrorKind.{ErrorKind}
use Rattle.std.specs.declared.io.ErrorKind.TheVariants.{AlreadyExists, NotFound}
use Rattle.calloop_slots.specs.declared.error.Error.{Error}
use Rattle.calloop_slots.specs.declared.error.Error.TheVariants.{TooManyTokens}
use Rattle.calloop_slots.specs.declared.token.Token.{Token}
use Rattle.calloop_slots.specs.declared.token.TokenFactory.{TokenFactory}
use Rattle.calloop_slots.specs.Tokens.{next_token, after_token, key_of, most_tokens}
use Rattle.calloop_slots.specs.Errors.{AsIo}
use Rattle.calloop_poll.specs.declared.sys.Mode.{Mode}
use Rattle.calloop_poll.specs.declared.sys.Mode.TheVariants.{OneShot, Level, Edge}
use Rattle.calloop_poll.specs.declared.sys.Watched.{Watched}
use Rattle.calloop_poll.specs.declared.sys.Readiness.{Readiness}
use Rattle.calloop_sources.specs.declared.sources.source.PostAction.{PostAction}
use Rattle.calloop_sources.specs.declared.sources.source.PostAction.TheVariants.{Continue}
use Rattle.calloop_sources.specs.declared.generic.NoIoDrop.{NoIoDrop}
use Rattle.calloop_sources.specs.declared.generic.Generic.{Generic}
use Rattle.calloop_poll.specs.sys.Pollers.{Sockets}
use Rattle.calloop_poll.specs.sys.Tables.{Edit, Enter, Change, Leave}
use Rattle.calloop_poll.specs.sys.Polls.{PollView, PollStep, IsOfKind}
use Rattle.calloop_poll.specs.sys.SocketCalls.{Edits}
use Rattle.calloop_sources.specs.sources.Calls.{CallbackCall}
use Rattle.calloop_sources.specs.sources.Deeds.{Deed, Registered, Reregistered, Unregistered, Turned, SaysNothing, Slept, Noticed, Heard}
use Rattle.calloop_sources.specs.sources.Holdings.{holds_none}
use Rattle.calloop_poll.specs.sys.Keys.{no_key}
use Rattle.calloop_sources.specs.declared.sources.dispatch.Role.TheVariants.{Caller}
use Rattle.calloop_sources.specs.sources.Meanings.{Meaning}

-- a descriptor of this value, if its type says which it has
abbrev pub IsFdOf : {F : Type 0} → (raw_fd : F → Option ℤ) → F → (fd : ℤ) → Type 0
IsFdOf raw_fd io fd = IfSome (raw_fd io) (λ own. fd ≡ own)

-- the key of the source's token, if it is registered
abbrev pub under_token : Option Token → (key : ℕ) → Type 0
under_token None = no_key
under_token (Some token) = λ key. key ≡ key_of token

-- whether the source takes no further events after one
abbrev pub heard_in : Mode → (heard : Bool) → Bool
heard_in OneShot heard = true
heard_in Level heard = heard
heard_in Edge heard = heard

-- the input and output of a turn: the calls of the callback, with the socket, and its result
abbrev pub GenericCalls : (F E : Type 0) → Type 0
GenericCalls F E = List (CallbackCall Readiness (NoIoDrop F) (Result PostAction E))

module _ {F E : Type 0} where
  abbrev pub watched_by : Generic F E → Watched
  watched_by s = record { interest = s.interest; mode = s.mode }

  -- the event's token is the source's, and the source didn't take its one event yet
  abbrev pub Hears : Token → Generic F E → Type 0
  Hears token s = (s.token ≡ Some token) × (s.mode ≡ OneShot → s.heard ≡ false)

  -- the socket as the callback left it; under one shot this was the source's one event
  abbrev pub after_call : NoIoDrop F → Generic F E → Generic F E
  after_call io s = record s { io = io; heard = heard_in s.mode s.heard }

  -- registered under this token, if that succeeded
  abbrev pub entered_as : Result (Unit {0}) Error → Token → Generic F E → Generic F E
  entered_as (Ok u) token s = record s { token = Some token; heard = false }
  entered_as (Err e) token s = s

  -- no longer registered, if that succeeded
  abbrev pub left_as : Result (Unit {0}) Error → Generic F E → Generic F E
  left_as (Ok u) s = record s { token = None }
  left_as (Err e) s = s

module _ {P F E : Type 0} where
  -- fails with an error of this kind, and nothing was done
  abbrev pub IsRefused : ErrorKind → Generic F E → Result (Unit {0}) Error → List (PollStep P) → Generic F E
      → Type 0
  IsRefused kind s answer steps t = (e : Error) × (answer ≡ Err e) × IsOfKind kind e × (steps ≡ []) × (t ≡ s)

module _ {P F E : Type 0} (sockets : Sockets P) (raw_fd : F → Option ℤ) where
  -- the socket gets the factory's next token, if there is one
  abbrev pub TakesToken : (Token → Edit) → Generic F E → PollView P → TokenFactory
      → Result (Unit {0}) Error → List (PollStep P) → Generic F E → TokenFactory → Type 0
  TakesToken edit s v f answer steps t g =
      ((answer ≡ Err TooManyTokens) × (f.given ≡ most_tokens) × (steps ≡ []) × (t ≡ s) × (g ≡ f))
      ⊎ ((fd : ℤ) × IsFdOf raw_fd s.io.io fd × Edits sockets v (edit (next_token f)) fd answer steps
      × (t ≡ entered_as answer (next_token f) s) × (g ≡ after_token f))

  -- by the token that the source has
  abbrev pub RegisteredFrom : Option Token → Generic F E → PollView P → TokenFactory
      → Result (Unit {0}) Error → List (PollStep P) → Generic F E → TokenFactory → Type 0
  RegisteredFrom None s v f answer steps t g = TakesToken (λ token. Enter token (watched_by s)) s v f answer steps t g
  RegisteredFrom (Some own) s v f answer steps t g = IsRefused AlreadyExists s answer steps t × (g ≡ f)

  abbrev pub ReregisteredFrom : Option Token → Generic F E → PollView P → TokenFactory
      → Result (Unit {0}) Error → List (PollStep P) → Generic F E → TokenFactory → Type 0
  ReregisteredFrom None s v f answer steps t g = IsRefused NotFound s answer steps t × (g ≡ f)
  ReregisteredFrom (Some own) s v f answer steps t g =
      TakesToken (λ token. Change own token (watched_by s)) s v f answer steps t g

  abbrev pub UnregisteredFrom : Option Token → Generic F E → PollView P
      → Result (Unit {0}) Error → List (PollStep P) → Generic F E → Type 0
  UnregisteredFrom None s v answer steps t = IsRefused NotFound s answer steps t
  UnregisteredFrom (Some own) s v answer steps t =
      (fd : ℤ) × IsFdOf raw_fd s.io.io fd × Edits sockets v (Leave own) fd answer steps × (t ≡ left_as answer s)

  module _ (gives : Cause → E → Type 0) where
    -- if arming again fails, that is the turn's error
    abbrev pub ArmedAnswer : Result (Unit {0}) Error → PostAction → Result PostAction E → Type 0
    ArmedAnswer (Ok u) action answer = answer ≡ Ok action
    ArmedAnswer (Err e) action answer =
        (cause : Cause) × (error : E) × AsIo e cause × gives cause error × (answer ≡ Err error)

    -- after a callback that succeeded: `Level` tells the poller of the socket again, under the token that it has
    abbrev pub ArmedBy : Mode → Token → Generic F E → PollView P → PostAction
        → Result PostAction E → List (PollStep P) → Generic F E → Type 0
    ArmedBy OneShot token s v action answer steps t = (answer ≡ Ok action) × (steps ≡ []) × (t ≡ s)
    ArmedBy Edge token s v action answer steps t = (answer ≡ Ok action) × (steps ≡ []) × (t ≡ s)
    ArmedBy Level token s v action answer steps t =
        (armed : Result (Unit {0}) Error) × (fd : ℤ) × IsFdOf raw_fd s.io.io fd
        × Edits sockets v (Change token token (watched_by s)) fd armed steps
        × (t ≡ s) × ArmedAnswer armed action answer

    -- a callback's error is the turn's, and no poller is called
    abbrev pub AnsweredBy : Result PostAction E → Token → Generic F E → PollView P
        → Result PostAction E → List (PollStep P) → Generic F E → Type 0
    AnsweredBy (Ok action) token s v answer steps t = ArmedBy s.mode token s v action answer steps t
    AnsweredBy (Err error) token s v answer steps t = (answer ≡ Err error) × (steps ≡ []) × (t ≡ s)

    -- one call, with the readiness found and the socket, for an event that the source takes
    pub record IsCalled
        (s : Generic F E) (v : PollView P) (readiness : Readiness) (token : Token) (calls : GenericCalls F E)
        (answer : Result PostAction E) (steps : List (PollStep P)) (t : Generic F E) : Type 0 where
      pub heard : Hears token s
      pub io : NoIoDrop F
      pub told : Result PostAction E
      pub called : calls ≡ record { event = readiness; before = s.io; after = io; answer = told } ∷ []
      pub answered : AnsweredBy told token (after_call io s) v answer steps t

    -- no call
    pub record IsIgnored
        (s : Generic F E) (token : Token) (calls : GenericCalls F E)
        (answer : Result PostAction E) (steps : List (PollStep P)) (t : Generic F E) : Type 0 where
      pub unheard : ¬ Hears token s
      pub called : calls ≡ []
      pub answered : answer ≡ Ok Continue
      pub no_steps : steps ≡ []
      pub same : t ≡ s

    abbrev pub IsGeneric : Generic F E → PollView P → Deed (Heard Readiness (NoIoDrop F) (Result PostAction E) E)
        → List (PollStep P) → Generic F E → Type 0
    IsGeneric s v (Registered f answer g) steps t = RegisteredFrom s.token s v f answer steps t g
    IsGeneric s v (Reregistered f answer g) steps t = ReregisteredFrom s.token s v f answer steps t g
    IsGeneric s v (Unregistered answer) steps t = UnregisteredFrom s.token s v answer steps t
    IsGeneric s v (Slept given answer) steps t = SaysNothing given answer × (steps ≡ []) × (t ≡ s)
    IsGeneric s v (Noticed events) steps t = (steps ≡ []) × (t ≡ s)
    IsGeneric s v (Turned readiness token turn) steps t =
        IsCalled s v readiness token turn.calls turn.answer steps t ⊎ IsIgnored s token turn.calls turn.answer steps t

    abbrev pub generic_meaning : Meaning (Generic F E) P (Heard Readiness (NoIoDrop F) (Result PostAction E) E)
    generic_meaning =
        record {
          holds = λ s. holds_none;
          keys = λ s. under_token s.token;
          fits = λ s. Unit {0};
          needs = λ s. false;
          limit = λ s. 0;
          role = λ s. Caller;
          does = IsGeneric;
        }
