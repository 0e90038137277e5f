-- A source that can come and go inside another one. calloop's `TransientSource`, but a mark says whether the inner source is
-- registered, so that nothing is unregistered that isn't, and no registration is lost.
use Rattle.std.specs.Prelude.{◌≡◌, ◌⊎◌, ℕ, ◌++◌, [], List, Bool, true, false, not, Option, None, Some, Result, Ok, Err}
use Rattle.calloop_slots.specs.declared.error.Error.{Error}
use Rattle.calloop_slots.specs.declared.token.Token.{Token}
use Rattle.calloop_slots.specs.declared.token.TokenFactory.{TokenFactory}
use Rattle.calloop_poll.specs.declared.sys.Readiness.{Readiness}
use Rattle.calloop_sources.specs.declared.sources.source.PostAction.{PostAction}
use Rattle.calloop_sources.specs.declared.sources.source.PostAction.TheVariants.{
  Continue,
  Reregister,
  Disable as DisableIt,
  Remove as RemoveIt,
}
use Rattle.calloop_sources.specs.declared.transient.State.{State}
use Rattle.calloop_sources.specs.declared.transient.State.TheVariants.{Keep, Register, Disable, Remove, Replace, Empty}
use Rattle.calloop_sources.specs.declared.transient.TransientSource.{TransientSource}
use Rattle.calloop_poll.specs.sys.Polls.{PollView, PollStep, polls_after}
use Rattle.calloop_sources.specs.sources.Deeds.{Deed, Registered, Reregistered, Unregistered, Turned, SaysNothing, Slept, Noticed, Heard, new_heard}
use Rattle.calloop_sources.specs.sources.Holdings.{Holding, holds_none}
use Rattle.calloop_poll.specs.sys.Keys.{no_key}
use Rattle.calloop_sources.specs.sources.Beside.{IsApart, beside}
use Rattle.calloop_sources.specs.declared.sources.dispatch.Role.TheVariants.{Caller}
use Rattle.calloop_sources.specs.sources.Meanings.{Meaning, seen_as}

-- the first if a call succeeded, the second if it failed
abbrev pub after : {A : Type 0} → Result (Unit {0}) Error → A → A → A
after (Ok u) a b = a
after (Err e) a b = b

module _ {S Cause : Type 0} where
  -- the effect of the turn of a kept source
  abbrev pub KeptBy : Result PostAction Cause → S → (marked : Bool) → Result PostAction Cause → State S → Type 0
  KeptBy (Ok Continue) s marked answer t = (answer ≡ Ok Continue) × (t ≡ Keep s marked)
  KeptBy (Ok Reregister) s marked answer t = (answer ≡ Ok Reregister) × (t ≡ Keep s marked)
  KeptBy (Ok DisableIt) s marked answer t = (answer ≡ Ok Reregister) × (t ≡ Disable s marked)
  KeptBy (Ok RemoveIt) s marked answer t = (answer ≡ Ok Reregister) × (t ≡ Remove s marked)
  KeptBy (Err cause) s marked answer t = (answer ≡ Err cause) × (t ≡ Keep s marked)

module _ {S P E M T Cause : Type 0} (m : Meaning S P (Heard E M T Cause)) where
  -- the inner source isn't called
  abbrev pub Rests : State S → Result (Unit {0}) Error → List (PollStep P) → State S → Type 0
  Rests state answer steps t = (answer ≡ Ok tt) × (steps ≡ []) × (t ≡ state)

  -- the source is registered, and kept then; on failure the state is as `stood` says
  abbrev pub Enters : (stood : S → State S) → S → PollView P → TokenFactory → Result (Unit {0}) Error
      → List (PollStep P) → State S → TokenFactory → Type 0
  Enters stood s v f answer steps t g =
      (s' : S) × m.does s v (Registered f answer g) steps s' × (t ≡ after answer (Keep s' true) (stood s'))

  -- the kept source is registered anew; on failure its mark stays
  abbrev pub EntersAnew : S → (marked : Bool) → PollView P → TokenFactory → Result (Unit {0}) Error
      → List (PollStep P) → State S → TokenFactory → Type 0
  EntersAnew s marked v f answer steps t g =
      (s' : S) × m.does s v (Reregistered f answer g) steps s' × (t ≡ after answer (Keep s' true) (Keep s' marked))

  -- the source is unregistered, and the state is as `left` says; on failure it is as `stood` says
  abbrev pub LeavesState : (left stood : S → State S) → S → PollView P → Result (Unit {0}) Error → List (PollStep P)
      → State S → Type 0
  LeavesState left stood s v answer steps t =
      (s' : S) × m.does s v (Unregistered answer) steps s' × (t ≡ after answer (left s') (stood s'))

  -- after the old source was unregistered, with this result
  abbrev pub ThenEnters : (told : Result (Unit {0}) Error) → (new old : S) → PollView P → TokenFactory
      → Result (Unit {0}) Error → List (PollStep P) → State S → TokenFactory → Type 0
  ThenEnters (Ok u) new old v f answer steps t g = Enters (λ n. Replace n old false) new v f answer steps t g
  ThenEnters (Err e) new old v f answer steps t g =
      (answer ≡ Err e) × (steps ≡ []) × (t ≡ Replace new old true) × (g ≡ f)

  -- the old one is unregistered, and then the new one registered; calloop's register drops the old one without that,
  -- and its reregister unregisters it again if the new one's registration failed
  pub record Replaces
      (new old : S) (v : PollView P) (f : TokenFactory) (answer : Result (Unit {0}) Error)
      (steps : List (PollStep P)) (t : State S) (g : TokenFactory) : Type 0 where
    pub told : Result (Unit {0}) Error
    pub left : S
    pub first : List (PollStep P)
    pub more : List (PollStep P)
    pub leaves : m.does old v (Unregistered told) first left
    pub then : ThenEnters told new left (polls_after v first) f answer more t g
    pub steps_are : steps ≡ first ++ more

  -- by the state and its mark: the call of the inner source, and the state after it; calloop's states have no mark
  abbrev pub RegisteredAs : State S → PollView P → TokenFactory → Result (Unit {0}) Error
      → List (PollStep P) → State S → TokenFactory → Type 0
  RegisteredAs (Keep s marked) v f answer steps t g = Enters (λ s'. Keep s' marked) s v f answer steps t g
  RegisteredAs (Register s) v f answer steps t g = Enters (λ s'. Register s') s v f answer steps t g
  RegisteredAs (Disable s marked) v f answer steps t g = Enters (λ s'. Disable s' marked) s v f answer steps t g
  RegisteredAs (Remove s true) v f answer steps t g =
      LeavesState (λ s'. Empty) (λ s'. Remove s' true) s v answer steps t × (g ≡ f)
  RegisteredAs (Remove s false) v f answer steps t g = Rests Empty answer steps t × (g ≡ f)
  RegisteredAs (Replace new old true) v f answer steps t g = Replaces new old v f answer steps t g
  RegisteredAs (Replace new old false) v f answer steps t g =
      Enters (λ n. Replace n old false) new v f answer steps t g
  RegisteredAs Empty v f answer steps t g = Rests Empty answer steps t × (g ≡ f)

  abbrev pub ReregisteredAs : State S → PollView P → TokenFactory → Result (Unit {0}) Error
      → List (PollStep P) → State S → TokenFactory → Type 0
  ReregisteredAs (Keep s marked) v f answer steps t g = EntersAnew s marked v f answer steps t g
  ReregisteredAs (Register s) v f answer steps t g = RegisteredAs (Register s) v f answer steps t g
  ReregisteredAs (Disable s true) v f answer steps t g =
      LeavesState (λ s'. Disable s' false) (λ s'. Disable s' true) s v answer steps t × (g ≡ f)
  ReregisteredAs (Disable s false) v f answer steps t g = Rests (Disable s false) answer steps t × (g ≡ f)
  ReregisteredAs (Remove s marked) v f answer steps t g = RegisteredAs (Remove s marked) v f answer steps t g
  ReregisteredAs (Replace new old marked) v f answer steps t g = RegisteredAs (Replace new old marked) v f answer steps t g
  ReregisteredAs Empty v f answer steps t g = RegisteredAs Empty v f answer steps t g

  abbrev pub UnregisteredAs : State S → PollView P → Result (Unit {0}) Error → List (PollStep P) → State S → Type 0
  UnregisteredAs (Keep s true) v answer steps t =
      LeavesState (λ s'. Keep s' false) (λ s'. Keep s' true) s v answer steps t
  UnregisteredAs (Keep s false) v answer steps t = Rests (Keep s false) answer steps t
  UnregisteredAs (Register s) v answer steps t = Rests (Register s) answer steps t
  UnregisteredAs (Disable s true) v answer steps t =
      LeavesState (λ s'. Disable s' false) (λ s'. Disable s' true) s v answer steps t
  UnregisteredAs (Disable s false) v answer steps t = Rests (Disable s false) answer steps t
  UnregisteredAs (Remove s true) v answer steps t = LeavesState (λ s'. Empty) (λ s'. Remove s' true) s v answer steps t
  UnregisteredAs (Remove s false) v answer steps t = Rests Empty answer steps t
  UnregisteredAs (Replace new old true) v answer steps t =
      LeavesState (λ o. Register new) (λ o. Replace new o true) old v answer steps t
  UnregisteredAs (Replace new old false) v answer steps t = Rests (Register new) answer steps t
  UnregisteredAs Empty v answer steps t = Rests Empty answer steps t

  abbrev pub Ignores : State S → Heard E M T Cause → List (PollStep P) → State S → Type 0
  Ignores state turn steps t = (turn.calls ≡ []) × (turn.answer ≡ Ok Continue) × (steps ≡ []) × (t ≡ state)

  abbrev pub TurnedAs : State S → PollView P → Readiness → Token → Heard E M T Cause → List (PollStep P) → State S
      → Type 0
  TurnedAs (Keep s marked) v readiness token turn steps t =
      (inner : Result PostAction Cause) × (s' : S)
      × m.does s v (Turned readiness token (new_heard turn.calls inner)) steps s' × KeptBy inner s' marked turn.answer t
  TurnedAs (Register s) v readiness token turn steps t = Ignores (Register s) turn steps t
  TurnedAs (Disable s marked) v readiness token turn steps t = Ignores (Disable s marked) turn steps t
  TurnedAs (Remove s marked) v readiness token turn steps t = Ignores (Remove s marked) turn steps t
  TurnedAs (Replace new old marked) v readiness token turn steps t = Ignores (Replace new old marked) turn steps t
  TurnedAs Empty v readiness token turn steps t = Ignores Empty turn steps t

  abbrev pub Moves : State S → PollView P → Deed (Heard E M T Cause) → List (PollStep P) → State S → Type 0
  Moves state v (Registered f answer g) steps t = RegisteredAs state v f answer steps t g
  Moves state v (Reregistered f answer g) steps t = ReregisteredAs state v f answer steps t g
  Moves state v (Unregistered answer) steps t = UnregisteredAs state v answer steps t
  Moves state v (Turned readiness token turn) steps t = TurnedAs state v readiness token turn steps t
  -- a transient source isn't told of waits
  Moves state v (Slept given answer) steps t = SaysNothing given answer × (steps ≡ []) × (t ≡ state)
  Moves state v (Noticed events) steps t = (steps ≡ []) × (t ≡ state)

  -- both sources' counters if one replaces the other
  abbrev pub state_holds : State S → ℕ → Holding
  state_holds (Keep s marked) = m.holds s
  state_holds (Register s) = m.holds s
  state_holds (Disable s marked) = m.holds s
  state_holds (Remove s marked) = m.holds s
  state_holds (Replace new old marked) = beside (m.holds old) (m.holds new)
  state_holds Empty = holds_none

  abbrev pub state_keys : State S → (key : ℕ) → Type 0
  state_keys (Keep s marked) = m.keys s
  state_keys (Register s) = m.keys s
  state_keys (Disable s marked) = m.keys s
  state_keys (Remove s marked) = m.keys s
  state_keys (Replace new old marked) = λ key. m.keys old key ⊎ m.keys new key
  state_keys Empty = no_key

  abbrev pub state_fits : State S → Type 0
  state_fits (Keep s marked) = m.fits s
  state_fits (Register s) = m.fits s
  state_fits (Disable s marked) = m.fits s
  state_fits (Remove s marked) = m.fits s
  state_fits (Replace new old marked) = m.fits old × m.fits new × IsApart (m.holds old) (m.holds new)
  state_fits Empty = Unit {0}

  abbrev pub state_meaning : Meaning (State S) P (Heard E M T Cause)
  state_meaning =
      record { holds = state_holds; keys = state_keys; fits = state_fits; needs = λ state. false; limit = λ state. 0; role = λ state. Caller; does = Moves }

  abbrev pub transient_meaning : Meaning (TransientSource S) P (Heard E M T Cause)
  transient_meaning = seen_as (λ s. s.state) state_meaning

-- The calls of its owner: calloop's From, Default, is_none, remove, replace and map.

module _ {S : Type 0} where
  abbrev pub coming : S → TransientSource S
  coming source = record { state = Register source }

  abbrev pub without_source : TransientSource S
  without_source = record { state = Empty }

  -- the source is to stay, and isn't registered
  abbrev pub is_given_up : State S → Bool
  is_given_up (Keep s marked) = not marked
  is_given_up (Register s) = false
  is_given_up (Disable s marked) = false
  is_given_up (Remove s marked) = false
  is_given_up (Replace new old marked) = false
  is_given_up Empty = false

  abbrev pub is_empty : State S → Bool
  is_empty Empty = true
  is_empty (Keep s marked) = false
  is_empty (Register s) = false
  is_empty (Disable s marked) = false
  is_empty (Remove s marked) = false
  is_empty (Replace new old marked) = false

  -- the source is to leave; a new one that was to come is dropped; calloop drops the old one instead, which may be registered
  abbrev pub removed_from : State S → State S
  removed_from (Keep s marked) = Remove s marked
  removed_from (Register s) = Remove s false
  removed_from (Disable s marked) = Remove s marked
  removed_from (Remove s marked) = Remove s marked
  removed_from (Replace new old marked) = Remove old marked
  removed_from Empty = Empty

  -- another one is to come in its place, and one that was to come before is dropped; calloop drops the old one instead
  abbrev pub replaced_by : S → State S → State S
  replaced_by n (Keep s marked) = Replace n s marked
  replaced_by n (Register s) = Replace n s false
  replaced_by n (Disable s marked) = Replace n s marked
  replaced_by n (Remove s marked) = Replace n s marked
  replaced_by n (Replace new old marked) = Replace n old marked
  replaced_by n Empty = Empty

  -- a new source that an empty wrapper hands back; calloop drops it
  abbrev pub refused_by : State S → S → Option S
  refused_by Empty n = Some n
  refused_by (Keep s marked) n = None
  refused_by (Register s) n = None
  refused_by (Disable s marked) n = None
  refused_by (Remove s marked) n = None
  refused_by (Replace new old marked) n = None

  -- the inner source that is to stay or to come, if any, changed so
  abbrev pub MappedBy : {U : Type 0} → (S → U → S → Type 0) → State S → Option U → State S → Type 0
  MappedBy {U} R (Keep s marked) answer t =
      (u : U) × (s' : S) × R s u s' × (answer ≡ Some u) × (t ≡ Keep s' marked)
  MappedBy {U} R (Register s) answer t =
      (u : U) × (s' : S) × R s u s' × (answer ≡ Some u) × (t ≡ Register s')
  MappedBy {U} R (Disable s marked) answer t =
      (u : U) × (s' : S) × R s u s' × (answer ≡ Some u) × (t ≡ Disable s' marked)
  MappedBy {U} R (Replace new old marked) answer t =
      (u : U) × (n : S) × R new u n × (answer ≡ Some u) × (t ≡ Replace n old marked)
  MappedBy R (Remove s marked) answer t = (answer ≡ None) × (t ≡ Remove s marked)
  MappedBy R Empty answer t = (answer ≡ None) × (t ≡ Empty)

  -- true if the wrapper has no inner source
  abbrev pub is_without_source : TransientSource S → Bool
  is_without_source s = is_empty s.state

  abbrev pub leaving : TransientSource S → TransientSource S
  leaving s = record { state = removed_from s.state }

  abbrev pub giving_way_to : S → TransientSource S → TransientSource S
  giving_way_to new s = record { state = replaced_by new s.state }

  abbrev pub handed_back_by : TransientSource S → S → Option S
  handed_back_by s new = refused_by s.state new

  abbrev pub IsMappedBy : {U : Type 0} → (S → U → S → Type 0) → TransientSource S → Option U → TransientSource S
      → Type 0
  IsMappedBy R s answer t = MappedBy R s.state answer t.state
