-- A timer as a source: its registration and its turn. As calloop's, but the callback gets the armed deadline, each arming is
-- called for once, and an older arming is taken back.
use Rattle.std.specs.Prelude.{◌≡◌, ◌⊎◌, ℕ, ◌++◌, ◌∷◌, [], List, nat_eq, if◌then◌else◌, true, false}
use Rattle.std.specs.Prelude.{Option, None, Some, Result, Ok, Err}
use Rattle.calloop_slots.specs.declared.error.Error.{Error}
use Rattle.calloop_slots.specs.declared.error.Error.TheVariants.{TooManyTokens}
use Rattle.calloop_slots.specs.declared.token.Token.{Token}
use Rattle.calloop_slots.specs.declared.token.TokenFactory.{TokenFactory}
use Rattle.calloop_slots.specs.declared.wheel.Instant.{Instant}
use Rattle.calloop_slots.specs.Deadlines.{is_armed, moment_after, CannotArm}
use Rattle.calloop_slots.specs.Tokens.{key_of, next_token, after_token, most_tokens}
use Rattle.calloop_sources.specs.declared.sources.source.PostAction.{PostAction}
use Rattle.calloop_sources.specs.declared.sources.dispatch.Role.TheVariants.{Caller}
use Rattle.calloop_sources.specs.declared.sources.source.PostAction.TheVariants.{Continue, Remove}
use Rattle.calloop_sources.specs.declared.timer.TimeoutAction.{TimeoutAction}
use Rattle.calloop_sources.specs.declared.timer.TimeoutAction.TheVariants.{Drop, ToInstant, ToDuration}
use Rattle.calloop_sources.specs.declared.timer.TimerError.{TimerError}
use Rattle.calloop_sources.specs.declared.timer.Timer.{Timer}
use Rattle.calloop_sources.specs.declared.timer.Registration.{Registration}
use Rattle.calloop_sources.specs.sources.Calls.{CallbackCall}
use Rattle.calloop_sources.specs.sources.Holdings.{Holding, Free, Spent, Standing}
use Rattle.calloop_poll.specs.sys.Keys.{no_key}
use Rattle.calloop_sources.specs.sources.Deeds.{Deed, Registered, Reregistered, Unregistered, Turned, SaysNothing, Slept, Noticed, Heard}
use Rattle.calloop_sources.specs.sources.Meanings.{Meaning}
use Rattle.calloop_poll.specs.sys.Polls.{PollView, PollStep, Arm, ArmAgain, Cancel, Call, ReadClock}

-- a timer without a registration
abbrev pub fresh_timer : (deadline : Option Instant) → Timer
fresh_timer deadline = record { registration = None; deadline = deadline }

abbrev pub registered_as : Registration → (deadline : Option Instant) → Timer
registered_as r deadline = record { registration = Some r; deadline = deadline }

-- the callback was called for the registration's arming
abbrev pub with_call : Registration → Registration
with_call r = record r { spent = true }

-- armed again under the same counter
abbrev pub armed_for : (deadline : Instant) → Registration → Registration
armed_for deadline r = record r { armed = deadline; spent = false }

-- the counter that a timer holds
abbrev pub held_as : Option Registration → ℕ → Holding
held_as None counter = Free
held_as (Some r) counter =
    if nat_eq counter r.counter then (if r.spent then Spent else Standing r.armed) else Free

abbrev pub timer_holds : Timer → ℕ → Holding
timer_holds t = held_as t.registration

-- the key of the token that it was armed under, also after its call
abbrev pub registered_under : Option Registration → (key : ℕ) → Type 0
registered_under None = no_key
registered_under (Some r) = λ key. key ≡ key_of r.token

abbrev pub timer_keys : Timer → (key : ℕ) → Type 0
timer_keys t = registered_under t.registration

-- the calls of a timer's callback
abbrev pub TimerCalls : Type 0
TimerCalls = List (CallbackCall Instant (Unit {0}) TimeoutAction)

-- the step that takes the older arming back
abbrev pub releases : {P : Type 0} → Option Registration → List (PollStep P)
releases None = []
releases (Some r) = Cancel r.counter ∷ []

-- why a timer can't be armed: the factory has no more tokens, or the wheel fails
abbrev pub RefusedTimer : TokenFactory → (next : ℕ) → Error → TokenFactory → Type 0
RefusedTimer f next e g =
    ((e ≡ TooManyTokens) × (f.given ≡ most_tokens) × (g ≡ f)) ⊎ (CannotArm next e × (g ≡ after_token f))

-- armed for its deadline under the next counter, if it has a deadline
abbrev pub Armed : {P : Type 0} → (deadline : Option Instant) → (next : ℕ) → TokenFactory
    → Result (Unit {0}) Error → List (PollStep P) → Timer → TokenFactory → Type 0
Armed None next f answer steps t g = (answer ≡ Ok tt) × (steps ≡ []) × (t ≡ fresh_timer None) × (g ≡ f)
Armed (Some at) next f (Ok u) steps t g =
    (steps ≡ Arm at (next_token f) ∷ [])
    × (t ≡ registered_as (record { token = next_token f; counter = next; armed = at; spent = false }) (Some at))
    × (g ≡ after_token f)
Armed (Some at) next f (Err e) steps t g = (steps ≡ []) × (t ≡ fresh_timer (Some at)) × RefusedTimer f next e g

-- the older arming is taken back, then it is armed; calloop's register leaves the older one armed
abbrev pub IsTimerReg : {P : Type 0} → Timer → PollView P → TokenFactory
    → Result (Unit {0}) Error → List (PollStep P) → Timer → TokenFactory → Type 0
IsTimerReg {P} s v f answer steps t g =
    (more : List (PollStep P)) × (steps ≡ releases s.registration ++ more)
    × Armed s.deadline v.deadlines.next f answer more t g

abbrev pub IsTimerUnreg : {P : Type 0} → Timer → Result (Unit {0}) Error → List (PollStep P) → Timer → Type 0
IsTimerUnreg s answer steps t = (answer ≡ Ok tt) × (steps ≡ releases s.registration) × (t ≡ fresh_timer s.deadline)

-- armed again under its counter, or out of memory: then it is unarmed, with the requested deadline
abbrev pub ArmedAgain : {P : Type 0} → Registration → (deadline : Instant)
    → Result PostAction TimerError → List (PollStep P) → Timer → Type 0
ArmedAgain r at (Ok action) steps t =
    (action ≡ Continue) × (steps ≡ ArmAgain r.counter at r.token ∷ []) × (t ≡ registered_as (armed_for at r) (Some at))
ArmedAgain r at (Err e) steps t = (steps ≡ []) × (t ≡ fresh_timer (Some at))

-- armed again for this moment, or removed without a deadline if there is none
abbrev pub ArmedFor : {P : Type 0} → Registration → (moment : Option Instant)
    → Result PostAction TimerError → List (PollStep P) → Timer → Type 0
ArmedFor r (Some at) answer steps t = ArmedAgain r at answer steps t
ArmedFor r None answer steps t = (answer ≡ Ok Remove) × (steps ≡ []) × (t ≡ registered_as (with_call r) None)

-- the effect of the callback's result
abbrev pub FollowsFrom : {P : Type 0} → Timer → Registration → TimeoutAction
    → Result PostAction TimerError → List (PollStep P) → Timer → Type 0
FollowsFrom s r Drop answer steps t = (answer ≡ Ok Remove) × (steps ≡ []) × (t ≡ registered_as (with_call r) s.deadline)
FollowsFrom s r (ToInstant at) answer steps t = ArmedAgain r at answer steps t
FollowsFrom {P} s r (ToDuration time) answer steps t =
    (now : Instant) × (after : P) × (more : List (PollStep P)) × (steps ≡ ReadClock now.nanos after ∷ more)
    × ArmedFor r (moment_after now time) answer more t

-- one call, with the armed deadline, and the effect of its result
pub record IsCalled
    {P : Type 0} (s : Timer) (token : Token) (v : PollView P) (calls : TimerCalls)
    (answer : Result PostAction TimerError) (steps : List (PollStep P)) (t : Timer) (r : Registration) : Type 0 where
  pub registered : s.registration ≡ Some r
  pub named : r.token ≡ token
  pub unspent : r.spent ≡ false
  pub unarmed : is_armed r.counter v.deadlines ≡ false
  pub action : TimeoutAction
  pub called : calls ≡ record { event = r.armed; before = tt; after = tt; answer = action } ∷ []
  pub more : List (PollStep P)
  pub steps_are : steps ≡ Call r.counter r.armed ∷ more
  pub answered : FollowsFrom s r action answer more t

-- no call: the token isn't the timer's, its arming was called for, or its counter has a deadline; in calloop a timer
-- that was armed again can be called too early
pub record IsIgnored
    {P : Type 0} (s : Timer) (token : Token) (v : PollView P) (calls : TimerCalls)
    (answer : Result PostAction TimerError) (steps : List (PollStep P)) (t : Timer) : Type 0 where
  pub why : (r : Registration) → s.registration ≡ Some r → r.token ≡ token → r.spent ≡ false
      → is_armed r.counter v.deadlines ≡ true
  pub called : calls ≡ []
  pub answered : answer ≡ Ok Continue
  pub no_steps : steps ≡ []
  pub same : t ≡ s

abbrev pub IsTimerTurn : {P : Type 0} → Timer → Token → PollView P → TimerCalls
    → Result PostAction TimerError → List (PollStep P) → Timer → Type 0
IsTimerTurn s token v calls answer steps t =
    ((r : Registration) × IsCalled s token v calls answer steps t r) ⊎ IsIgnored s token v calls answer steps t

abbrev pub IsTimer : {P : Type 0} → Timer → PollView P → Deed (Heard Instant (Unit {0}) TimeoutAction TimerError)
    → List (PollStep P) → Timer → Type 0
IsTimer s v (Registered f answer g) steps t = IsTimerReg s v f answer steps t g
IsTimer s v (Reregistered f answer g) steps t = IsTimerReg s v f answer steps t g
IsTimer s v (Unregistered answer) steps t = IsTimerUnreg s answer steps t
IsTimer s v (Slept given answer) steps t = SaysNothing given answer × (steps ≡ []) × (t ≡ s)
IsTimer s v (Noticed events) steps t = (steps ≡ []) × (t ≡ s)
IsTimer s v (Turned readiness token turn) steps t = IsTimerTurn s token v turn.calls turn.answer steps t

abbrev pub timer_meaning : {P : Type 0} → Meaning Timer P (Heard Instant (Unit {0}) TimeoutAction TimerError)
timer_meaning =
    record { holds = timer_holds; keys = timer_keys; fits = λ s. Unit {0}; needs = λ s. false; limit = λ s. 0; role = λ s. Caller; does = IsTimer }
