-- Two sources with their callbacks as one: what the parts do, one after the other. calloop's users write such a source by hand,
-- and there a part can meet a key that the other part still has, when the whole is registered anew.
use Rattle.std.specs.Prelude.{◌≡◌, ◌≢◌, ◌⊎◌, ℕ, ◌<◌, ◌++◌, [], List, Option, None, Some, Result, Ok, Err, false}
use Rattle.calloop_slots.specs.Widths.{parts}
use Rattle.calloop_slots.specs.declared.error.Error.{Error}
use Rattle.calloop_slots.specs.declared.error.Error.TheVariants.{InvalidToken}
use Rattle.calloop_slots.specs.declared.token.Token.{Token}
use Rattle.calloop_slots.specs.declared.token.TokenFactory.{TokenFactory}
use Rattle.calloop_poll.specs.declared.sys.Readiness.{Readiness}
use Rattle.calloop_sources.specs.declared.sources.source.PostAction.{PostAction}
use Rattle.calloop_sources.specs.declared.both.Both.{Both}
use Rattle.calloop_sources.specs.sources.Actions.{either}
use Rattle.calloop_poll.specs.sys.Polls.{PollView, PollStep, polls_after}
use Rattle.calloop_sources.specs.sources.Deeds.{Deed, Registered, Reregistered, Unregistered, Turned, SaysNothing, Slept, Noticed, Lent, lend}
use Rattle.calloop_sources.specs.sources.Holdings.{Holding}
use Rattle.calloop_sources.specs.declared.sources.dispatch.Role.TheVariants.{Caller}
use Rattle.calloop_sources.specs.sources.Meanings.{Meaning}
use Rattle.calloop_sources.specs.sources.Beside.{IsApart, beside}

-- what a part did, if it was called
abbrev pub MayDo : {S P T : Type 0} → Meaning S P T → S → PollView P → Option (Deed T) → List (PollStep P) → S → Type 0
MayDo m s v None steps t = (steps ≡ []) × (t ≡ s)
MayDo m s v (Some deed) steps t = m.does s v deed steps t

-- the first part is called, and then, if at all, the second one, on the state that the first one left
pub record AsksBoth
    {A B P T : Type 0} (m : Meaning A P T) (n : Meaning B P T) (first : Deed T) (second : Option (Deed T))
    (s : Both A B) (v : PollView P) (steps : List (PollStep P)) (t : Both A B) : Type 0 where
  pub one : List (PollStep P)
  pub more : List (PollStep P)
  pub does : m.does s.first v first one t.first
  pub may : MayDo n s.second (polls_after v one) second more t.second
  pub steps_are : steps ≡ one ++ more

-- the results of two parts, of which the second is called if the first succeeded
abbrev pub Followed : {T : Type 0} → Result (Unit {0}) Error → Result (Unit {0}) Error → Option (Deed T) → Type 0
Followed (Ok u) answer second = second ≡ Some (Unregistered answer)
Followed (Err e) answer second = (second ≡ None) × (answer ≡ Err e)

-- the same for a registration. It fails if the first part leaves a factory of another registration.
abbrev pub FollowedBy : {T : Type 0} → (TokenFactory → Result (Unit {0}) Error → TokenFactory → Deed T)
    → TokenFactory → Result (Unit {0}) Error → TokenFactory → Result (Unit {0}) Error → TokenFactory → Option (Deed T)
    → Type 0
FollowedBy deed f (Ok u) h answer g second =
    ((h.registration ≢ f.registration) × (second ≡ None) × (answer ≡ Err InvalidToken) × (g ≡ h))
    ⊎ ((h.registration ≡ f.registration) × (h.given < parts) × (second ≡ Some (deed h answer g)))
FollowedBy deed f (Err e) h answer g second = (second ≡ None) × (answer ≡ Err e) × (g ≡ h)

-- both had their turn: the action that both ask for, else they are registered anew; an error of the second is the whole's
abbrev pub JoinedAs : PostAction → Result PostAction Error → Result PostAction Error → Type 0
JoinedAs action (Ok other) answer = answer ≡ Ok (either action other)
JoinedAs action (Err e) answer = answer ≡ Err e

-- data and requests pass through both turns
abbrev pub TurnedBy : {X Q : Type 0} → Readiness → Token → Lent X Q → Result PostAction Error → Lent X Q
    → Option (Deed (Lent X Q)) → Type 0
TurnedBy {X} {Q} readiness token one (Ok action) turn second =
    (answer : Result PostAction Error)
    × (second ≡ Some (Turned readiness token (lend one.after one.asked_after answer turn.after turn.asked_after)))
    × JoinedAs action answer turn.answer × (turn.before ≡ one.before) × (turn.asked_before ≡ one.asked_before)
TurnedBy readiness token one (Err e) turn second = (second ≡ None) × (turn ≡ one)

module _ {A B P X Q : Type 0} (m : Meaning A P (Lent X Q)) (n : Meaning B P (Lent X Q)) where
  -- as by calloop's batch macros, one after another
  abbrev pub RegistersBoth : (TokenFactory → Result (Unit {0}) Error → TokenFactory → Deed (Lent X Q)) → Both A B
      → PollView P → TokenFactory → Result (Unit {0}) Error → TokenFactory → List (PollStep P) → Both A B → Type 0
  RegistersBoth deed s v f answer g steps t =
      (told : Result (Unit {0}) Error) × (h : TokenFactory) × (second : Option (Deed (Lent X Q)))
      × FollowedBy deed f told h answer g second × AsksBoth m n (deed f told h) second s v steps t

  abbrev pub UnregistersBoth : Both A B → PollView P → Result (Unit {0}) Error → List (PollStep P) → Both A B → Type 0
  UnregistersBoth s v answer steps t =
      (told : Result (Unit {0}) Error) × (second : Option (Deed (Lent X Q)))
      × Followed told answer second × AsksBoth m n (Unregistered told) second s v steps t

  -- after both were unregistered, with this result
  abbrev pub ThenAnew : Result (Unit {0}) Error → Both A B → PollView P → TokenFactory → Result (Unit {0}) Error
      → TokenFactory → List (PollStep P) → Both A B → Type 0
  ThenAnew (Ok u) s v f answer g steps t = RegistersBoth (λ f a g. Reregistered f a g) s v f answer g steps t
  ThenAnew (Err e) s v f answer g steps t = (answer ≡ Err e) × (g ≡ f) × (steps ≡ []) × (t ≡ s)

  -- Each part gives up its keys before either takes new ones, so neither meets a key of the other.
  pub record RegistersAnew (s : Both A B) (v : PollView P) (f : TokenFactory) (answer : Result (Unit {0}) Error)
      (g : TokenFactory) (steps : List (PollStep P)) (t : Both A B) : Type 0 where
    pub told : Result (Unit {0}) Error
    pub between : Both A B
    pub one : List (PollStep P)
    pub more : List (PollStep P)
    pub leaves : UnregistersBoth s v told one between
    pub comes : ThenAnew told between (polls_after v one) f answer g more t
    pub steps_are : steps ≡ one ++ more

  abbrev pub IsBoth : Both A B → PollView P → Deed (Lent X Q) → List (PollStep P) → Both A B → Type 0
  IsBoth s v (Registered f answer g) steps t = RegistersBoth (λ f a g. Registered f a g) s v f answer g steps t
  IsBoth s v (Reregistered f answer g) steps t = RegistersAnew s v f answer g steps t
  IsBoth s v (Unregistered answer) steps t = UnregistersBoth s v answer steps t
  IsBoth s v (Turned readiness token turn) steps t =
      (one : Lent X Q) × (second : Option (Deed (Lent X Q)))
      × TurnedBy readiness token one one.answer turn second
      × AsksBoth m n (Turned readiness token one) second s v steps t
  IsBoth s v (Slept given answer) steps t = SaysNothing given answer × (steps ≡ []) × (t ≡ s)
  IsBoth s v (Noticed events) steps t = (steps ≡ []) × (t ≡ s)

  abbrev pub both_holds : Both A B → ℕ → Holding
  both_holds s = beside (m.holds s.first) (n.holds s.second)

  -- its parts hold different counters
  abbrev pub both_fits : Both A B → Type 0
  both_fits s = m.fits s.first × n.fits s.second × IsApart (m.holds s.first) (n.holds s.second)

  -- The whole isn't told of waits.
  abbrev pub both_meaning : Meaning (Both A B) P (Lent X Q)
  both_meaning =
      record {
        holds = both_holds;
        keys = λ s key. m.keys s.first key ⊎ n.keys s.second key;
        fits = both_fits;
        needs = λ s. false;
        limit = λ s. 0;
        role = λ s. Caller;
        does = IsBoth;
      }
