-- What a source of a ping and two timers means: its parts are called one after another, the ping first.
use Rattle.std.specs.Prelude.{◌≡◌, ◌⊎◌, ℕ, ◌<◌, ◌++◌, List, [], ◌∷◌, Option, None, Some, Result, Ok, Err, false}
use Rattle.std.proofs.Common.{inl, inr, refl, ◌∙◌}
use Rattle.calloop_slots.specs.Widths.{parts}
use Rattle.calloop_slots.specs.declared.wheel.Instant.{Instant}
use Rattle.calloop_sources.specs.declared.sources.source.PostAction.{PostAction}
use Rattle.calloop_sources.specs.declared.sources.source.PostAction.TheVariants.{Continue}
use Rattle.calloop_sources.specs.declared.timer.TimeoutAction.{TimeoutAction}
use Rattle.calloop_sources.specs.declared.timer.TimerError.{TimerError}
use Rattle.calloop_sources.specs.sources.Calls.{CallbackCall}
use Rattle.calloop_poll.specs.sys.Polls.{PollView, PollStep, polls_after}
use Rattle.calloop_sources.specs.sources.Lawful.{silent}
use Rattle.calloop_sources.specs.sources.Deeds.{Deed, Registered, Reregistered, Unregistered, Turned, SaysNothing, Slept, Noticed, Heard}
use Rattle.calloop_sources.specs.sources.Holdings.{Holding, holds_none, IsBelow, Keeps}
use Rattle.calloop_slots.specs.declared.token.TokenFactory.{TokenFactory}
use Rattle.calloop_slots.specs.declared.token.RegistrationToken.{RegistrationToken}
use Rattle.calloop_poll.specs.sys.Keys.{AllActFor}
use Rattle.calloop_sources.specs.declared.sources.dispatch.Role.TheVariants.{Caller}
use Rattle.calloop_sources.specs.sources.Meanings.{Meaning, IsKeeping, KeepsCounters, KeepsHome, IsAtHome, BeginsIn}
use Rattle.calloop_sources.specs.Timers.{timer_holds, timer_keys, timer_meaning}
use Rattle.calloop_sources.specs.TimerKeeping.{timer_keeps}
use Rattle.calloop_ends.specs.declared.ping.source.PingError.{PingError}
use Rattle.calloop_ends.specs.ping.Pings.{ping_meaning, ping_keys}
use Rattle.calloop_ends.specs.ping.PingKeeping.{ping_keeps}
use Rattle.calloop_sources.specs.sources.Beside.{
  IsApart,
  beside,
  apart_sym,
  join_swap,
  keeps_beside,
  keeps_then,
  next_after,
  next_is,
}
use Rattle.calloop_sources.specs.sources.Beside.{left_held, right_held, within_itself}
use Rattle.calloop_test_sources.specs.declared.source.Broken.{Broken}
use Rattle.calloop_test_sources.specs.declared.trio.Part.{Part}
use Rattle.calloop_test_sources.specs.declared.trio.Part.TheVariants.{Bell, First, Second}
use Rattle.calloop_test_sources.specs.declared.trio.Trio.{Trio}

-- a factory of the same registration as this one, by a count that fits its width
abbrev pub IsFrom : TokenFactory → TokenFactory → Type 0
IsFrom f f' = (f'.registration ≡ f.registration) × (f'.given < parts)

-- the same call of two sources: a registration, with a factory of the same one, which succeeds if the whole does; a
-- turn, for the same event
abbrev pub IsAlike : {T U : Type 0} → Deed T → Deed U → Type 0
IsAlike (Registered f answer g) (Registered f' answer' g') = IsFrom f f' × (answer ≡ Ok tt → answer' ≡ Ok tt)
IsAlike (Reregistered f answer g) (Reregistered f' answer' g') = IsFrom f f'
IsAlike (Unregistered answer) (Unregistered answer') = Unit {0}
IsAlike (Turned readiness token turn) (Turned readiness' token' turn') = (readiness' ≡ readiness) × (token' ≡ token)
IsAlike whole part = ⊥

-- a call may not reach a part, unless it is a registration that succeeds
abbrev pub MayStop : {T : Type 0} → Deed T → Type 0
MayStop (Registered f (Ok u) g) = ⊥
MayStop deed = Unit {0}

-- what a part does in a call of the whole, which may not reach it
abbrev pub MayDo : {S P T U : Type 0} → Deed T → Meaning S P U → S → PollView P → Option (Deed U) → List (PollStep P)
    → S
    → Type 0
MayDo whole m s v None steps t = MayStop whole × (steps ≡ []) × (t ≡ s)
MayDo whole m s v (Some deed) steps t = IsAlike whole deed × m.does s v deed steps t

-- what a turn of the whole took and returned, and what a turn of a part did
abbrev pub OfTrio : Type 0
OfTrio = Heard Part (Unit {0}) (Unit {0}) Broken

abbrev pub OfBell : Type 0
OfBell = Heard (Unit {0}) (Unit {0}) (Unit {0}) PingError

abbrev pub OfTimer : Type 0
OfTimer = Heard Instant (Unit {0}) TimeoutAction TimerError

-- the ping, then the first timer, then the second
pub record AsksParts {P R : Type 0} (s : Trio R) (v : PollView P) (deed : Deed OfTrio) (steps : List (PollStep P))
    (t : Trio R) : Type 0 where
  pub bell_deed : Option (Deed OfBell)
  pub first_deed : Option (Deed OfTimer)
  pub second_deed : Option (Deed OfTimer)
  pub bell_steps : List (PollStep P)
  pub first_steps : List (PollStep P)
  pub second_steps : List (PollStep P)
  pub steps_are : steps ≡ bell_steps ++ (first_steps ++ second_steps)
  pub bell : MayDo deed ping_meaning s.bell v bell_deed bell_steps t.bell
  pub first : MayDo deed timer_meaning s.first (polls_after v bell_steps) first_deed first_steps t.first
  pub second : MayDo deed timer_meaning s.second (polls_after (polls_after v bell_steps) first_steps) second_deed
      second_steps t.second

-- one call for a part, or none
abbrev pub calls_of : Option Part → List (CallbackCall Part (Unit {0}) (Unit {0}))
calls_of None = []
calls_of (Some part) = record { event = part; before = tt; after = tt; answer = tt } ∷ []

-- the event of the last of these calls, or else the one before them
abbrev pub after_calls : {E M T : Type 0} → Option E → List (CallbackCall E M T) → Option E
after_calls before [] = before
after_calls before (c ∷ cs) = after_calls (Some c.event) cs

-- the event that a part was called with in its turn
abbrev pub heard_of : {E M T Cause : Type 0} → Option (Deed (Heard E M T Cause)) → Option E
heard_of (Some (Turned readiness token turn)) = after_calls None turn.calls
heard_of deed = None

-- the first part that was called
abbrev pub part_heard : Option (Unit {0}) → Option Instant → Option Instant → Option Part
part_heard (Some u) first second = Some Bell
part_heard None (Some deadline) second = Some (First deadline)
part_heard None None (Some deadline) = Some (Second deadline)
part_heard None None None = None

-- one call for that part, and the source stays in the loop; if a part fails, nobody is called
abbrev pub EndsSo : Option Part → List (CallbackCall Part (Unit {0}) (Unit {0})) → Result PostAction Broken → Type 0
EndsSo part calls (Ok action) = (calls ≡ calls_of part) × (action ≡ Continue)
EndsSo part calls (Err cause) = calls ≡ []

abbrev pub IsTrio : {P R : Type 0} → Trio R → PollView P → Deed OfTrio
    → List (PollStep P) → Trio R → Type 0
IsTrio s v (Registered f answer g) steps t = AsksParts s v (Registered f answer g) steps t
IsTrio s v (Reregistered f answer g) steps t = AsksParts s v (Reregistered f answer g) steps t
IsTrio s v (Unregistered answer) steps t = AsksParts s v (Unregistered answer) steps t
IsTrio s v (Slept given answer) steps t = SaysNothing given answer × (steps ≡ []) × (t ≡ s)
IsTrio s v (Noticed events) steps t = (steps ≡ []) × (t ≡ s)
IsTrio s v (Turned readiness token turn) steps t =
    (did : AsksParts s v (Turned readiness token turn) steps t)
    × EndsSo (part_heard (heard_of did.bell_deed) (heard_of did.first_deed) (heard_of did.second_deed)) turn.calls
    turn.answer

abbrev pub trio_holds : {R : Type 0} → Trio R → ℕ → Holding
trio_holds s = beside (timer_holds s.first) (timer_holds s.second)

abbrev pub trio_keys : {R : Type 0} → Trio R → (key : ℕ) → Type 0
trio_keys s key = ping_keys s.bell key ⊎ (timer_keys s.first key ⊎ timer_keys s.second key)

-- its timers hold different counters
abbrev pub trio_meaning : {P R : Type 0} → Meaning (Trio R) P OfTrio
trio_meaning =
    record {
      holds = trio_holds;
      keys = trio_keys;
      fits = λ s. IsApart (timer_holds s.first) (timer_holds s.second);
      needs = λ s. false;
      limit = λ s. 0;
      role = λ s. Caller;
      does = IsTrio;
    }

-- Proofs, which the impl cites.

may_keep : {S P T U : Type 0} (whole : Deed T) (m : Meaning S P U) → KeepsCounters m → (s t : S) (v : PollView P)
    (deed : Option (Deed U)) (l : List (PollStep P)) → m.fits s → IsBelow v.deadlines.next (m.holds s)
    → MayDo whole m s v deed l t → m.fits t × Keeps (m.holds s) v.deadlines.next l (m.holds t)
may_keep whole m k s t v None l fits below h = rw (h.1, h.2) (fits, λ counter. within_itself (m.holds s counter))
may_keep whole m k s t v (Some deed) l fits below h = k s t v deed l fits below h.1

timers_keep : {P R : Type 0} (s t : Trio R) (v : PollView P) (deed : Deed OfTrio)
    (d e : Option (Deed OfTimer)) (l m : List (PollStep P))
    → IsApart (timer_holds s.first) (timer_holds s.second) → IsBelow v.deadlines.next (trio_holds s)
    → MayDo deed timer_meaning s.first v d l t.first
    → MayDo deed timer_meaning s.second (polls_after v l) e m t.second
    → IsApart (timer_holds t.first) (timer_holds t.second)
    × Keeps (trio_holds s) v.deadlines.next (l ++ m) (trio_holds t)
timers_keep s t v deed d e l m fits below one other =
    let next = v.deadlines.next in
    let a = timer_holds s.first in
    let a' = timer_holds t.first in
    let b = timer_holds s.second in
    let b' = timer_holds t.second in
    let below_a : IsBelow next a = λ c held. below c (left_held (a c) (b c) held) in
    let below_b : IsBelow next b = λ c held. below c (right_held (a c) (b c) held) in
    let first = may_keep deed timer_meaning timer_keeps.counters s.first t.first v d l tt below_a one in
    let x = keeps_beside next l a a' b (beside a b) (beside a' b) first.1 fits below_a below_b
    (λ c. refl) (λ _ c. refl) in
    let at : (polls_after v l).deadlines.next ≡ next_after next l = next_is v l in
    let below_b' : IsBelow (polls_after v l).deadlines.next b = rw at x.other in
    let second = may_keep deed timer_meaning timer_keeps.counters s.second t.second
    (polls_after v l) e m tt below_b' other in
    let kept : Keeps b (next_after next l) m b' = rw at at second.1 in
    let y = keeps_beside (next_after next l) m b b' a' (beside a' b) (beside a' b')
    kept (apart_sym a' b x.apart) x.other x.below
    (λ c. join_swap (a' c) (b c) (x.apart c)) (λ apart c. join_swap (a' c) (b' c) (apart_sym b' a' apart c)) in
    (apart_sym b' a' y.apart, keeps_then next l m (beside a b) (beside a' b) (beside a' b') x.keeps y.keeps)

parts_keep : {P R : Type 0} (s t : Trio R) (v : PollView P) (deed : Deed OfTrio) (l : List (PollStep P))
    → IsApart (timer_holds s.first) (timer_holds s.second) → IsBelow v.deadlines.next (trio_holds s)
    → AsksParts s v deed l t
    → IsApart (timer_holds t.first) (timer_holds t.second) × Keeps (trio_holds s) v.deadlines.next l (trio_holds t)
parts_keep s t v deed l fits below h =
    let next = v.deadlines.next in
    let u = polls_after v h.bell_steps in
    let held = trio_holds s in
    let none : IsBelow next holds_none = λ c held. absurd (held refl) in
    let bell = may_keep deed ping_meaning ping_keeps.counters s.bell t.bell v h.bell_deed h.bell_steps tt none h.bell in
    let x = keeps_beside next h.bell_steps holds_none holds_none held held held bell.1 (λ c. inl refl) none below
    (λ c. refl) (λ _ c. refl) in
    let at : u.deadlines.next ≡ next_after next h.bell_steps = next_is v h.bell_steps in
    let below' : IsBelow u.deadlines.next held = rw at x.other in
    let both = timers_keep s t u deed h.first_deed h.second_deed h.first_steps h.second_steps fits below'
    h.first h.second in
    let kept : Keeps held (next_after next h.bell_steps) (h.first_steps ++ h.second_steps) (trio_holds t) =
    rw at at both.1 in (
      both.0,
      rw h.steps_are (
          keeps_then next h.bell_steps (h.first_steps ++ h.second_steps) held held (trio_holds t) x.keeps kept),
    )

trio_counts : {P R : Type 0} → KeepsCounters (trio_meaning {P = P} {R = R})
trio_counts s t v (Registered f a g) l fits below h = parts_keep s t v (Registered f a g) l fits below h
trio_counts s t v (Reregistered f a g) l fits below h = parts_keep s t v (Reregistered f a g) l fits below h
trio_counts s t v (Unregistered a) l fits below h = parts_keep s t v (Unregistered a) l fits below h
trio_counts s t v (Slept gs a) l fits below h = rw (h.1, h.2) (fits, λ c. within_itself (trio_holds s c))
trio_counts s t v (Noticed es) l fits below h = rw (h.0, h.1) (fits, λ c. within_itself (trio_holds s c))
trio_counts s t v (Turned r k turn) l fits below h = parts_keep s t v (Turned r k turn) l fits below h.0

-- Of its keys.

arms_then : {P : Type 0} (r : RegistrationToken) (l m : List (PollStep P)) → AllActFor r l → AllActFor r m
    → AllActFor r (l ++ m)
arms_then r [] m a b = b
arms_then r (s ∷ ss) m a b = (a.0, arms_then r ss m a.1 b)

begins_part : {T : Type 0} (whole part : Type 0) (r : RegistrationToken) (deed : Deed T) → (whole → part)
    → BeginsIn whole r deed → BeginsIn part r deed
begins_part whole part r (Registered f (Ok u) g) home begins = begins
begins_part whole part r (Registered f (Err e) g) home begins = (home begins.0, begins.1)
begins_part whole part r (Reregistered f a g) home begins = (home begins.0, begins.1)
begins_part whole part r (Unregistered a) home begins = home begins
begins_part whole part r (Slept gs a) home begins = home begins
begins_part whole part r (Noticed es) home begins = home begins
begins_part whole part r (Turned readiness k turn) home begins = home begins

stops_at_home : {T : Type 0} (home : Type 0) (r : RegistrationToken) (deed : Deed T) → MayStop deed
    → BeginsIn home r deed → home
stops_at_home home r (Registered f (Ok u) g) may begins = absurd may
stops_at_home home r (Registered f (Err e) g) may begins = begins.0
stops_at_home home r (Reregistered f a g) may begins = begins.0
stops_at_home home r (Unregistered a) may begins = begins
stops_at_home home r (Slept gs a) may begins = begins
stops_at_home home r (Noticed es) may begins = begins
stops_at_home home r (Turned readiness k turn) may begins = begins

begins_alike : {T U : Type 0} (home : Type 0) (r : RegistrationToken) (whole : Deed T) (part : Deed U)
    → IsAlike whole part
    → BeginsIn home r whole → BeginsIn home r part
begins_alike home r (Registered f (Ok u) g) (Registered f' (Ok u') g') alike begins = (alike.0.0 ∙ begins.0, alike.0.1)
begins_alike home r (Registered f (Ok u) g) (Registered f' (Err e) g') alike begins = (let no = alike.1 refl in cc)
begins_alike home r (Registered f (Err e) g) (Registered f' (Ok u) g') alike begins =
    (alike.0.0 ∙ begins.1.0, alike.0.1)
begins_alike home r (Registered f (Err e) g) (Registered f' (Err e') g') alike begins =
    (begins.0, (alike.0.0 ∙ begins.1.0, alike.0.1))
begins_alike home r (Reregistered f a g) (Reregistered f' a' g') alike begins =
    (begins.0, (alike.0 ∙ begins.1.0, alike.1))
begins_alike home r (Unregistered a) (Unregistered a') alike begins = begins
begins_alike home r (Turned readiness k turn) (Turned readiness' k' turn') alike begins = begins
begins_alike home r whole part alike begins = absurd alike

may_stay : {S P T U : Type 0} (whole : Deed T) (m : Meaning S P U) → KeepsHome m
    → (r : RegistrationToken) (s t : S) (v : PollView P)
    (deed : Option (Deed U)) (l : List (PollStep P)) → BeginsIn (IsAtHome m r s) r whole
    → MayDo whole m s v deed l t → IsAtHome m r t × (IsAtHome m r s → AllActFor r l)
may_stay whole m k r s t v None l begins h = rw (h.1, h.2) (stops_at_home (IsAtHome m r s) r whole h.0 begins, λ home. tt)
may_stay whole m k r s t v (Some deed) l begins h =
    k r s t v deed l (begins_alike (IsAtHome m r s) r whole deed h.0 begins) h.1

parts_stay : {P R : Type 0} (r : RegistrationToken) (s t : Trio R) (v : PollView P) (deed : Deed OfTrio)
    (l : List (PollStep P))
    → BeginsIn (IsAtHome (trio_meaning {P = P}) r s) r deed → AsksParts s v deed l t
    → IsAtHome (trio_meaning {P = P}) r t × (IsAtHome (trio_meaning {P = P}) r s → AllActFor r l)
parts_stay {P} r s t v deed l begins h =
    let w = polls_after v h.bell_steps in
    let whole = IsAtHome (trio_meaning {P = P}) r s in
    let at_bell = IsAtHome (ping_meaning {P = P}) r s.bell in
    let at_first = IsAtHome (timer_meaning {P = P}) r s.first in
    let at_second = IsAtHome (timer_meaning {P = P}) r s.second in
    let bell = may_stay deed ping_meaning ping_keeps.home r s.bell t.bell v h.bell_deed h.bell_steps
    (begins_part whole at_bell r deed (λ home key held. home key (inl held)) begins) h.bell in
    let first = may_stay deed timer_meaning timer_keeps.home r s.first t.first w h.first_deed h.first_steps
    (begins_part whole at_first r deed (λ home key held. home key (inr (inl held))) begins) h.first in
    let second = may_stay deed timer_meaning timer_keeps.home r s.second t.second
    (polls_after w h.first_steps) h.second_deed h.second_steps
    (begins_part whole at_second r deed (λ home key held. home key (inr (inr held))) begins) h.second in (
      λ key held.
          elim held [ inl x ↦ bell.0 key x | inr y ↦ elim y [ inl x ↦ first.0 key x | inr x ↦ second.0 key x ] ],
      λ home.
          rw h.steps_are (arms_then r h.bell_steps (h.first_steps ++ h.second_steps) (bell.1 (λ key held. home key (inl held)))
          (arms_then r h.first_steps h.second_steps (first.1 (λ key held. home key (inr (inl held))))
          (second.1 (λ key held. home key (inr (inr held)))))),
    )

trio_stays : {P R : Type 0} → KeepsHome (trio_meaning {P = P} {R = R})
trio_stays r s t v (Registered f a g) l begins h = parts_stay r s t v (Registered f a g) l begins h
trio_stays r s t v (Reregistered f a g) l begins h = parts_stay r s t v (Reregistered f a g) l begins h
trio_stays r s t v (Unregistered a) l home h = parts_stay r s t v (Unregistered a) l home h
trio_stays r s t v (Slept gs a) l home h = rw (h.1, h.2) (home, λ at. tt)
trio_stays r s t v (Noticed es) l home h = rw (h.0, h.1) (home, λ at. tt)
trio_stays r s t v (Turned readiness k turn) l home h = parts_stay r s t v (Turned readiness k turn) l home h.0

pub trio_keeps : {P R : Type 0} → IsKeeping (trio_meaning {P = P} {R = R})
trio_keeps =
    record {
      counters = trio_counts;
      home = trio_stays;
      limit = silent trio_meaning (λ s. refl) (λ s t v given answer steps h. h.0.0);
    }
