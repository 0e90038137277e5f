-- A timer makes steps of its own counter alone, calls at most once for each arming, and keeps its keys in its registration.
-- The impl cites these proofs, so they are here.
use Rattle.std.proofs.Common.{◌≡◌, ◌≢◌, inl, inr, ℕ, ◌++◌, List, Option, None, Some, Result, Ok, Err, refl, sym, ◌∙◌}
use Rattle.std.proofs.Common.{ap, true, false, Bool, nat_eq, if◌then◌else◌, arith}
use Rattle.std.proofs.lemmas.Bool.Decides.{nat_tests}
use Rattle.calloop_slots.specs.declared.error.Error.{Error}
use Rattle.calloop_slots.specs.declared.token.Token.{Token}
use Rattle.calloop_slots.specs.declared.token.TokenFactory.{TokenFactory}
use Rattle.calloop_slots.specs.declared.token.RegistrationToken.{RegistrationToken}
use Rattle.calloop_slots.specs.declared.wheel.Instant.{Instant}
use Rattle.calloop_slots.specs.Tokens.{key_of}
use Rattle.calloop_slots.specs.Deadlines.{moment_after}
use Rattle.calloop_sources.specs.declared.sources.source.PostAction.{PostAction}
use Rattle.calloop_sources.specs.declared.timer.TimeoutAction.{TimeoutAction}
use Rattle.calloop_sources.specs.declared.timer.TimeoutAction.TheVariants.{Drop, ToInstant, ToDuration}
use Rattle.calloop_sources.specs.declared.timer.TimerError.{TimerError}
use Rattle.calloop_sources.specs.declared.timer.Timer.{Timer}
use Rattle.calloop_sources.specs.declared.timer.Registration.{Registration}
use Rattle.calloop_sources.specs.sources.Deeds.{Registered, Reregistered, Unregistered, Turned, Slept, Noticed}
use Rattle.calloop_poll.specs.sys.Keys.{IsKeyOf, IsFactoryOf, AllActFor}
use Rattle.calloop_sources.specs.sources.Lawful.{next_is_own, StaysHome, stays_home, silent}
use Rattle.calloop_sources.specs.sources.Meanings.{IsKeeping, KeepsCounters}
use Rattle.calloop_poll.specs.sys.Polls.{PollView, PollStep}
use Rattle.calloop_sources.specs.sources.Holdings.{Holding, Free, Spent, Standing, IsWithin, Keeps, with_hold}
use Rattle.calloop_sources.specs.Timers.{TimerCalls, timer_holds, held_as, releases, Armed, ArmedAgain, ArmedFor, FollowsFrom}
use Rattle.calloop_sources.specs.Timers.{IsTimerReg, IsTimerUnreg, IsTimerTurn, timer_keys, timer_meaning}

within_same : (h : Holding) → IsWithin h h
within_same Free = tt
within_same Spent = refl
within_same (Standing deadline) = refl

-- whatever holds one counter, if it is within what holds it too
within_one : (counter n : ℕ) (h : Holding) (held : ℕ → Holding)
    → IsWithin (if nat_eq counter n then h else Free) (with_hold n h held counter)
within_one counter n h held =
    elim (nat_eq counter n) as
    (λ b. IsWithin (if b then h else Free) (if b then h else held counter)) [ true ↦ within_same h | false ↦ tt ]

same_counter : (n : ℕ) → nat_eq n n ≡ true
same_counter n = grind (arith, nat_tests)

held_here : (n : ℕ) (h : Holding) (held : ℕ → Holding) → with_hold n h held n ≡ h
held_here n h held = ap (λ b. if b then h else held n) (same_counter n)

own_state : (r : Registration) → held_as (Some r) r.counter ≡ (if r.spent then Spent else Standing r.armed)
own_state r = ap (λ b. if b then (if r.spent then Spent else Standing r.armed) else Free) (same_counter r.counter)

not_free : (b : Bool) (at : Instant) → (if b then Spent else Standing at) ≢ Free
not_free true at e = cc
not_free false at e = cc

keeps_armed : {P : Type 0} (held : ℕ → Holding) (o : Option Instant) (next : ℕ) (f g : TokenFactory)
    (a : Result (Unit {0}) Error) (l : List (PollStep P)) (t : Timer) → Armed o next f a l t g
    → Keeps held next l (timer_holds t)
keeps_armed held None next f g a l t h = rw (h.1, h.2) (λ counter. tt)
keeps_armed held (Some at) next f g (Ok u) l t h =
    rw (h.0, h.1) (λ counter. within_one counter next (Standing at) held)
keeps_armed held (Some at) next f g (Err e) l t h = rw (h.0, h.1) (λ counter. tt)

keeps_released : {P : Type 0} (o : Option Registration) (next : ℕ) (more : List (PollStep P)) (after : ℕ → Holding)
    → ((held : ℕ → Holding) → Keeps held next more after) → Keeps (held_as o) next (releases o ++ more) after
keeps_released None next more after h = h (held_as None)
keeps_released (Some r) next more after h =
    (λ e. not_free r.spent r.armed (sym (own_state r) ∙ e), h (with_hold r.counter Free (held_as (Some r))))

timer_reg_keeps : {P : Type 0} (s t : Timer) (v : PollView P) (f g : TokenFactory) (a : Result (Unit {0}) Error)
    (l : List (PollStep P)) → IsTimerReg s v f a l t g → Keeps (timer_holds s) v.deadlines.next l (timer_holds t)
timer_reg_keeps s t v f g a l h =
    let next = v.deadlines.next in
    let armed : (held : ℕ → Holding) → Keeps held next h.0 (timer_holds t) =
    λ held. keeps_armed held s.deadline next f g a h.0 t h.2 in
    rw h.1 (keeps_released s.registration next h.0 (timer_holds t) armed)

only_released : (P : Type 0) (o : Option Registration) (next : ℕ)
    → Keeps {P = P} (held_as o) next (releases {P = P} o) (held_as None)
only_released P None next = λ counter. tt
only_released P (Some r) next = (λ e. not_free r.spent r.armed (sym (own_state r) ∙ e), λ counter. tt)

timer_unreg_keeps : {P : Type 0} (s t : Timer) (v : PollView P) (a : Result (Unit {0}) Error) (l : List (PollStep P))
    → IsTimerUnreg s a l t → Keeps (timer_holds s) v.deadlines.next l (timer_holds t)
timer_unreg_keeps s t v a l h = rw (h.1, h.2) (only_released _ s.registration v.deadlines.next)

keeps_again : {P : Type 0} (held : ℕ → Holding) (next : ℕ) (r : Registration) (at : Instant)
    (a : Result PostAction TimerError) (l : List (PollStep P)) (t : Timer) → held r.counter ≡ Spent
    → ArmedAgain r at a l t → Keeps held next l (timer_holds t)
keeps_again held next r at (Ok x) l t mine h =
    rw (h.1, h.2) (mine, λ counter. within_one counter r.counter (Standing at) held)
keeps_again held next r at (Err e) l t mine h = rw (h.0, h.1) (λ counter. tt)

keeps_for : {P : Type 0} (held : ℕ → Holding) (next : ℕ) (r : Registration) (moment : Option Instant)
    (a : Result PostAction TimerError) (l : List (PollStep P)) (t : Timer) → ArmedFor r moment a l t
    → Keeps (with_hold r.counter Spent held) next l (timer_holds t)
keeps_for held next r (Some at) a l t h =
    keeps_again (with_hold r.counter Spent held) next r at a l t (held_here r.counter Spent held) h
keeps_for held next r None a l t h = rw (h.1, h.2) (λ counter. within_one counter r.counter Spent held)

keeps_answered : {P : Type 0} (held : ℕ → Holding) (next : ℕ) (s : Timer) (r : Registration) (x : TimeoutAction)
    (a : Result PostAction TimerError) (l : List (PollStep P)) (t : Timer) → FollowsFrom s r x a l t
    → Keeps (with_hold r.counter Spent held) next l (timer_holds t)
keeps_answered held next s r Drop a l t h = rw (h.1, h.2) (λ counter. within_one counter r.counter Spent held)
keeps_answered held next s r (ToInstant at) a l t h =
    keeps_again (with_hold r.counter Spent held) next r at a l t (held_here r.counter Spent held) h
keeps_answered held next s r (ToDuration time) a l t h =
    rw h.3 (keeps_for held next r (moment_after h.0 time) a h.2 t h.4)

timer_turn_keeps : {P : Type 0} (s t : Timer) (k : Token) (v : PollView P) (cs : TimerCalls)
    (a : Result PostAction TimerError) (l : List (PollStep P))
    → IsTimerTurn s k v cs a l t → Keeps (timer_holds s) v.deadlines.next l (timer_holds t)
timer_turn_keeps s t k v cs a l (inl (r, h)) =
    let held : held_as s.registration r.counter ≡ held_as (Some r) r.counter =
    ap (λ o. held_as o r.counter) h.registered in
    let standing = ap (λ b. if b then Spent else Standing r.armed) h.unspent in
    let mine : held_as s.registration r.counter ≡ Standing r.armed = held ∙ own_state r ∙ standing in
    rw h.steps_are (mine, keeps_answered (timer_holds s) v.deadlines.next s r h.action a h.more t h.answered)
timer_turn_keeps s t k v cs a l (inr h) = rw (h.no_steps, h.same) (λ counter. within_same (timer_holds s counter))

timer_counts : {P : Type 0} → KeepsCounters (timer_meaning {P = P})
timer_counts s t v (Registered f a g) l fits below h = (tt, timer_reg_keeps s t v f g a l h)
timer_counts s t v (Reregistered f a g) l fits below h = (tt, timer_reg_keeps s t v f g a l h)
timer_counts s t v (Unregistered a) l fits below h = (tt, timer_unreg_keeps s t v a l h)
timer_counts s t v (Slept gs a) l fits below h = (tt, rw (h.1, h.2) (λ counter. within_same (timer_holds s counter)))
timer_counts s t v (Noticed es) l fits below h = (tt, rw (h.0, h.1) (λ counter. within_same (timer_holds s counter)))
timer_counts s t v (Turned r k turn) l fits below h = (tt, timer_turn_keeps s t k v turn.calls turn.answer l h)

-- Of its key.

-- each key of this timer is of that registration
abbrev Home : RegistrationToken → Timer → Type 0
Home r t = (key : ℕ) → timer_keys t key → IsKeyOf r key

arms_released : {P : Type 0} (r : RegistrationToken) (o : Option Registration) (more : List (PollStep P))
    → AllActFor r more → AllActFor r (releases o ++ more)
arms_released r None more h = h
arms_released r (Some own) more h = (tt, h)

arms_none : (P : Type 0) (r : RegistrationToken) (o : Option Registration) → AllActFor {P = P} r (releases o)
arms_none P r None = tt
arms_none P r (Some own) = (tt, tt)

home_armed : {P : Type 0} (r : RegistrationToken) (o : Option Instant) (next : ℕ) (f g : TokenFactory)
    (a : Result (Unit {0}) Error) (l : List (PollStep P)) (t : Timer) → IsFactoryOf r f → Armed o next f a l t g
    → Home r t × AllActFor r l
home_armed r None next f g a l t is h = rw (h.1, h.2) (λ key none. absurd none, tt)
home_armed r (Some at) next f g (Ok u) l t is h =
    rw (h.0, h.1) (λ key e. next_is_own f r key is e, (next_is_own f r _ is refl, tt))
home_armed r (Some at) next f g (Err e) l t is h = rw (h.0, h.1) (λ key none. absurd none, tt)

home_again : {P : Type 0} (r : RegistrationToken) (own : Registration) (at : Instant) (a : Result PostAction TimerError)
    (l : List (PollStep P)) (t : Timer) → IsKeyOf r (key_of own.token) → ArmedAgain own at a l t
    → Home r t × AllActFor r l
home_again r own at (Ok x) l t mine h = rw (h.1, h.2) (λ key e. rw e mine, (mine, tt))
home_again r own at (Err e) l t mine h = rw (h.0, h.1) (λ key none. absurd none, tt)

home_for : {P : Type 0} (r : RegistrationToken) (own : Registration) (moment : Option Instant)
    (a : Result PostAction TimerError) (l : List (PollStep P)) (t : Timer) → IsKeyOf r (key_of own.token)
    → ArmedFor own moment a l t → Home r t × AllActFor r l
home_for r own (Some at) a l t mine h = home_again r own at a l t mine h
home_for r own None a l t mine h = rw (h.1, h.2) (λ key e. rw e mine, tt)

home_answered : {P : Type 0} (r : RegistrationToken) (s : Timer) (own : Registration) (x : TimeoutAction)
    (a : Result PostAction TimerError) (l : List (PollStep P)) (t : Timer) → IsKeyOf r (key_of own.token)
    → FollowsFrom s own x a l t → Home r t × AllActFor r l
home_answered r s own Drop a l t mine h = rw (h.1, h.2) (λ key e. rw e mine, tt)
home_answered r s own (ToInstant at) a l t mine h = home_again r own at a l t mine h
home_answered r s own (ToDuration time) a l t mine h =
    let x = home_for r own (moment_after h.0 time) a h.2 t mine h.4 in (x.0, rw h.3 (tt, x.1))

home_turn : {P : Type 0} (r : RegistrationToken) (s t : Timer) (k : Token) (v : PollView P) (cs : TimerCalls)
    (a : Result PostAction TimerError) (l : List (PollStep P)) → Home r s → IsTimerTurn s k v cs a l t
    → Home r t × AllActFor r l
home_turn r s t k v cs a l home (inl (own, h)) =
    let mine : IsKeyOf r (key_of own.token) = home (key_of own.token) (rw h.registered refl) in
    let x = home_answered r s own h.action a h.more t mine h.answered in
    (x.0, rw h.steps_are (tt, x.1))
home_turn r s t k v cs a l home (inr h) = rw (h.no_steps, h.same) (home, tt)

home_registered : {P : Type 0} (r : RegistrationToken) (s t : Timer) (v : PollView P) (f g : TokenFactory)
    (a : Result (Unit {0}) Error) (l : List (PollStep P)) → IsFactoryOf r f → IsTimerReg s v f a l t g
    → Home r t × AllActFor r l
home_registered r s t v f g a l is h =
    let x = home_armed r s.deadline v.deadlines.next f g a h.0 t is h.2 in
    (x.0, rw h.1 (arms_released r s.registration h.0 x.1))

timer_stays : {P : Type 0} → StaysHome (timer_meaning {P = P})
timer_stays r s t v (Registered f (Ok u) g) l begins h = home_registered r s t v f g (Ok u) l begins h
timer_stays r s t v (Registered f (Err e) g) l begins h = home_registered r s t v f g (Err e) l begins.1 h
timer_stays r s t v (Reregistered f a g) l begins h = home_registered r s t v f g a l begins.1 h
timer_stays r s t v (Unregistered a) l home h = rw (h.1, h.2) (λ key none. absurd none, arms_none _ r s.registration)
timer_stays r s t v (Slept gs a) l home h = rw (h.1, h.2) (home, tt)
timer_stays r s t v (Noticed es) l home h = rw (h.0, h.1) (home, tt)
timer_stays r s t v (Turned readiness k turn) l home h = home_turn r s t k v turn.calls turn.answer l home h

pub timer_keeps : {P : Type 0} → IsKeeping (timer_meaning {P = P})
timer_keeps =
    record {
      counters = timer_counts;
      home = stays_home timer_meaning timer_stays;
      limit = silent timer_meaning (λ s. refl) (λ s t v given answer steps h. h.0.0);
    }
