-- What a dispatch has done when it returns `Ok`: what it gathered was cut, all of it, in its order; no deadline that had come
-- was left; and a round of idles ran. calloop says none of it.
use Rattle.std.specs.Prelude.{◌≡◌, ℕ, ◌+◌, ◌<◌, ◌≤◌, ◌⊎◌, List, [], ◌∷◌, ◌++◌, Option, Ok}
use Rattle.std.specs.List.{Contains}
use Rattle.calloop_slots.specs.declared.wheel.Entry.{Entry}
use Rattle.calloop_slots.specs.Deadlines.{IsOrdered}
use Rattle.calloop_poll.specs.declared.sys.poll.Pending.{Pending}
use Rattle.calloop_sources.specs.sources.Deeds.{Lent}
use Rattle.calloop_sources.specs.sources.Meanings.{Meaning}
use Rattle.calloop_poll.specs.sys.Pollers.{Outside}
use Rattle.calloop_poll.specs.sys.Polls.{timer_event}
use Rattle.calloop_loop.specs.declared.asks.Idling.{Idling as Waiter}
use Rattle.calloop_loop.specs.Held.{IdlesTaken, IdleBegun, IdleOut}
use Rattle.calloop_loop.specs.Askings.{Asks, Runs}
use Rattle.calloop_laws.specs.EveryRun.{LoopRun}
use Rattle.calloop_laws.specs.Laws.{flatten}
use Rattle.calloop_loop.specs.Machine.{View, Change, Holds, Gathered, Cut, after_change, all_viewed}
use Rattle.calloop_loop.specs.Rules.{DispatchedBy}

-- The account of a dispatch: the state in which it began; what the clock showed at the gathering, and the states right before and
-- right after that; the events that it cut, in their order; the round of idles that it took up, which of them began, and the
-- tickets of those that were cancelled from then on; and the state in which it ended.
pub record Account (D I P : Type 0) : Type 0 where
  pub began : View D I P
  pub now : ℕ
  pub before : View D I P
  pub gathered : View D I P
  pub cut : List Pending
  pub round : List (Waiter I)
  pub begun : List (Waiter I)
  pub cancelled : List ℕ
  pub ended : View D I P

abbrev pub first_of : {A : Type 0} → List A → List A
first_of [] = []
first_of (x ∷ xs) = x ∷ []

-- the events that are cut in these changes: at each cut the first one of the batch
abbrev pub events_cut : {D I P : Type 0} → View D I P → List (Change D I P) → List Pending
events_cut v [] = []
events_cut v (Cut slot ∷ cs) = first_of v.poll.batch ++ events_cut (after_change v (Cut slot)) cs
events_cut v (c ∷ cs) = events_cut (after_change v c) cs

-- how often the batch is put together in them
abbrev pub gatherings : {D I P : Type 0} → List (Change D I P) → ℕ
gatherings [] = 0
gatherings (Gathered posted given now ∷ cs) = 1 + gatherings cs
gatherings (c ∷ cs) = gatherings cs

-- that is done once in these changes, before any event is cut: with this moment of the clock, from the one state to the other;
-- and these events are cut after it
abbrev pub Gathers : {D I P : Type 0} → (now : ℕ) → (before behind : View D I P) → List Pending → View D I P
    → List (Change D I P) → Type 0
Gathers now t u es v [] = ⊥
Gathers now t u es v (Gathered posted given moment ∷ cs) =
    (now ≡ moment) × (t ≡ v) × (u ≡ after_change v (Gathered posted given moment)) × (es ≡ events_cut u cs)
    × (gatherings cs ≡ 0)
Gathers now t u es v (Cut slot ∷ cs) = ⊥
Gathers now t u es v (c ∷ cs) = Gathers now t u es (after_change v c) cs

-- the idles that begin in these changes: at each beginning the first one of those that are still to run
abbrev pub idles_begun : {D I P : Type 0} → View D I P → List (Change D I P) → List (Waiter I)
idles_begun v [] = []
idles_begun v (Holds IdleBegun ∷ cs) =
    first_of v.held.asks.running ++ idles_begun (after_change v (Holds IdleBegun)) cs
idles_begun v (c ∷ cs) = idles_begun (after_change v c) cs

-- the tickets of idles that are cancelled in them
abbrev pub idles_cancelled : {D I P : Type 0} → List (Change D I P) → List ℕ
idles_cancelled [] = []
idles_cancelled (Holds (IdleOut ticket) ∷ cs) = ticket ∷ idles_cancelled cs
idles_cancelled (c ∷ cs) = idles_cancelled cs

-- how often a round begins in them
abbrev pub rounds : {D I P : Type 0} → List (Change D I P) → ℕ
rounds [] = 0
rounds (Holds IdlesTaken ∷ cs) = 1 + rounds cs
rounds (c ∷ cs) = rounds cs

-- exactly one round begins: it is of these idles, of which these begin after that; and these tickets are cancelled
abbrev pub RunsRound : {D I P : Type 0} → (round begun : List (Waiter I)) → (cancelled : List ℕ) → View D I P
    → List (Change D I P) → Type 0
RunsRound is js ns v [] = ⊥
RunsRound is js ns v (Holds IdlesTaken ∷ cs) =
    (is ≡ (after_change v (Holds IdlesTaken)).held.asks.running) × (js ≡ idles_begun (after_change v (Holds IdlesTaken)) cs)
    × (ns ≡ idles_cancelled cs) × (rounds cs ≡ 0)
RunsRound is js ns v (c ∷ cs) = RunsRound is js ns (after_change v c) cs

-- the account of a dispatch that began there and made these changes
abbrev pub IsAccountOf : {D I P : Type 0} → Account D I P → View D I P → List (Change D I P) → Type 0
IsAccountOf a v cs =
    (a.began ≡ v) × (a.ended ≡ all_viewed v cs) × Gathers a.now a.before a.gathered a.cut v cs
    × RunsRound a.round a.begun a.cancelled v cs

-- whatever poller, sources, callbacks and idles return: each dispatch that returns `Ok` has an account, and this holds of it
abbrev pub OverEveryDispatch : {D I P X : Type 0} → Meaning D P (Lent X (Asks D I)) → Runs D I X → Outside P
    → (Account D I P → Type 0) → Type 0
OverEveryDispatch {D} {I} {P} {X} M runs O Law =
    (timeout : Option ℕ) (x x' : X) (v : View D I P) (css : List (List (Change D I P)))
    → DispatchedBy M runs O timeout x (Ok tt) x' v css
    → (a : Account D I P) × IsAccountOf a v (flatten css) × Law a

-- no event waits any more
abbrev pub NothingIsLeft : {D I P : Type 0} → Account D I P → Type 0
NothingIsLeft a = a.ended.poll.batch ≡ []

-- the events that were cut are those in the batch right after the gathering, in their order: what was left over by
-- an earlier dispatch, what sources asked for, posted keys, what the poller returned, and timers
abbrev pub AllAreCut : {D I P : Type 0} → Account D I P → Type 0
AllAreCut a = a.cut ≡ a.gathered.poll.batch

-- each of these deadlines is still to come at this moment
abbrev pub AllLater : (now : ℕ) → List Entry → Type 0
AllLater now [] = Unit {0}
AllLater now (e ∷ es) = (now < e.deadline.nanos) × AllLater now es

-- if the deadlines were sorted when it began, as a wheel keeps them: each one that had come at the gathering left them then
abbrev pub NoneIsLate : {D I P : Type 0} → Account D I P → Type 0
NoneIsLate a = IsOrdered a.began.poll.deadlines → AllLater a.now a.gathered.poll.deadlines.entries

-- and each timer whose deadline had come then was cut
abbrev pub DueAreCut : {D I P : Type 0} → Account D I P → Type 0
DueAreCut a =
    IsOrdered a.began.poll.deadlines
    → (e : Entry) → Contains a.before.poll.deadlines.entries e → e.deadline.nanos ≤ a.now → Contains a.cut (timer_event e)

-- the deadlines are sorted whenever a run from the start ends
abbrev pub DeadlinesStaySorted : {D I P X : Type 0} → LoopRun D I P X → Type 0
DeadlinesStaySorted r = IsOrdered r.ended.poll.deadlines

-- each idle of the round that was taken up has begun, or was cancelled
abbrev pub IdlesRan : {D I P : Type 0} → Account D I P → Type 0
IdlesRan {D} {I} {P} a = (i : Waiter I) → Contains a.round i → Contains a.begun i ⊎ Contains a.cancelled i.ticket
