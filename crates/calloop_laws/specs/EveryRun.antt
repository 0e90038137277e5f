-- What is said of every run of the loop's machine. calloop says none of it.
use Rattle.std.specs.Prelude.{◌≡◌, List}
use Rattle.calloop_sources.specs.sources.Deeds.{Lent}
use Rattle.calloop_sources.specs.sources.Meanings.{Meaning}
use Rattle.calloop_poll.specs.sys.Pollers.{Outside}
use Rattle.calloop_loop.specs.declared.LoopCall.{LoopCall}
use Rattle.calloop_loop.specs.declared.LoopAnswer.{LoopAnswer}
use Rattle.calloop_loop.specs.Askings.{Asks, Runs}
use Rattle.calloop_loop.specs.Machine.{World, Change, IsNew}
use Rattle.calloop_loop.specs.Rules.{Run}
use Rattle.calloop_laws.specs.Laws.{IsSound, IsLedgerOf, IsTold, IsTicketed, AllFresh, changes_of, moments_of}
use Rattle.calloop_laws.specs.Homes.{AllAtHome}
use Rattle.calloop_laws.specs.Freshness.{AllFreshCalls, AllKeepKeys}

-- calls with their results, what each changed, the states before and after each change, and those in which they began and ended
pub record LoopRun (D I P X : Type 0) : Type 0 where
  pub calls : List (LoopCall D P X I)
  pub answers : List (LoopAnswer D P X I)
  pub changes : List (List (List (Change D I P)))
  pub moments : List (World D I P)
  pub began : World D I P
  pub ended : World D I P

-- whatever poller, sources, callbacks and idles return, this holds of every run
abbrev pub OverEveryRun : {D I P X : Type 0} → Meaning D P (Lent X (Asks D I)) → Runs D I X → Outside P
    → (LoopRun D I P X → Type 0) → Type 0
OverEveryRun {D} {I} {P} {X} M runs O Holds =
    (r : LoopRun D I P X) → Run M runs O r.calls r.answers r.changes r.began r.ended
    → r.moments ≡ moments_of r.began (changes_of r.changes) → Holds r

-- this holds of a run that begins in a state in which nothing has happened
abbrev pub FromTheStart : {D I P X : Type 0} → (LoopRun D I P X → Type 0) → LoopRun D I P X → Type 0
FromTheStart Holds r = IsNew r.began → Holds r

-- each event goes to the source that its token names in its turn, or to none; a token keeps naming its registration, or names a
-- later one only after a multiple of as many uses as there are versions; and what was given up stays given up
abbrev pub EventsReachTheirSource : {D I P X : Type 0} → LoopRun D I P X → Type 0
EventsReachTheirSource r = IsSound r.began (changes_of r.changes) r.moments

-- if each source that came in during the run, by a call or by a callback's request, held no counter of this loop's timers then,
-- and each that took another's place held no further ones than that one: each arming is in one place, and each call of a timer
-- belongs to an arming of its own that was gathered in time, and hands out its deadline
abbrev pub ArmingsAreKeptOfFresh : {D I P X : Type 0} → Meaning D P (Lent X (Asks D I)) → LoopRun D I P X → Type 0
ArmingsAreKeptOfFresh M r = AllFresh M (changes_of r.changes) → IsLedgerOf r.ended.ledger r.ended.poll

-- the same, if no source that comes in by a call holds a counter: this one speaks of calls and results alone
abbrev pub ArmingsAreKept : {D I P X : Type 0} → Meaning D P (Lent X (Asks D I)) → LoopRun D I P X → Type 0
ArmingsAreKept M r = AllFreshCalls M r.calls r.answers → IsLedgerOf r.ended.ledger r.ended.poll

-- if no source that a call puts in another's place brings a key, each source is registered under keys of its own slot
abbrev pub SourcesKeepToTheirSlots : {D I P X : Type 0} → Meaning D P (Lent X (Asks D I)) → LoopRun D I P X → Type 0
SourcesKeepToTheirSlots M r = AllKeepKeys M r.calls r.answers → AllAtHome M r.ended

-- each registration that is told of waits is in their list once, and its slot isn't vacant
abbrev pub WhoIsToldStandsOnce : {D I P X : Type 0} → LoopRun D I P X → Type 0
WhoIsToldStandsOnce r = IsTold r.ended

-- each ticket is of one request or one answer, and its answer is handed out once
abbrev pub TicketsAreOfOneAnswer : {D I P X : Type 0} → LoopRun D I P X → Type 0
TicketsAreOfOneAnswer r = IsTicketed r.ended
