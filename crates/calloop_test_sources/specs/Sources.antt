-- What the counting source of the tests means.
use Rattle.std.specs.Prelude.{◌≡◌, ℕ, [], ◌∷◌, Ok}
use Rattle.anyhow.specs.declared.error.Error.{Error as Cause}
use Rattle.calloop_slots.specs.declared.error.Error.{Error}
use Rattle.calloop_slots.specs.declared.error.Error.TheVariants.{OtherError}
use Rattle.calloop_sources.specs.sources.Calls.{IsOfSource}
use Rattle.calloop_sources.specs.sources.Lawful.{other_of_source}
use Rattle.calloop_poll.specs.sys.Polls.{PollView}
use Rattle.calloop_sources.specs.sources.Deeds.{Deed, Registered, Reregistered, Unregistered, Turned, SaysNothing, Slept, Noticed, Heard}
use Rattle.calloop_test_sources.specs.declared.attendant.Attendant.{Attendant}
use Rattle.calloop_test_sources.specs.declared.source.Counter.{Counter}
use Rattle.calloop_test_sources.specs.declared.noting.Noting.{Noting}
use Rattle.calloop_test_sources.specs.declared.source.Broken.{Broken}

abbrev pub IsOther : Error → Type 0
IsOther e = (cause : Cause) × (e ≡ OtherError cause)

-- a turn hands out how many turns there were, and nothing else changes that number
abbrev pub Counts : {P : Type 0} → Counter → PollView P → Deed (Heard ℕ (Unit {0}) (Unit {0}) Broken) → Counter → Type 0
Counts s v (Registered f answer g) t = t.turns ≡ s.turns
Counts s v (Reregistered f answer g) t = t.turns ≡ s.turns
Counts s v (Unregistered answer) t = (answer ≡ Ok tt) × (t.turns ≡ s.turns)
Counts s v (Slept given answer) t = SaysNothing given answer × (t ≡ s)
Counts s v (Noticed events) t = t ≡ s
Counts s v (Turned readiness token turn) t =
    turn.calls ≡ record { event = t.turns; before = tt; after = tt; answer = tt } ∷ []

-- a turn hands out how many waits there were, and waits alone change that number
abbrev pub Attends : {P : Type 0} → Attendant → PollView P → Deed (Heard ℕ (Unit {0}) (Unit {0}) Broken) → Attendant
    → Type 0
Attends s v (Registered f answer g) t = t.waits ≡ s.waits
Attends s v (Reregistered f answer g) t = t.waits ≡ s.waits
Attends s v (Unregistered answer) t = (answer ≡ Ok tt) × (t.waits ≡ s.waits)
Attends s v (Slept given answer) t = Unit {0}
Attends s v (Noticed events) t = t.waits ≡ s.waits
Attends s v (Turned readiness token turn) t =
    (turn.calls ≡ record { event = s.waits; before = tt; after = tt; answer = tt } ∷ []) × (t.waits ≡ s.waits)

-- a turn hands out the source's number
abbrev pub HandsOut : {P : Type 0} → Noting → PollView P → Deed (Heard ℕ (Unit {0}) (Unit {0}) Broken) → Noting → Type 0
HandsOut s v (Registered f answer g) t = Unit {0}
HandsOut s v (Reregistered f answer g) t = Unit {0}
HandsOut s v (Unregistered answer) t = Unit {0}
HandsOut s v (Slept given answer) t = Unit {0}
HandsOut s v (Noticed events) t = Unit {0}
HandsOut s v (Turned readiness token turn) t =
    turn.calls ≡ record { event = s.number; before = tt; after = tt; answer = tt } ∷ []

-- the source may do anything
abbrev pub Anything : {D P T : Type 0} → D → PollView P → Deed T → D → Type 0
Anything s v deed t = Unit {0}

-- A proof, which the impl cites.
pub other_is_of_source : (e : Error) → IsOther e → IsOfSource e
other_is_of_source e is = other_of_source is.0 e is.1
