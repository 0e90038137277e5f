-- A possible dispatch of a loop of pings that calls a rung ping's callback; and that it isn't called, which the law rules out.
use Rattle.std.specs.Prelude.{◌≡◌, true, false, List, [], ◌∷◌, ◌++◌, Some}
use Rattle.logbook.specs.Pages.{Book}
use Rattle.calloop_slots.specs.declared.error.Error.{Error}
use Rattle.calloop_slots.specs.declared.list.Content.TheVariants.{Source, InTurn}
use Rattle.calloop_wake.specs.declared.Tally.{Tally}
use Rattle.calloop_wake.specs.declared.notes.Note.TheVariants.{Counted, Looked, Marked}
use Rattle.calloop_wake.specs.Cells.{fresh_tally}
use Rattle.calloop_wake.specs.Watches.{with_note}
use Rattle.calloop_sources.specs.declared.sources.dispatch.Dispatcher.{Dispatcher}
use Rattle.calloop_sources.specs.declared.sources.source.PostAction.TheVariants.{Continue}
use Rattle.calloop_sources.specs.sources.Deeds.{Lent}
use Rattle.calloop_sources.specs.sources.Meanings.{Meaning, still, with_callback}
use Rattle.calloop_poll.specs.sys.Polls.{TakePass}
use Rattle.calloop_ends.specs.cell.CellSources.{OpenTurns}
use Rattle.calloop_ends.specs.declared.ping.source.PingError.{PingError}
use Rattle.calloop_ends.specs.ping.Pings.{ping_meaning, tally_opened}
use Rattle.calloop_loop.specs.Askings.{Asks, Runs}
use Rattle.calloop_loop.specs.Held.{Pend, AskingIn, Cleared, IdlesTaken}
use Rattle.calloop_loop.specs.Machine.{View, Change, Put, Polls, Polling, Watching, Counting, Holds, Gathered, Cut, Ended}
use Rattle.calloop_laws.specs.Wrong.{first_registration}
use Rattle.calloop_laws.specs.WrongRuns.{untouched_poll, untouched_held}
use Rattle.calloop_laws.specs.Called.{PingCalling}

-- a ping's source with a callback that has no state
abbrev pub Rings : Type 0
Rings = Dispatcher Tally (Unit {0})

abbrev pub RingAsks : Type 0
RingAsks = Asks Rings (Unit {0})

abbrev pub RingChange : Type 0
RingChange = Change Rings (Unit {0}) (Unit {0})

-- a call of the callback may do anything; there is none that it may do
abbrev pub calls_anything : PingCalling (Unit {0}) (Unit {0}) RingAsks
calls_anything f event before x q answer g after y r = Unit {0}

abbrev pub is_never_called : PingCalling (Unit {0}) (Unit {0}) RingAsks
is_never_called f event before x q answer g after y r = ⊥

-- the cell opens no turn
abbrev pub opens_none : OpenTurns Tally (Unit {0}) (Unit {0}) (Unit {0})
opens_none s calls action t = ⊥

abbrev pub asks_anything : RingAsks → RingAsks → Type 0
asks_anything q r = Unit {0}

abbrev pub fails_never : PingError → Error → Type 0
fails_never cause e = ⊥

abbrev pub itself : Rings → Rings
itself d = d

abbrev pub no_idles : Runs Rings (Unit {0}) (Unit {0})
no_idles idle x q y r = r ≡ q

-- pings with this callback; sources of which nothing is known
abbrev pub ringing : Meaning Rings (Unit {0}) (Lent (Unit {0}) RingAsks)
ringing = with_callback ping_meaning calls_anything asks_anything fails_never

abbrev pub unknown : Meaning Rings (Unit {0}) (Lent (Unit {0}) RingAsks)
unknown = record (still (λ s v deed t. Unit {0})) { does = λ s v deed steps t. Unit {0} }

-- the source has key 0; and as it is after a turn that took a ring
abbrev pub tally_before : Book → Tally
tally_before name = record (fresh_tally name) { key = Some 0 }

abbrev pub ping_before : Book → Rings
ping_before name = record { source = tally_before name; callback = tt }

abbrev pub ping_after : Book → Rings
ping_after name = record { source = tally_opened true false (tally_before name); callback = tt }

abbrev pub with_a_ping : Book → View Rings (Unit {0}) (Unit {0})
with_a_ping name =
    record {
      slots = record { version = 0; content = Source (ping_before name) } ∷ [];
      poll = untouched_poll name;
      held = untouched_held;
      signal = name;
    }

-- the changes up to the cut of the event of key 0, the cut, and the rest
abbrev pub up_to_its_turn : Book → List (List RingChange)
up_to_its_turn name =
    (Counting 1 ∷ Holds Cleared ∷ Watching (with_note (Marked []) (record { name = name; notes = Counted 1 ∷ [] })) ∷ [])
    ∷ []
    ∷ []
    ∷ (Polling tt ∷ Watching (with_note (Looked true) (record { name = name; notes = Counted 1 ∷ Marked [] ∷ [] })) ∷ [])
    ∷ (Gathered (0 ∷ []) [] 5 ∷ [])
    ∷ []
    ∷ []

abbrev pub its_turn : List RingChange
its_turn = Cut (Some 0) ∷ Put 0 InTurn ∷ Polls (TakePass ∷ []) ∷ Ended ∷ Holds (AskingIn first_registration []) ∷ []

abbrev pub behind_its_turn : Book → List (List RingChange)
behind_its_turn name =
    []
    ∷ (Holds (Pend Continue) ∷ [])
    ∷ (Put 0 (Source (ping_after name)) ∷ [])
    ∷ []
    ∷ (Holds IdlesTaken ∷ [])
    ∷ []
    ∷ []

abbrev pub of_a_call : Book → List (List RingChange)
of_a_call name = up_to_its_turn name ++ its_turn ∷ behind_its_turn name
