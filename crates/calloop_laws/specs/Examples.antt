-- Small histories and dispatches that the laws rule out, and a possible one of each.
use Rattle.std.specs.Prelude.{true, false, List, [], ◌∷◌, Some, None, Ok}
use Rattle.logbook.specs.Pages.{Book}
use Rattle.calloop_slots.specs.declared.list.Content.TheVariants.{Source, InTurn}
use Rattle.calloop_wake.specs.declared.notes.Note.TheVariants.{Counted, Looked, Unposted, Marked}
use Rattle.calloop_wake.specs.Boards.{fresh_pass}
use Rattle.calloop_wake.specs.Cells.{fresh}
use Rattle.calloop_wake_laws.specs.Kinds.{First, every_kind}
use Rattle.calloop_wake_laws.specs.Lost.{of_pings}
use Rattle.calloop_wake_laws.specs.PingKind.{Ring, EndTurn}
use Rattle.calloop_wake_laws.specs.Wakes.{WakeWorld, At, ClearKey, SetKey, OpenTurn, OpenPlace, Post, Wakeup, with_cell}
use Rattle.calloop_wake.specs.Watches.{with_note}
use Rattle.calloop_sources.specs.declared.sources.source.PostAction.TheVariants.{Continue}
use Rattle.calloop_poll.specs.sys.Polls.{posted_event}
use Rattle.calloop_loop.specs.declared.LoopAnswer.TheVariants.{Dispatched}
use Rattle.calloop_loop.specs.declared.LoopCall.TheVariants.{Dispatch}
use Rattle.calloop_loop.specs.Held.{Pend, AskingIn, Cleared, IdlesTaken}
use Rattle.calloop_loop.specs.Machine.{Put, Polls, Polling, Watching, Counting, Holds, Gathered, Cut, Ended}
use Rattle.calloop_laws.specs.Laws.{moments_of, changes_of}
use Rattle.calloop_loop.specs.Ledgers.{new_ledger}
use Rattle.calloop_loop.specs.Rules.{all_traced}
use Rattle.calloop_laws.specs.Unserved.{SmallView}
use Rattle.calloop_laws.specs.Wrong.{first_registration}
use Rattle.calloop_laws.specs.WrongRuns.{SmallChange, SmallRun, SmallWorld, untouched_poll, untouched_held}
use Rattle.calloop_laws.specs.Histories.{Happening, Unseen, Noted}

abbrev pub SmallHistory : Type 0
SmallHistory = List (Happening every_kind.Own)

-- Impossible histories: from a board at which keys 7 and 9 are posted.

abbrev pub two_posted : WakeWorld every_kind.Cell
two_posted = record of_pings { board = record { key = 7; marked = true } ∷ record { key = 9; marked = true } ∷ [] }

-- a taking leaves 9 out, or takes it first, when there is room for both
abbrev pub leaves_one_out : SmallHistory
leaves_one_out = Noted (Unposted 2 (7 ∷ [])) ∷ []

abbrev pub takes_backwards : SmallHistory
takes_backwards = Noted (Unposted 2 (9 ∷ 7 ∷ [])) ∷ []

-- the second taking leaves out what was posted since the first
abbrev pub leaves_out_later : SmallHistory
leaves_out_later = Noted (Unposted 1 (7 ∷ [])) ∷ Noted (Unposted 1 []) ∷ []

-- one place is counted of two; a look finds nothing
abbrev pub counts_one : SmallHistory
counts_one = Noted (Counted 1) ∷ []

abbrev pub sees_nothing : SmallHistory
sees_nothing = Noted (Looked false) ∷ []

-- A possible history, in which a place is opened between count and taking: so there is no room for key 7, which stays posted. The
-- law has to require that none is opened.

abbrev pub up_to_a_small_taking : SmallHistory
up_to_a_small_taking =
    Unseen (OpenPlace 7)
    ∷ Unseen (SetKey 0 7)
    ∷ Unseen (At 0 (First Ring))
    ∷ Unseen (Post 7)
    ∷ Noted (Counted 1)
    ∷ Noted (Marked [])
    ∷ Unseen (OpenPlace 3)
    ∷ Unseen (SetKey 1 3)
    ∷ Unseen (At 1 (First Ring))
    ∷ Unseen (Post 3)
    ∷ Noted (Looked true)
    ∷ []

abbrev pub small_taking : Happening every_kind.Own
small_taking = Noted (Unposted 1 (3 ∷ []))

-- A possible dispatch, of a loop with one source, and a history of its board: the source's key is 0, and it was rung before the
-- dispatch, which takes the key, and whose turn opens and ends a turn of the cell.

abbrev pub with_a_source : Book → SmallView
with_a_source name =
    record {
      slots = record { version = 0; content = Source tt } ∷ [];
      poll = untouched_poll name;
      held = untouched_held;
      signal = name;
    }

abbrev pub of_a_ring : Book → List (List SmallChange)
of_a_ring name =
    (Counting 1 ∷ Holds Cleared ∷ Watching (with_note (Marked []) (record { name = name; notes = Counted 1 ∷ [] })) ∷ [])
    ∷ []
    ∷ []
    ∷ (Polling tt ∷ Watching (with_note (Looked true) (record { name = name; notes = Counted 1 ∷ Marked [] ∷ [] })) ∷ [])
    ∷ (Gathered (0 ∷ []) [] 5 ∷ [])
    ∷ []
    ∷ (Cut (Some 0) ∷ Put 0 InTurn ∷ Polls [] ∷ Ended ∷ Holds (AskingIn first_registration []) ∷ [])
    ∷ []
    ∷ (Holds (Pend Continue) ∷ [])
    ∷ (Put 0 (Source tt) ∷ [])
    ∷ []
    ∷ (Holds IdlesTaken ∷ [])
    ∷ []
    ∷ []

-- and a run of this dispatch alone
abbrev pub world_with_a_source : Book → SmallWorld
world_with_a_source name =
    record {
      slots = record { reuse = 0; content = Source tt } ∷ [];
      poll = untouched_poll name;
      held = untouched_held;
      handed = [];
      ledger = new_ledger;
      signal = name;
    }

abbrev pub run_of_a_ring : Book → SmallRun
run_of_a_ring name =
    record {
      calls = Dispatch None tt ∷ [];
      answers = Dispatched (Ok tt) tt ∷ [];
      changes = of_a_ring name ∷ [];
      moments = moments_of (world_with_a_source name) (changes_of (of_a_ring name ∷ []));
      began = world_with_a_source name;
      ended = all_traced (world_with_a_source name) (of_a_ring name);
    }

abbrev pub ring_before_it : SmallHistory
ring_before_it = Unseen (OpenPlace 0) ∷ Unseen (SetKey 0 0) ∷ Unseen (At 0 (First Ring)) ∷ Unseen (Post 0) ∷ []

abbrev pub turn_in_it : SmallHistory
turn_in_it = Unseen (OpenTurn 0 0) ∷ Unseen (At 0 (First EndTurn)) ∷ []

abbrev pub history_of_a_ring : SmallHistory
history_of_a_ring =
    Unseen (OpenPlace 0)
    ∷ Unseen (SetKey 0 0)
    ∷ Unseen (At 0 (First Ring))
    ∷ Unseen (Post 0)
    ∷ Noted (Counted 1)
    ∷ Noted (Marked [])
    ∷ Noted (Looked true)
    ∷ Unseen Wakeup
    ∷ Noted (Unposted 1 (0 ∷ []))
    ∷ turn_in_it

-- Dispatches that the law rules out.

-- the source is in the slot that the event's token names, and the event goes to none
abbrev pub with_its_event : Book → SmallView
with_its_event name =
    record {
      slots = record { version = 0; content = Source tt } ∷ [];
      poll = record (untouched_poll name) { batch = posted_event 0 ∷ []; passes = fresh_pass name 0 ∷ [] };
      held = untouched_held;
      signal = name;
    }

abbrev pub cuts_to_none : List (List SmallChange)
cuts_to_none = (Cut None ∷ Ended ∷ []) ∷ []

-- it took keys 0 and 1, and ends after it cut the first alone
abbrev pub ends_with_one_left : List (List SmallChange)
ends_with_one_left = (Gathered (0 ∷ 1 ∷ []) [] 5 ∷ []) ∷ (Cut None ∷ Ended ∷ []) ∷ []

-- its watch notes that it took key 0, which joins no batch
abbrev pub drops_what_it_took : Book → List (List SmallChange)
drops_what_it_took name =
    (Watching (record { name = name; notes = Counted 1 ∷ Marked [] ∷ Looked true ∷ Unposted 1 (0 ∷ []) ∷ [] }) ∷ []) ∷ []

-- nothing is posted, and it takes nothing
abbrev pub history_of_nothing : SmallHistory
history_of_nothing = Noted (Counted 0) ∷ Noted (Marked []) ∷ Noted (Looked false) ∷ Noted (Unposted 0 []) ∷ []

abbrev pub takes_nothing : Book → List (List SmallChange)
takes_nothing name =
    (Watching (record { name = name; notes = Counted 0 ∷ Marked [] ∷ Looked false ∷ Unposted 0 [] ∷ [] }) ∷ []) ∷ []

-- cell 0 is pinged under key 7, which is nowhere; its key is cleared after the taking, so it has none when the dispatch ends
abbrev pub with_a_ring_forgotten : WakeWorld every_kind.Cell
with_a_ring_forgotten =
    record of_pings { cells = with_cell 0 (First (record fresh { rung = true; pinged = true; key = Some 7 })) of_pings.cells }

abbrev pub clearing_behind_it : SmallHistory
clearing_behind_it = Unseen (ClearKey 0 false) ∷ []

abbrev pub history_with_a_clearing : SmallHistory
history_with_a_clearing =
    Noted (Counted 0) ∷ Noted (Marked []) ∷ Noted (Looked false) ∷ Noted (Unposted 0 []) ∷ clearing_behind_it
