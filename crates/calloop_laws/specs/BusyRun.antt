-- A run of a socket whose first turn fails: a source enters a socket when it is inserted. A dispatch gathers two events of it;
-- its turn for the first requests its own registration anew, which is carried out, and fails, so that the second event is left
-- over. The next dispatch cuts that first, without a wait.
use Rattle.std.specs.Prelude.{◌≡◌, ℕ, false, true, List, [], ◌∷◌, Some, None, Ok, Err}
use Rattle.logbook.specs.Pages.{Book}
use Rattle.calloop_slots.specs.declared.error.Error.TheVariants.{OutOfMemory}
use Rattle.calloop_slots.specs.declared.list.Content.TheVariants.{Source, InTurn}
use Rattle.calloop_wake.specs.declared.notes.Note.TheVariants.{Counted, Looked, Marked}
use Rattle.calloop_slots.specs.Tokens.{key_of}
use Rattle.calloop_wake.specs.Watches.{with_note}
use Rattle.calloop_sources.specs.declared.sources.source.PostAction.TheVariants.{Continue, Reregister}
use Rattle.calloop_poll.specs.declared.sys.Mode.TheVariants.{Level}
use Rattle.calloop_poll.specs.declared.sys.Readiness.{Readiness}
use Rattle.calloop_poll.specs.declared.sys.Watched.{Watched}
use Rattle.calloop_sources.specs.sources.Deeds.{Lent}
use Rattle.calloop_sources.specs.sources.Meanings.{Meaning, still}
use Rattle.calloop_poll.specs.sys.Pollers.{Outside}
use Rattle.calloop_poll.specs.sys.Polls.{Socket, after_count, marks_taken, ready_to_read}
use Rattle.calloop_poll.specs.sys.Tables.{Enter}
use Rattle.calloop_loop.specs.declared.LoopCall.{LoopCall}
use Rattle.calloop_loop.specs.declared.LoopCall.TheVariants.{Insert, Dispatch}
use Rattle.calloop_loop.specs.declared.LoopAnswer.{LoopAnswer}
use Rattle.calloop_loop.specs.declared.LoopAnswer.TheVariants.{Inserted, Dispatched}
use Rattle.calloop_loop.specs.declared.asks.Answer.TheVariants.{Done}
use Rattle.calloop_loop.specs.declared.asks.Request.TheVariants.{Update}
use Rattle.calloop_loop.specs.Askings.{Asks, Write}
use Rattle.calloop_loop.specs.Held.{Listed, Pend, AskingIn, Begun, Told, Cleared, IdlesTaken}
use Rattle.calloop_loop.specs.Machine.{Claim, Put, Polls, Polling, Watching, Counting, Holds, Gathered, Cut, Ended}
use Rattle.calloop_loop.specs.Rules.{all_traced}
use Rattle.calloop_laws.specs.Wrong.{first_token, first_registration}
use Rattle.calloop_laws.specs.WrongRuns.{SmallWorld, SmallChange, idle_world}

-- sources that may do anything
abbrev pub anything : Meaning (Unit {0}) (Unit {0}) (Lent (Unit {0}) (Asks (Unit {0}) (Unit {0})))
anything = record (still (λ s v deed t. Unit {0})) { does = λ s v deed steps t. Unit {0} }

-- a poller that may return any events, and never fails, and a clock that may show any moment
abbrev pub giving_poller : Outside (Unit {0})
giving_poller =
    record {
      reads = λ p now q. Unit {0};
      waits = λ p asked answer given q. answer ≡ Ok tt;
      calls = λ p call answer q. answer ≡ Ok tt;
      faults = λ p. 0;
    }

abbrev pub for_reading : Watched
for_reading = record { interest = record { readable = true; writable = false }; mode = Level }

abbrev pub busy_calls : List (LoopCall (Unit {0}) (Unit {0}) (Unit {0}) (Unit {0}))
busy_calls = Insert tt ∷ Dispatch None tt ∷ Dispatch None tt ∷ []

abbrev pub busy_answers : List (LoopAnswer (Unit {0}) (Unit {0}) (Unit {0}) (Unit {0}))
busy_answers = Inserted (Ok first_registration) ∷ Dispatched (Err OutOfMemory) tt ∷ Dispatched (Ok tt) tt ∷ []

abbrev pub busy_insertion : List (List SmallChange)
busy_insertion =
    (Claim tt
    ∷ Polls (Socket (Enter first_token for_reading) tt ∷ [])
    ∷ Holds (Listed false first_registration)
    ∷ Put 0 (Source tt)
    ∷ [])
    ∷ []

-- two events of the socket
abbrev pub two_found : List (ℕ × Readiness)
two_found = (key_of first_token, ready_to_read) ∷ (key_of first_token, ready_to_read) ∷ []

abbrev pub two_found_but_one : List (ℕ × Readiness)
two_found_but_one = (key_of first_token, ready_to_read) ∷ []

-- the steps of the dispatch, a list for each
abbrev pub failing_dispatch : Book → List (List SmallChange)
failing_dispatch name =
    (Counting 0 ∷ Holds Cleared ∷ Watching (with_note (Marked []) (record { name = name; notes = Counted 0 ∷ [] })) ∷ [])
    ∷ []
    ∷ []
    ∷ (Polling tt ∷ Watching (with_note (Looked false) (record { name = name; notes = Counted 0 ∷ Marked [] ∷ [] })) ∷ [])
    ∷ (Gathered [] two_found 5 ∷ [])
    ∷ []
    ∷ (Cut (Some 0)
    ∷ Put 0 InTurn
    ∷ Polls []
    ∷ Ended
    ∷ Holds (AskingIn first_registration (Write (Update first_registration) ∷ []))
    ∷ [])
    ∷ (Holds Begun ∷ Holds (Pend Reregister) ∷ Holds (Told Done) ∷ [])
    ∷ []
    ∷ (Holds (Pend Continue) ∷ [])
    ∷ (Put 0 (Source tt) ∷ [])
    ∷ []

abbrev pub behind_the_failure : Book → SmallWorld
behind_the_failure name = all_traced (all_traced (idle_world name) busy_insertion) (failing_dispatch name)

abbrev pub dispatch_of_the_rest : Book → List (List SmallChange)
dispatch_of_the_rest name =
    (Counting 0 ∷ Holds Cleared ∷ Watching (with_note (Marked []) (after_count 0 (behind_the_failure name).poll).watch) ∷ [])
    ∷ []
    ∷ []
    ∷ (Polling tt ∷ Watching (with_note (Looked false) (marks_taken [] (after_count 0 (behind_the_failure name).poll)).watch) ∷ [])
    ∷ (Gathered [] [] 6 ∷ [])
    ∷ []
    ∷ (Cut (Some 0) ∷ Put 0 InTurn ∷ Polls [] ∷ Ended ∷ Holds (AskingIn first_registration []) ∷ [])
    ∷ []
    ∷ (Holds (Pend Continue) ∷ [])
    ∷ (Put 0 (Source tt) ∷ [])
    ∷ []
    ∷ (Holds IdlesTaken ∷ [])
    ∷ []
    ∷ []

abbrev pub busy_changes : Book → List (List (List SmallChange))
busy_changes name = busy_insertion ∷ failing_dispatch name ∷ dispatch_of_the_rest name ∷ []

abbrev pub busy_end : Book → SmallWorld
busy_end name = all_traced (behind_the_failure name) (dispatch_of_the_rest name)
