-- A run of a timer that is armed again: it is inserted for moment 5, its callback then returns moment 10, and a second dispatch,
-- whose wait ends at 10, calls it again, with that.
use Rattle.std.specs.Prelude.{◌≡◌, nat_eq, false, true, List, [], ◌∷◌, Some, None, Ok, if◌then◌else◌}
use Rattle.logbook.specs.Pages.{Book}
use Rattle.calloop_slots.specs.declared.error.Error.TheVariants.{OutOfMemory}
use Rattle.calloop_slots.specs.declared.list.Content.TheVariants.{Vacant, Source, InTurn}
use Rattle.calloop_wake.specs.declared.notes.Note.TheVariants.{Counted, Looked, Marked}
use Rattle.calloop_slots.specs.declared.wheel.Instant.{Instant}
use Rattle.calloop_wake.specs.Watches.{with_note}
use Rattle.calloop_sources.specs.declared.sources.source.PostAction.TheVariants.{Continue}
use Rattle.calloop_sources.specs.declared.timer.TimeoutAction.{TimeoutAction}
use Rattle.calloop_sources.specs.declared.timer.TimeoutAction.TheVariants.{Drop, ToInstant}
use Rattle.calloop_sources.specs.sources.Deeds.{Lent}
use Rattle.calloop_sources.specs.sources.Meanings.{Meaning, with_callback}
use Rattle.calloop_poll.specs.sys.Polls.{ArmAgain, Cancel, Call, after_count, marks_taken}
use Rattle.calloop_sources.specs.Timers.{timer_meaning, fresh_timer, registered_as, with_call, armed_for}
use Rattle.calloop_loop.specs.declared.LoopCall.{LoopCall}
use Rattle.calloop_loop.specs.declared.LoopCall.TheVariants.{Insert, Dispatch}
use Rattle.calloop_loop.specs.declared.LoopAnswer.{LoopAnswer}
use Rattle.calloop_loop.specs.declared.LoopAnswer.TheVariants.{Inserted, Dispatched}
use Rattle.calloop_loop.specs.declared.asks.Answer.TheVariants.{Removed}
use Rattle.calloop_loop.specs.Askings.{Asks, Reaches}
use Rattle.calloop_laws.specs.EveryRun.{LoopRun}
use Rattle.calloop_loop.specs.Held.{Unlisted, Pend, AskingIn, Cleared, Warned, Paid, IdlesTaken}
use Rattle.calloop_laws.specs.Laws.{moments_of, changes_of}
use Rattle.calloop_loop.specs.Ledgers.{TimerCall}
use Rattle.calloop_loop.specs.Machine.{World, Put, Polls, Polling, Watching, Counting, Holds, Gathered, Cut, Ended}
use Rattle.calloop_loop.specs.Rules.{all_traced}
use Rattle.calloop_laws.specs.Wrong.{first_token, first_registration}
use Rattle.calloop_laws.specs.ExampleRun.{Only, Its, as_made, first_arm, five, new_world, of_the_insertion}

abbrev pub ten : Instant
ten = record { nanos = 10 }

-- a callback that returns moment 10 at moment 5, has its timer leave at any other, and asks for nothing
abbrev pub arms_again : Unit {0} → Instant → Unit {0} → Unit {0} → Asks Only (Unit {0}) → TimeoutAction
    → Unit {0} → Unit {0} → Unit {0} → Asks Only (Unit {0}) → Type 0
arms_again f deadline m x q answer g n y r =
    (answer ≡ (if nat_eq deadline.nanos 5 then ToInstant ten else Drop)) × (r ≡ q)

abbrev pub again : Meaning Only (Unit {0}) (Lent (Unit {0}) (Asks Only (Unit {0})))
again = with_callback timer_meaning arms_again Reaches (λ cause e. e ≡ OutOfMemory)

abbrev pub as_rearmed : Only
as_rearmed = record { source = registered_as (armed_for ten first_arm) (Some ten); callback = tt }

abbrev pub as_called_again : Only
as_called_again = record { source = registered_as (with_call (armed_for ten first_arm)) (Some ten); callback = tt }

abbrev pub as_gone : Only
as_gone = record { source = fresh_timer (Some ten); callback = tt }

abbrev pub rearmed_calls : List (LoopCall Only (Unit {0}) (Unit {0}) (Unit {0}))
rearmed_calls = Insert as_made ∷ Dispatch None tt ∷ Dispatch None tt ∷ []

abbrev pub rearmed_answers : List (LoopAnswer Only (Unit {0}) (Unit {0}) (Unit {0}))
rearmed_answers = Inserted (Ok first_registration) ∷ Dispatched (Ok tt) tt ∷ Dispatched (Ok tt) tt ∷ []

abbrev pub of_the_first_call : Book → List (List Its)
of_the_first_call name =
    (Counting 0 ∷ Holds Cleared ∷ Watching (with_note (Marked []) (record { name = name; notes = Counted 0 ∷ [] })) ∷ [])
    ∷ []
    ∷ []
    ∷ (Polling tt ∷ Watching (with_note (Looked false) (record { name = name; notes = Counted 0 ∷ Marked [] ∷ [] })) ∷ [])
    ∷ (Gathered [] [] 5 ∷ [])
    ∷ []
    ∷ (Cut (Some 0)
    ∷ Put 0 InTurn
    ∷ Polls (Call 0 five ∷ ArmAgain 0 ten first_token ∷ [])
    ∷ Ended
    ∷ Holds (AskingIn first_registration [])
    ∷ [])
    ∷ []
    ∷ (Holds (Pend Continue) ∷ [])
    ∷ (Put 0 (Source as_rearmed) ∷ [])
    ∷ []
    ∷ (Holds IdlesTaken ∷ [])
    ∷ []
    ∷ []

abbrev pub behind_the_first_call : Book → World Only (Unit {0}) (Unit {0})
behind_the_first_call name = all_traced (all_traced (new_world name) of_the_insertion) (of_the_first_call name)

abbrev pub of_the_second_call : Book → List (List Its)
of_the_second_call name =
    (Counting 0 ∷ Holds Cleared ∷ Watching (with_note (Marked []) (after_count 0 (behind_the_first_call name).poll).watch) ∷ [])
    ∷ []
    ∷ []
    ∷ (Polling tt ∷ Watching (with_note (Looked false) (marks_taken [] (after_count 0 (behind_the_first_call name).poll)).watch) ∷ [])
    ∷ (Gathered [] [] 10 ∷ [])
    ∷ []
    ∷ (Cut (Some 0) ∷ Put 0 InTurn ∷ Polls (Call 0 ten ∷ []) ∷ Ended ∷ Holds (AskingIn first_registration []) ∷ [])
    ∷ []
    ∷ (Holds (Pend Continue) ∷ Put 0 Vacant ∷ [])
    ∷ (Polls (Cancel 0 ∷ [])
    ∷ Holds (Unlisted first_registration)
    ∷ Holds (Warned true (Ok tt))
    ∷ Holds (Paid (Removed (Some as_gone)))
    ∷ [])
    ∷ []
    ∷ (Holds IdlesTaken ∷ [])
    ∷ []
    ∷ []

abbrev pub rearmed_changes : Book → List (List (List Its))
rearmed_changes name = of_the_insertion ∷ of_the_first_call name ∷ of_the_second_call name ∷ []

abbrev pub rearmed_end : Book → World Only (Unit {0}) (Unit {0})
rearmed_end name = all_traced (behind_the_first_call name) (of_the_second_call name)

abbrev pub rearmed_run : Book → LoopRun Only (Unit {0}) (Unit {0}) (Unit {0})
rearmed_run name =
    record {
      calls = rearmed_calls;
      answers = rearmed_answers;
      changes = rearmed_changes name;
      moments = moments_of (new_world name) (changes_of (rearmed_changes name));
      began = new_world name;
      ended = rearmed_end name;
    }

-- the call for its second arming
abbrev pub call_at_ten : TimerCall
call_at_ten = record { deadline = ten; arming = Some (record { number = 1; counter = 0; deadline = ten }) }
