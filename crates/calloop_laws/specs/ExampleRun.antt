-- A possible run: a timer for moment 5 is inserted into a new loop, is set to moment 6 instead in its slot, and a dispatch
-- whose wait ends at 5 calls it once, with the deadline that it was armed for.
use Rattle.std.specs.Prelude.{◌≡◌, false, true, List, [], ◌∷◌, Some, None, Ok}
use Rattle.logbook.specs.Pages.{Book}
use Rattle.calloop_slots.specs.declared.error.Error.TheVariants.{OutOfMemory}
use Rattle.calloop_slots.specs.declared.wheel.Instant.{Instant}
use Rattle.calloop_wake.specs.declared.notes.Note.TheVariants.{Counted, Looked, Marked}
use Rattle.calloop_slots.specs.declared.list.Content.TheVariants.{Vacant, Source, InTurn}
use Rattle.calloop_wake.specs.Watches.{with_note}
use Rattle.calloop_sources.specs.declared.sources.dispatch.Dispatcher.{Dispatcher}
use Rattle.calloop_sources.specs.declared.sources.source.PostAction.TheVariants.{Continue}
use Rattle.calloop_sources.specs.declared.timer.Timer.{Timer}
use Rattle.calloop_sources.specs.declared.timer.Registration.{Registration}
use Rattle.calloop_sources.specs.declared.timer.TimeoutAction.{TimeoutAction}
use Rattle.calloop_sources.specs.declared.timer.TimeoutAction.TheVariants.{Drop}
use Rattle.calloop_poll.specs.sys.Pollers.{Outside}
use Rattle.calloop_poll.specs.sys.Polls.{Arm, Cancel, Call}
use Rattle.calloop_sources.specs.sources.Deeds.{Lent}
use Rattle.calloop_sources.specs.sources.Meanings.{Meaning, with_callback}
use Rattle.calloop_sources.specs.Timers.{timer_meaning, fresh_timer, registered_as, with_call}
use Rattle.calloop_loop.specs.declared.LoopCall.{LoopCall}
use Rattle.calloop_loop.specs.declared.LoopCall.TheVariants.{Insert, Exchange, Dispatch}
use Rattle.calloop_loop.specs.declared.LoopAnswer.{LoopAnswer}
use Rattle.calloop_loop.specs.declared.LoopAnswer.TheVariants.{Inserted, Exchanged, Dispatched}
use Rattle.calloop_loop.specs.declared.asks.Answer.TheVariants.{Removed}
use Rattle.calloop_loop.specs.Askings.{Asks, Reaches, Runs, no_asks}
use Rattle.calloop_laws.specs.EveryRun.{LoopRun}
use Rattle.calloop_laws.specs.Laws.{moments_of, changes_of}
use Rattle.calloop_loop.specs.Held.{Listed, Unlisted, Pend, AskingIn, Cleared, Warned, Paid, IdlesTaken}
use Rattle.calloop_loop.specs.Ledgers.{new_ledger}
use Rattle.calloop_loop.specs.Machine.{World, Change, Claim, Put, Swapped, Polls, Polling, Watching, Counting, Holds, Gathered, Cut, Ended}
use Rattle.calloop_loop.specs.Rules.{all_traced}
use Rattle.calloop_laws.specs.Wrong.{first_token, first_registration}

-- a loop over timers whose callback has them leave, and asks for nothing
abbrev pub Only : Type 0
Only = Dispatcher Timer (Unit {0})

abbrev pub leaves : Unit {0} → Instant → Unit {0} → Unit {0} → Asks Only (Unit {0}) → TimeoutAction
    → Unit {0} → Unit {0} → Unit {0} → Asks Only (Unit {0}) → Type 0
leaves f deadline m x q answer g n y r = (answer ≡ Drop) × (r ≡ q)

abbrev pub only : Meaning Only (Unit {0}) (Lent (Unit {0}) (Asks Only (Unit {0})))
only = with_callback timer_meaning leaves Reaches (λ cause e. e ≡ OutOfMemory)

abbrev pub no_idle : Runs Only (Unit {0}) (Unit {0})
no_idle idle x q y r = r ≡ q

-- a poller that returns no event, and a clock that may show any moment
abbrev pub quiet_poller : Outside (Unit {0})
quiet_poller =
    record {
      reads = λ p now q. Unit {0};
      waits = λ p asked answer given q. (answer ≡ Ok tt) × (given ≡ []);
      calls = λ p call answer q. Unit {0};
      faults = λ p. 0;
    }

abbrev pub five : Instant
five = record { nanos = 5 }

abbrev pub six : Instant
six = record { nanos = 6 }

-- the timer before it is registered, armed, with another deadline to come, and after its call
abbrev pub as_made : Only
as_made = record { source = fresh_timer (Some five); callback = tt }

abbrev pub first_arm : Registration
first_arm = record { token = first_token; counter = 0; armed = five; spent = false }

abbrev pub as_armed : Only
as_armed = record { source = registered_as first_arm (Some five); callback = tt }

abbrev pub as_changed : Only
as_changed = record { source = registered_as first_arm (Some six); callback = tt }

abbrev pub as_called : Only
as_called = record { source = registered_as (with_call first_arm) (Some six); callback = tt }

abbrev pub as_removed : Only
as_removed = record { source = fresh_timer (Some six); callback = tt }

-- nothing has happened to a loop over a board of this name
abbrev pub new_world : Book → World Only (Unit {0}) (Unit {0})
new_world name =
    record {
      slots = [];
      poll =
          record {
            poller = tt;
            table = [];
            deadlines = record { entries = []; next = 0 };
            batch = [];
            passes = [];
            pass = None;
            places = 0;
            watch = record { name = name; notes = [] };
          };
      held = record { lifecycle = []; pending = Continue; asks = no_asks; warnings = []; stops = [] };
      handed = [];
      ledger = new_ledger;
      signal = name;
    }

abbrev pub its_calls : List (LoopCall Only (Unit {0}) (Unit {0}) (Unit {0}))
its_calls = Insert as_made ∷ Exchange first_registration as_changed ∷ Dispatch None tt ∷ []

abbrev pub its_answers : List (LoopAnswer Only (Unit {0}) (Unit {0}) (Unit {0}))
its_answers = Inserted (Ok first_registration) ∷ Exchanged (Ok as_armed) ∷ Dispatched (Ok tt) tt ∷ []

abbrev pub Its : Type 0
Its = Change Only (Unit {0}) (Unit {0})

abbrev pub of_the_insertion : List (List Its)
of_the_insertion =
    (Claim as_made ∷ Polls (Arm five first_token ∷ []) ∷ Holds (Listed false first_registration) ∷ Put 0 (Source as_armed) ∷ [])
    ∷ []

abbrev pub of_the_exchange : List (List Its)
of_the_exchange = (Swapped 0 as_armed as_changed ∷ []) ∷ []

-- the steps of the dispatch, a list for each
abbrev pub of_the_dispatch : Book → List (List Its)
of_the_dispatch name =
    (Counting 0 ∷ Holds Cleared ∷ Watching (with_note (Marked []) (record { name = name; notes = Counted 0 ∷ [] })) ∷ [])
    ∷ []
    ∷ []
    ∷ (Polling tt ∷ Watching (with_note (Looked false) (record { name = name; notes = Counted 0 ∷ Marked [] ∷ [] })) ∷ [])
    ∷ (Gathered [] [] 5 ∷ [])
    ∷ []
    ∷ (Cut (Some 0) ∷ Put 0 InTurn ∷ Polls (Call 0 five ∷ []) ∷ Ended ∷ Holds (AskingIn first_registration []) ∷ [])
    ∷ []
    ∷ (Holds (Pend Continue) ∷ Put 0 Vacant ∷ [])
    ∷ (Polls (Cancel 0 ∷ [])
    ∷ Holds (Unlisted first_registration)
    ∷ Holds (Warned true (Ok tt))
    ∷ Holds (Paid (Removed (Some as_removed)))
    ∷ [])
    ∷ []
    ∷ (Holds IdlesTaken ∷ [])
    ∷ []
    ∷ []

abbrev pub its_changes : Book → List (List (List Its))
its_changes name = of_the_insertion ∷ of_the_exchange ∷ of_the_dispatch name ∷ []

abbrev pub end_of_it : Book → World Only (Unit {0}) (Unit {0})
end_of_it name =
    all_traced (all_traced (all_traced (new_world name) of_the_insertion) of_the_exchange) (of_the_dispatch name)

abbrev pub its_run : Book → LoopRun Only (Unit {0}) (Unit {0}) (Unit {0})
its_run name =
    record {
      calls = its_calls;
      answers = its_answers;
      changes = its_changes name;
      moments = moments_of (new_world name) (changes_of (its_changes name));
      began = new_world name;
      ended = end_of_it name;
    }
