-- Small dispatches that don't do what the laws over each dispatch say, and the account of a possible one.
use Rattle.std.specs.Prelude.{◌≡◌, ℕ, false, List, [], ◌∷◌, None}
use Rattle.logbook.specs.Pages.{Book}
use Rattle.calloop_slots.specs.declared.wheel.Entry.{Entry}
use Rattle.calloop_wake.specs.declared.notes.Note.TheVariants.{Counted, Looked, Marked}
use Rattle.calloop_wake.specs.Watches.{with_note}
use Rattle.calloop_slots.specs.Deadlines.{entry_of}
use Rattle.calloop_poll.specs.declared.sys.poll.Pending.{Pending}
use Rattle.calloop_poll.specs.sys.Polls.{ready_to_read, timer_event}
use Rattle.calloop_loop.specs.declared.asks.Idling.{Idling as Waiter}
use Rattle.calloop_loop.specs.Askings.{no_asks}
use Rattle.calloop_laws.specs.ExampleRun.{Only, five, new_world, of_the_insertion, of_the_exchange, of_the_dispatch}
use Rattle.calloop_loop.specs.Held.{Cleared, IdlesTaken, IdleBegun}
use Rattle.calloop_laws.specs.Laws.{flatten}
use Rattle.calloop_loop.specs.Machine.{View, Polling, Watching, Counting, Holds, Appended, Gathered, Cut, Ended, visible, after_change, all_viewed}
use Rattle.calloop_loop.specs.Rules.{all_traced}
use Rattle.calloop_laws.specs.Served.{Account}
use Rattle.calloop_laws.specs.Wrong.{first_token}
use Rattle.calloop_laws.specs.WrongRuns.{SmallChange, untouched_poll, untouched_held}

abbrev pub SmallView : Type 0
SmallView = View (Unit {0}) (Unit {0}) (Unit {0})

abbrev pub SmallAccount : Type 0
SmallAccount = Account (Unit {0}) (Unit {0}) (Unit {0})

abbrev pub event_for : (slot : ℕ) → Pending
event_for slot =
    record { readiness = ready_to_read; token = record { slot = slot; version = 0; sub_id = 0 }; posted = false }

-- a loop in which these events wait, these deadlines are armed, and these idles are to run in the next round
abbrev pub that_waits : Book → List Pending → List Entry → List (Waiter (Unit {0})) → SmallView
that_waits name events entries idles =
    record {
      slots = [];
      poll = record (untouched_poll name) { deadlines = record { entries = entries; next = 2 }; batch = events };
      held = record untouched_held { asks = record no_asks { idles = idles } };
      signal = name;
    }

abbrev pub two_events : List Pending
two_events = event_for 0 ∷ event_for 1 ∷ []

abbrev pub two_wait : Book → SmallView
two_wait name = that_waits name two_events [] []

-- Changes of dispatches that have no account.

-- of two events that wait it cuts the first alone, or both
abbrev pub cuts_one : List SmallChange
cuts_one = Gathered [] [] 5 ∷ Cut None ∷ Ended ∷ Holds IdlesTaken ∷ []

abbrev pub cuts_two : List SmallChange
cuts_two = Gathered [] [] 5 ∷ Cut None ∷ Ended ∷ Cut None ∷ Ended ∷ Holds IdlesTaken ∷ []

-- it cuts both, and another that joined them after the gathering
abbrev pub cuts_three : List SmallChange
cuts_three = Gathered [] [] 5 ∷ Appended (event_for 2) ∷ Cut None ∷ Cut None ∷ Cut None ∷ Ended ∷ Holds IdlesTaken ∷ []

-- it cuts one before it gathers; it doesn't gather; it gathers twice
abbrev pub cuts_before : List SmallChange
cuts_before = Cut None ∷ Ended ∷ Gathered [] [] 5 ∷ Cut None ∷ Ended ∷ Holds IdlesTaken ∷ []

abbrev pub gathers_nothing : List SmallChange
gathers_nothing = Counting 0 ∷ Holds IdlesTaken ∷ []

abbrev pub gathers_twice : List SmallChange
gathers_twice = Gathered [] [] 5 ∷ Gathered [] [] 6 ∷ Cut None ∷ Cut None ∷ Ended ∷ Holds IdlesTaken ∷ []

-- it begins no round of idles; and one of which it begins none
abbrev pub takes_no_round : List SmallChange
takes_no_round = Gathered [] [] 5 ∷ Cut None ∷ Cut None ∷ Ended ∷ []

abbrev pub runs_no_idle : List SmallChange
runs_no_idle = Gathered [] [] 5 ∷ Holds IdlesTaken ∷ []

abbrev pub one_idle : Waiter (Unit {0})
one_idle = record { ticket = 0; idle = tt }

abbrev pub idle_waits : Book → SmallView
idle_waits name = that_waits name [] [] (one_idle ∷ [])

-- of two idles it begins the first one alone
abbrev pub runs_one_idle : List SmallChange
runs_one_idle = Gathered [] [] 5 ∷ Holds IdlesTaken ∷ Holds IdleBegun ∷ []

abbrev pub later_idle : Waiter (Unit {0})
later_idle = record { ticket = 1; idle = tt }

abbrev pub two_idles_wait : Book → SmallView
two_idles_wait name = that_waits name [] [] (one_idle ∷ later_idle ∷ [])

-- Accounts of dispatches, which the laws rule out.

-- both events were cut, in the other order
abbrev pub in_another_order : Book → SmallAccount
in_another_order name =
    record {
      began = two_wait name;
      now = 5;
      before = two_wait name;
      gathered = after_change (two_wait name) (Gathered [] [] 5);
      cut = event_for 1 ∷ event_for 0 ∷ [];
      round = [];
      begun = [];
      cancelled = [];
      ended = all_viewed (two_wait name) cuts_two;
    }

-- the timers of counter 0 and 1, armed for these moments
abbrev pub armed_for : (first second : ℕ) → List Entry
armed_for first second =
    entry_of 0 (record { nanos = first }) first_token ∷ entry_of 1 (record { nanos = second }) first_token ∷ []

-- it gathered at 5, and right behind that these deadlines stand
abbrev pub that_leaves : Book → List Entry → SmallAccount
that_leaves name entries =
    record {
      began = that_waits name [] (armed_for 5 7) [];
      now = 5;
      before = that_waits name [] (armed_for 5 7) [];
      gathered = that_waits name [] entries [];
      cut = [];
      round = [];
      begun = [];
      cancelled = [];
      ended = that_waits name [] entries [];
    }

-- the one for 5 stays, as the first of two, or as the second
abbrev pub first_stays : Book → SmallAccount
first_stays name = that_leaves name (armed_for 5 7)

abbrev pub second_stays : Book → SmallAccount
second_stays name = that_leaves name (armed_for 7 5)

-- the timers of two slots, armed for 3 and 4
abbrev pub two_overdue : List Entry
two_overdue =
    entry_of 0 (record { nanos = 3 }) (event_for 0).token ∷ entry_of 1 (record { nanos = 4 }) (event_for 1).token ∷ []

-- it gathered them at 5, and cut the first one's event alone
abbrev pub cuts_the_first_timer : Book → SmallAccount
cuts_the_first_timer name =
    record {
      began = that_waits name [] two_overdue [];
      now = 5;
      before = that_waits name [] two_overdue [];
      gathered = that_waits name two_events [] [];
      cut = event_for 0 ∷ [];
      round = [];
      begun = [];
      cancelled = [];
      ended = that_waits name [] [] [];
    }

-- A law that some dispatches keep, and not all: so to hold over every dispatch says something of each.
abbrev pub NothingIsCut : {D I P : Type 0} → Account D I P → Type 0
NothingIsCut a = a.cut ≡ []

-- The account of the dispatch of `run_that_there_is`: it gathered at 5, and cut the event of the timer for 5.
abbrev pub before_its_dispatch : Book → View Only (Unit {0}) (Unit {0})
before_its_dispatch name = visible (all_traced (all_traced (new_world name) of_the_insertion) of_the_exchange)

abbrev pub before_its_gathering : Book → View Only (Unit {0}) (Unit {0})
before_its_gathering name =
    all_viewed (before_its_dispatch name)
    (Counting 0
    ∷ Holds Cleared
    ∷ Watching (with_note (Marked []) (record { name = name; notes = Counted 0 ∷ [] }))
    ∷ Polling tt
    ∷ Watching (with_note (Looked false) (record { name = name; notes = Counted 0 ∷ Marked [] ∷ [] }))
    ∷ [])

abbrev pub account_of_it : Book → Account Only (Unit {0}) (Unit {0})
account_of_it name =
    record {
      began = before_its_dispatch name;
      now = 5;
      before = before_its_gathering name;
      gathered = after_change (before_its_gathering name) (Gathered [] [] 5);
      cut = timer_event (entry_of 0 five first_token) ∷ [];
      round = [];
      begun = [];
      cancelled = [];
      ended = all_viewed (before_its_dispatch name) (flatten (of_the_dispatch name));
    }
