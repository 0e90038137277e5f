-- Small runs that are wrong at their end alone, or in their second element alone: the laws over all runs rule each of them out,
-- so no law speaks of a run's beginning alone, nor of the first of some elements. All that isn't named here is right in each.
use Rattle.std.specs.Prelude.{◌≡◌, ℕ, false, List, [], ◌∷◌, Some, None, Ok, map}
use Rattle.logbook.specs.Pages.{Book}
use Rattle.calloop_slots.specs.declared.list.Content.TheVariants.{Source, InTurn}
use Rattle.calloop_slots.specs.declared.token.RegistrationToken.{RegistrationToken}
use Rattle.calloop_wake.specs.declared.notes.Note.TheVariants.{Counted, Looked, Marked}
use Rattle.calloop_slots.specs.declared.wheel.Instant.{Instant}
use Rattle.calloop_slots.specs.Deadlines.{entry_of}
use Rattle.calloop_slots.specs.Tokens.{key_of}
use Rattle.calloop_wake.specs.Watches.{with_note}
use Rattle.calloop_slots.specs.Widths.{versions}
use Rattle.calloop_sources.specs.declared.sources.source.PostAction.TheVariants.{Continue}
use Rattle.calloop_sources.specs.declared.sources.dispatch.Role.TheVariants.{Adapter}
use Rattle.calloop_sources.specs.sources.Deeds.{Lent}
use Rattle.calloop_sources.specs.sources.Meanings.{Meaning, still}
use Rattle.calloop_poll.specs.sys.Polls.{PollView, timer_event}
use Rattle.calloop_loop.specs.declared.LoopCall.{LoopCall}
use Rattle.calloop_loop.specs.declared.LoopCall.TheVariants.{Dispatch}
use Rattle.calloop_loop.specs.declared.LoopAnswer.{LoopAnswer}
use Rattle.calloop_loop.specs.declared.LoopAnswer.TheVariants.{Dispatched}
use Rattle.calloop_loop.specs.declared.asks.Answer.TheVariants.{Done}
use Rattle.calloop_loop.specs.declared.asks.Request.TheVariants.{Remove}
use Rattle.calloop_loop.specs.Askings.{Asks, Runs, no_asks}
use Rattle.calloop_laws.specs.EveryRun.{LoopRun, FromTheStart, ArmingsAreKept, ArmingsAreKeptOfFresh}
use Rattle.calloop_loop.specs.Held.{Held, Listed, Cleared, IdlesTaken}
use Rattle.calloop_laws.specs.Laws.{moments_of, event_of}
use Rattle.calloop_loop.specs.Ledgers.{Ledger, Arming, Due, Waiting, TimerCall, entry_in, new_ledger}
use Rattle.calloop_loop.specs.Machine.{
  World,
  Registration,
  Change,
  Put,
  Polls,
  Polling,
  Watching,
  Counting,
  Holds,
  Gathered,
  Cut,
  world_after_all,
}
use Rattle.calloop_laws.specs.Wrong.{
  first_token,
  first_registration,
  second_registration,
  full_slot,
  given_up,
  first_arming,
  first_call,
  gathered_at,
}

-- sources that are all alike, over a poller of one state, with nothing to lend
abbrev pub SmallWorld : Type 0
SmallWorld = World (Unit {0}) (Unit {0}) (Unit {0})

abbrev pub SmallRun : Type 0
SmallRun = LoopRun (Unit {0}) (Unit {0}) (Unit {0}) (Unit {0})

abbrev pub SmallChange : Type 0
SmallChange = Change (Unit {0}) (Unit {0}) (Unit {0})

-- nothing has happened to a loop over a board of this name
abbrev pub untouched_poll : Book → PollView (Unit {0})
untouched_poll name =
    record {
      poller = tt;
      table = [];
      deadlines = record { entries = []; next = 0 };
      batch = [];
      passes = [];
      pass = None;
      places = 0;
      watch = record { name = name; notes = [] };
    }

abbrev pub untouched_held : {D : Type 0} → Held D (Unit {0})
untouched_held = record { lifecycle = []; pending = Continue; asks = no_asks; warnings = []; stops = [] }

abbrev pub idle_world : {D : Type 0} → Book → World D (Unit {0}) (Unit {0})
idle_world name =
    record {
      slots = [];
      poll = untouched_poll name;
      held = untouched_held;
      handed = [];
      ledger = new_ledger;
      signal = name;
    }

-- The source of each event, what a token names, and what was given up: runs from any state.

-- a run of these changes
abbrev pub of_changes : List SmallChange → SmallWorld → SmallRun
of_changes cs w =
    record {
      calls = [];
      answers = [];
      changes = (cs ∷ []) ∷ [];
      moments = moments_of w cs;
      began = w;
      ended = world_after_all w cs;
    }

-- two sources, and two events of the first of them
abbrev pub with_two_events : Book → SmallWorld
with_two_events name =
    record {
      slots = full_slot 0 ∷ full_slot 0 ∷ [];
      poll = record (untouched_poll name) { batch = (gathered_at 5).event ∷ (gathered_at 5).event ∷ [] };
      held = untouched_held;
      handed = [];
      ledger = new_ledger;
      signal = name;
    }

-- the second event goes to the other source, or to none
abbrev pub second_event_goes_wrong : Book → SmallRun
second_event_goes_wrong name = of_changes (Cut (Some 0) ∷ Cut (Some 1) ∷ []) (with_two_events name)

abbrev pub second_event_is_lost : Book → SmallRun
second_event_is_lost name = of_changes (Cut (Some 0) ∷ Cut None ∷ []) (with_two_events name)

-- a run of three moments, which differ in their one slot
abbrev pub with_slot : Book → Registration (Unit {0}) → SmallWorld
with_slot name r =
    record {
      slots = r ∷ [];
      poll = untouched_poll name;
      held = untouched_held;
      handed = [];
      ledger = new_ledger;
      signal = name;
    }

abbrev pub of_moments : Book → (first second third : Registration (Unit {0})) → SmallRun
of_moments name first second third =
    record {
      calls = [];
      answers = [];
      changes = [];
      moments = with_slot name first ∷ with_slot name second ∷ with_slot name third ∷ [];
      began = with_slot name first;
      ended = with_slot name third;
    }

-- the token of the first moment names a lesser reuse count in the last one, and nothing in between; or that of the
-- second does
abbrev pub ends_under_an_earlier_use : Book → SmallRun
ends_under_an_earlier_use name = of_moments name (full_slot versions) (full_slot 1) (full_slot 0)

abbrev pub goes_back_to_an_earlier_use : Book → SmallRun
goes_back_to_an_earlier_use name = of_moments name (full_slot 1) (full_slot versions) (full_slot 0)

-- what was given up in the first moment is there again in the last one; or what was in the second
abbrev pub ends_with_what_was_given_up : Book → SmallRun
ends_with_what_was_given_up name = of_moments name (given_up 0) (full_slot 1) (full_slot 0)

abbrev pub goes_back_to_what_was_given_up : Book → SmallRun
goes_back_to_what_was_given_up name = of_moments name (full_slot 1) (given_up 0) (full_slot 0)

-- Runs from the start, which are wrong when they end.

abbrev pub that_ends : {D : Type 0} → Book → World D (Unit {0}) (Unit {0}) → LoopRun D (Unit {0}) (Unit {0}) (Unit {0})
that_ends name w =
    record {
      calls = [];
      answers = [];
      changes = [];
      moments = idle_world name ∷ w ∷ [];
      began = idle_world name;
      ended = w;
    }

-- what holds no counter and has no key
abbrev pub at_rest : Meaning (Unit {0}) (Unit {0}) (Lent (Unit {0}) (Asks (Unit {0}) (Unit {0})))
at_rest = still (λ s v deed t. t ≡ s)

-- neither form of the law of armings holds of a run
abbrev pub IsOutOfTime : SmallRun → Type 0
IsOutOfTime r = (¬ FromTheStart (ArmingsAreKept at_rest) r) × (¬ FromTheStart (ArmingsAreKeptOfFresh at_rest) r)

-- this is noted of its timers, and `Poll` agrees with it
abbrev pub with_ledger : Book → Ledger → SmallWorld
with_ledger name l =
    record {
      slots = [];
      poll =
          record (untouched_poll name) {
            deadlines = record { entries = map entry_in l.armed; next = l.count };
            batch = map event_of l.batch;
          };
      held = untouched_held;
      handed = [];
      ledger = l;
      signal = name;
    }

abbrev pub that_notes : Book → Ledger → SmallRun
that_notes name l = that_ends name (with_ledger name l)

-- a second arming beside the first, under a counter of its own
abbrev pub second_arming : Arming
second_arming = record { number = 1; counter = 1; deadline = record { nanos = 5 } }

abbrev pub second_at : (moment : ℕ) → Waiting
second_at moment =
    record { event = timer_event (entry_of 1 (record { nanos = 5 }) first_token); origin = Due second_arming moment }

abbrev pub second_call : Instant → TimerCall
second_call deadline = record { deadline = deadline; arming = Some second_arming }

-- both were made, and are in these lists
abbrev pub two_made : (batch cut : List Waiting) → Ledger
two_made batch cut =
    record new_ledger { batch = batch; cut = cut; made = second_arming ∷ first_arming ∷ []; count = 2 }

-- the second one is gathered early, and waits in the batch, or was cut from it
abbrev pub second_waits_early : Ledger
second_waits_early = two_made (gathered_at 5 ∷ second_at 4 ∷ []) []

abbrev pub second_is_cut_early : Ledger
second_is_cut_early = two_made [] (gathered_at 5 ∷ second_at 4 ∷ [])

-- both were cut; the second call hands out another deadline, or is for the second arming once more
abbrev pub second_call_differs : Ledger
second_call_differs =
    record (two_made [] (gathered_at 5 ∷ second_at 5 ∷ [])) { calls = first_call ∷ second_call (record { nanos = 7 }) ∷ [] }

abbrev pub second_is_called_twice : Ledger
second_is_called_twice =
    record (two_made [] (gathered_at 5 ∷ second_at 5 ∷ [])) {
      calls = second_call (record { nanos = 5 }) ∷ second_call (record { nanos = 5 }) ∷ [];
    }

-- the second one is in two places, or in none
abbrev pub second_is_twice : Ledger
second_is_twice = two_made (second_at 5 ∷ []) (gathered_at 5 ∷ second_at 5 ∷ [])

abbrev pub second_is_nowhere : Ledger
second_is_nowhere = two_made [] (gathered_at 5 ∷ [])

-- both wait in their places, and `Poll` has the first one alone
abbrev pub two_armed : Ledger
two_armed =
    record (two_made [] []) {
      armed =
          record { entry = entry_of 0 (record { nanos = 5 }) first_token; number = 0 }
          ∷ record { entry = entry_of 1 (record { nanos = 5 }) first_token; number = 1 }
          ∷ [];
    }

abbrev pub with_one_deadline : Book → SmallWorld
with_one_deadline name =
    record (with_ledger name two_armed) {
      poll =
          record (untouched_poll name) {
            deadlines = record { entries = entry_of 0 (record { nanos = 5 }) first_token ∷ []; next = 2 };
          };
    }

abbrev pub with_one_event : Book → SmallWorld
with_one_event name =
    record (with_ledger name (two_made (gathered_at 5 ∷ second_at 5 ∷ []) [])) {
      poll =
          record (untouched_poll name) {
            deadlines = record { entries = []; next = 2 };
            batch = (gathered_at 5).event ∷ [];
          };
    }

-- `Poll` has the deadline for 7 before the one for 5
abbrev pub with_a_later_deadline_first : Book → SmallWorld
with_a_later_deadline_first name =
    record (with_ledger name new_ledger) {
      poll =
          record (untouched_poll name) {
            deadlines = record {
              entries =
                  entry_of 0 (record { nanos = 7 }) first_token
                  ∷ entry_of 1 (record { nanos = 5 }) first_token
                  ∷ [];
              next = 2;
            };
          };
    }

-- sources that are the keys which they are registered under, and stay as they are
abbrev pub keys_alone : Meaning ℕ (Unit {0}) (Lent (Unit {0}) (Asks ℕ (Unit {0})))
keys_alone = record (still (λ s v deed t. t ≡ s)) { keys = λ s key. key ≡ s }

-- the second slot has a source under a key of the first
abbrev pub second_is_elsewhere : Book → World ℕ (Unit {0}) (Unit {0})
second_is_elsewhere name =
    record {
      slots =
          record { reuse = 0; content = Source (key_of first_token) }
          ∷ record { reuse = 0; content = Source (key_of first_token) }
          ∷ [];
      poll = untouched_poll name;
      held = untouched_held;
      handed = [];
      ledger = new_ledger;
      signal = name;
    }

-- two slots, and these registrations are told of waits
abbrev pub that_tells : Book → List (Registration (Unit {0})) → List RegistrationToken → SmallWorld
that_tells name slots tokens =
    record {
      slots = slots;
      poll = untouched_poll name;
      held = record { lifecycle = tokens; pending = Continue; asks = no_asks; warnings = []; stops = [] };
      handed = [];
      ledger = new_ledger;
      signal = name;
    }

-- the second one twice, or though its slot was given up
abbrev pub second_is_told_twice : Book → SmallWorld
second_is_told_twice name =
    that_tells name (full_slot 0 ∷ full_slot 0 ∷ []) (first_registration ∷ second_registration ∷ second_registration ∷ [])

abbrev pub second_is_told_when_gone : Book → SmallWorld
second_is_told_when_gone name =
    that_tells name (full_slot 0 ∷ given_up 0 ∷ []) (first_registration ∷ second_registration ∷ [])

-- two tickets were given, and callbacks asked for this
abbrev pub that_answers : Book → Asks (Unit {0}) (Unit {0}) → (handed : List ℕ) → SmallWorld
that_answers name asks handed =
    record {
      slots = [];
      poll = untouched_poll name;
      held = record { lifecycle = []; pending = Continue; asks = asks; warnings = []; stops = [] };
      handed = handed;
      ledger = new_ledger;
      signal = name;
    }

-- there are two answers, two requests, or an answer that was handed out twice, under the second ticket
abbrev pub second_is_answered_twice : Book → SmallWorld
second_is_answered_twice name =
    that_answers name
    (record no_asks {
      next = 2;
      answers =
          record { ticket = 0; answer = Done; kept_for = None }
          ∷ record { ticket = 1; answer = Done; kept_for = None }
          ∷ record { ticket = 1; answer = Done; kept_for = None }
          ∷ [];
    })
    []

abbrev pub second_is_asked_twice : Book → SmallWorld
second_is_asked_twice name =
    that_answers name
    (record no_asks {
      next = 2;
      written =
          record { ticket = 0; request = Remove first_registration }
          ∷ record { ticket = 1; request = Remove first_registration }
          ∷ record { ticket = 1; request = Remove first_registration }
          ∷ [];
    })
    []

abbrev pub second_is_handed_out_twice : Book → SmallWorld
second_is_handed_out_twice name = that_answers name (record no_asks { next = 2 }) (0 ∷ 1 ∷ 1 ∷ [])

-- Two adapters, which a dispatch settles in this order. They do nothing as they are settled.

abbrev pub adapters : Meaning (Unit {0}) (Unit {0}) (Lent (Unit {0}) (Asks (Unit {0}) (Unit {0})))
adapters = record (still (λ s v deed t. t ≡ s)) { role = λ s. Adapter }

abbrev pub with_two_adapters : Book → SmallWorld
with_two_adapters name =
    record {
      slots = full_slot 0 ∷ full_slot 0 ∷ [];
      poll = untouched_poll name;
      held = untouched_held;
      handed = [];
      ledger = new_ledger;
      signal = name;
    }

abbrev pub settles : (slot : ℕ) → List SmallChange
settles slot =
    Put slot InTurn
    ∷ Polls []
    ∷ Holds (Listed false (record { slot = slot; version = 0 }))
    ∷ Put slot (Source tt)
    ∷ []

-- both were marked, in this order
abbrev pub two_marked : (first second : ℕ) → List RegistrationToken
two_marked first second = record { slot = first; version = 0 } ∷ record { slot = second; version = 0 } ∷ []

abbrev pub begins : Book → (first second : ℕ) → List SmallChange
begins name first second =
    Counting 0
    ∷ Holds Cleared
    ∷ Watching (with_note (Marked (two_marked first second)) (record { name = name; notes = Counted 0 ∷ [] }))
    ∷ []

abbrev pub behind_a_settling : Book → (first second : ℕ) → List (List SmallChange)
behind_a_settling name first second =
    []
    ∷ []
    ∷ (Polling tt
    ∷ Watching (with_note (Looked false) (record { name = name; notes = Counted 0 ∷ Marked (two_marked first second) ∷ [] }))
    ∷ [])
    ∷ (Gathered [] [] 5 ∷ [])
    ∷ []
    ∷ []
    ∷ (Holds IdlesTaken ∷ [])
    ∷ []
    ∷ []

abbrev pub of_a_settling : Book → (first second : ℕ) → List (List SmallChange)
of_a_settling name first second = begins name first second ∷ settles first ∷ settles second ∷ behind_a_settling name first second

abbrev pub one_dispatch : List (LoopCall (Unit {0}) (Unit {0}) (Unit {0}) (Unit {0}))
one_dispatch = Dispatch None tt ∷ []

abbrev pub one_answer : List (LoopAnswer (Unit {0}) (Unit {0}) (Unit {0}) (Unit {0}))
one_answer = Dispatched (Ok tt) tt ∷ []

abbrev pub idle_never : Runs (Unit {0}) (Unit {0}) (Unit {0})
idle_never idle x q y r = r ≡ q
