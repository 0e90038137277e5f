-- Small cases that the laws over all runs rule out.
use Rattle.std.specs.Prelude.{◌≡◌, ℕ, [], ◌∷◌, Some, None, Ok, Err}
use Rattle.calloop_slots.specs.declared.token.Token.{Token}
use Rattle.calloop_slots.specs.declared.token.RegistrationToken.{RegistrationToken}
use Rattle.calloop_slots.specs.declared.list.Content.TheVariants.{Vacant, Source, InTurn}
use Rattle.calloop_slots.specs.Deadlines.{entry_of}
use Rattle.calloop_slots.specs.Tokens.{key_of}
use Rattle.calloop_sources.specs.sources.Deeds.{Lent}
use Rattle.calloop_sources.specs.sources.Meanings.{Meaning, still}
use Rattle.calloop_slots.specs.declared.error.Error.{Error}
use Rattle.calloop_poll.specs.declared.sys.Readiness.{Readiness}
use Rattle.calloop_poll.specs.sys.Pollers.{Outside}
use Rattle.calloop_poll.specs.sys.Polls.{timer_event, ready_to_read, own_event, Arm}
use Rattle.calloop_loop.specs.declared.asks.Answer.TheVariants.{Done}
use Rattle.calloop_loop.specs.declared.asks.Request.TheVariants.{Remove}
use Rattle.calloop_loop.specs.Askings.{Asks, no_asks}
use Rattle.calloop_loop.specs.Ledgers.{Ledger, Arming, Origin, Due, Waiting, TimerCall, new_ledger}
use Rattle.calloop_loop.specs.Machine.{Registration, View, Appended}
use Rattle.calloop_loop.specs.Rules.{SleptAs, Step, Settling, Sleeping, Leaving}

-- a token of slot 0 under version 0
abbrev pub first_token : Token
first_token = record { slot = 0; version = 0; sub_id = 0 }

-- the registration that it is of
abbrev pub first_registration : RegistrationToken
first_registration = record { slot = 0; version = 0 }

-- two events for which a source asks before a wait
abbrev pub asked_first : Readiness × Token
asked_first = (ready_to_read, first_token)

abbrev pub asked_later : Readiness × Token
asked_later = (ready_to_read, record first_token { sub_id = 1 })

-- only the later of the two events joins the batch
abbrev pub KeepsTheLastAlone : Type 0
KeepsTheLastAlone =
    SleptAs {D = Unit {0}} {I = Unit {0}} {P = Unit {0}} {X = Unit {0}} None [] (asked_first ∷ asked_later ∷ []) (Ok tt) tt
    (Appended (own_event asked_later) ∷ []) (Sleeping None [] tt)

-- an event joins the batch though the source failed
abbrev pub KeepsOfAFailure : Error → Type 0
KeepsOfAFailure e =
    SleptAs {D = Unit {0}} {I = Unit {0}} {P = Unit {0}} {X = Unit {0}} None [] (asked_first ∷ []) (Err e) tt
    (Appended (own_event asked_first) ∷ []) (Leaving (Err e) tt)

-- a registration of slot 1
abbrev pub second_registration : RegistrationToken
second_registration = record { slot = 1; version = 0 }

-- the meaning of a source that does nothing
abbrev pub silent : Meaning (Unit {0}) (Unit {0}) (Lent (Unit {0}) (Asks (Unit {0}) (Unit {0})))
silent = still (λ s v deed t. t ≡ s)

-- a poller that answers anything
abbrev pub any_poller : Outside (Unit {0})
any_poller =
    record {
      reads = λ p now q. Unit {0};
      waits = λ p asked answer given q. Unit {0};
      calls = λ p call answer q. Unit {0};
      faults = λ p. 0;
    }

-- the source of slot 1 is told of a wait after the source of slot 0
abbrev pub TellsInTheOrderOfSlots : View (Unit {0}) (Unit {0}) (Unit {0}) → Type 0
TellsInTheOrderOfSlots v =
    Step silent (λ i x q y r. Unit {0}) any_poller v (Settling None [] tt) []
    (Sleeping None (first_registration ∷ second_registration ∷ []) tt)

-- a slot in its first use (`reuse` is 0) or a later one, with a source of a type whose sources are all alike
abbrev pub full_slot : (reuse : ℕ) → Registration (Unit {0})
full_slot reuse = record { reuse = reuse; content = Source tt }

-- it was given up
abbrev pub given_up : (reuse : ℕ) → Registration (Unit {0})
given_up reuse = record { reuse = reuse; content = Vacant }

-- the first arming, for moment 5
abbrev pub first_arming : Arming
first_arming = record { number = 0; counter = 0; deadline = record { nanos = 5 } }

-- the first arming, gathered at moment 4, which is too early
abbrev pub early : Origin
early = Due first_arming 4

-- its event
abbrev pub gathered_at : (moment : ℕ) → Waiting
gathered_at moment =
    record { event = timer_event (entry_of 0 (record { nanos = 5 }) first_token); origin = Due first_arming moment }

-- a call for it
abbrev pub first_call : TimerCall
first_call = record { deadline = record { nanos = 5 }; arming = Some first_arming }

-- one arming that waits in the batch, and was cut from it too
abbrev pub in_two_places : Ledger
in_two_places =
    record new_ledger { batch = gathered_at 5 ∷ []; cut = gathered_at 5 ∷ []; made = first_arming ∷ []; count = 1 }

-- one arming that was called for twice
abbrev pub called_twice : Ledger
called_twice =
    record new_ledger {
      cut = gathered_at 5 ∷ [];
      made = first_arming ∷ [];
      count = 1;
      calls = first_call ∷ first_call ∷ [];
    }

-- one that was called for, and gathered too early
abbrev pub called_early : Ledger
called_early =
    record new_ledger { cut = gathered_at 4 ∷ []; made = first_arming ∷ []; count = 1; calls = first_call ∷ [] }

-- one that was called for, and never gathered
abbrev pub called_from_nowhere : Ledger
called_from_nowhere =
    record new_ledger { cancelled = 0 ∷ []; made = first_arming ∷ []; count = 1; calls = first_call ∷ [] }

-- one that was called for with another deadline than its own
abbrev pub called_with_another_deadline : Ledger
called_with_another_deadline =
    record new_ledger {
      cut = gathered_at 5 ∷ [];
      made = first_arming ∷ [];
      count = 1;
      calls = record { deadline = record { nanos = 7 }; arming = Some first_arming } ∷ [];
    }

-- one that was made, and is nowhere
abbrev pub in_no_place : Ledger
in_no_place = record new_ledger { made = first_arming ∷ []; count = 1 }

-- one that waits among the deadlines, and one that waits in the batch
abbrev pub armed_once : Ledger
armed_once =
    record new_ledger {
      armed = record { entry = entry_of 0 (record { nanos = 5 }) first_token; number = 0 } ∷ [];
      made = first_arming ∷ [];
      count = 1;
    }

abbrev pub gathered_once : Ledger
gathered_once = record new_ledger { batch = gathered_at 5 ∷ []; made = first_arming ∷ []; count = 1 }

-- a source that is the key which it is registered under, and that stays as it is whatever is asked of it
abbrev pub still_meaning : Meaning ℕ (Unit {0}) (Lent (Unit {0}) (Unit {0}))
still_meaning = record (still (λ s v deed t. t ≡ s)) { keys = λ s key. key ≡ s }

-- one without a key, which arms a deadline under a token of the first registration whatever is asked of it
abbrev pub arms_elsewhere : Meaning (Unit {0}) (Unit {0}) (Lent (Unit {0}) (Unit {0}))
arms_elsewhere =
    record (still (λ s v deed t. t ≡ s)) {
      does = λ s v deed steps t. (steps ≡ Arm (record { nanos = 5 }) first_token ∷ []) × (t ≡ s);
    }

-- a slot that is used once more, with a source whose key is of the slot's first use
abbrev pub used_with_an_old_key : Registration ℕ
used_with_an_old_key = record { reuse = 1; content = Source (key_of first_token) }

-- two answers under one ticket
abbrev pub answered_twice : Asks (Unit {0}) (Unit {0})
answered_twice =
    record no_asks {
      next = 1;
      answers = record { ticket = 0; answer = Done; kept_for = None } ∷ record { ticket = 0; answer = Done; kept_for = None } ∷ [];
    }

-- two requests under one ticket
abbrev pub asked_twice : Asks (Unit {0}) (Unit {0})
asked_twice =
    record no_asks {
      next = 1;
      written =
          record { ticket = 0; request = Remove first_registration }
          ∷ record { ticket = 0; request = Remove first_registration }
          ∷ [];
    }

-- one ticket was given, and nothing stands under it
abbrev pub one_ticket : Asks (Unit {0}) (Unit {0})
one_ticket = record no_asks { next = 1 }

-- a slot whose source is in its turn
abbrev pub in_its_turn : Registration (Unit {0})
in_its_turn = record { reuse = 0; content = InTurn }

-- a call for an arming that differs from the gathered one but has the same number
abbrev pub called_for : Arming → Ledger
called_for other =
    record new_ledger {
      cut = gathered_at 5 ∷ [];
      made = first_arming ∷ [];
      count = 1;
      calls = record { deadline = other.deadline; arming = Some other } ∷ [];
    }

-- that arming has another deadline, which is also before the moment of the gathering; below, it has another counter
abbrev pub with_another_deadline : Arming
with_another_deadline = record first_arming { deadline = record { nanos = 4 } }

abbrev pub with_another_counter : Arming
with_another_counter = record first_arming { counter = 1 }

-- an arming with the counter and the deadline of the gathered one, and the number of a later one; below it is called for
abbrev pub with_another_number : Arming
with_another_number = record first_arming { number = 1 }

abbrev pub called_for_the_later_one : Ledger
called_for_the_later_one =
    record new_ledger {
      cut =
          gathered_at 5
          ∷ record (gathered_at 5) { origin = Due (record { number = 1; counter = 1; deadline = record { nanos = 5 } }) 5 }
          ∷ [];
      made = record { number = 1; counter = 1; deadline = record { nanos = 5 } } ∷ first_arming ∷ [];
      count = 2;
      calls = record { deadline = record { nanos = 5 }; arming = Some with_another_number } ∷ [];
    }

-- one arming was made and cut from the batch; another, which was never made, stands in the batch
abbrev pub with_one_never_made : Ledger
with_one_never_made =
    record new_ledger {
      batch =
          record (gathered_at 5) { origin = Due (record { number = 1; counter = 1; deadline = record { nanos = 5 } }) 5 } ∷ [];
      cut = gathered_at 5 ∷ [];
      made = first_arming ∷ [];
      count = 1;
    }

-- an answer stands under a ticket whose request is still being carried out; below, under one whose answer is still owed
abbrev pub answered_while_served : Asks (Unit {0}) (Unit {0})
answered_while_served =
    record no_asks { next = 1; answers = record { ticket = 0; answer = Done; kept_for = None } ∷ []; serving = Some 0 }

abbrev pub answered_while_owed : Asks (Unit {0}) (Unit {0})
answered_while_owed =
    record no_asks { next = 1; answers = record { ticket = 0; answer = Done; kept_for = None } ∷ []; owed = Some 0 }
