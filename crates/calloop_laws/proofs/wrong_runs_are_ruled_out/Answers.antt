use Rattle.std.proofs.Common.{◌≡◌, inl, inr, ℕ, Bool, true, false, List, [], ◌∷◌, Some, Ok, refl, sym, ap, ◌∙◌, ◌%◌, ◌+◌, ◌≤◌, nat_lt, if◌then◌else◌, arith, slice_get, length}
use Rattle.calloop_slots.specs.Widths.{versions}
use Rattle.calloop_laws.specs.Laws.{times_standing, how_many, is_number, timely}
use Rattle.calloop_loop.specs.Machine.{Registration}
use Rattle.calloop_slots.specs.declared.token.RegistrationToken.{RegistrationToken}
use Rattle.calloop_slots.specs.Tokens.{key_of}
use Rattle.calloop_sources.specs.sources.Deeds.{Registered, Unregistered}
use Rattle.calloop_poll.specs.sys.Polls.{Arm}
use Rattle.calloop_loop.specs.Rules.{Doing, Sleeping, factory_of}
use Rattle.calloop_slots.specs.declared.wheel.Entry.{Entry}
use Rattle.calloop_slots.specs.declared.wheel.Instant.{Instant}
use Rattle.calloop_poll.specs.declared.sys.poll.Pending.{Pending}
use Rattle.calloop_slots.specs.declared.list.Content.TheVariants.{Vacant, Source, InTurn}
use Rattle.calloop_loop.specs.Ledgers.{Ledger, Arming}
use Rattle.calloop_laws.specs.Wrong.{first_arming, first_token, first_registration, full_slot, given_up, used_with_an_old_key, in_its_turn, called_early, called_for, called_for_the_later_one, with_another_deadline, with_another_counter, with_another_number}
use Rattle.calloop_laws.proofs.wrong_runs_are_ruled_out.Goals as goal

zero_one : ◌≡◌ {A = ℕ} 0 1 → ⊥
zero_one e = omega arith

one_zero : ◌≡◌ {A = ℕ} 1 0 → ⊥
one_zero e = omega arith

two_one : ◌≡◌ {A = ℕ} 2 1 → ⊥
two_one e = omega arith

false_true : ◌≡◌ {A = Bool} false true → ⊥
false_true e = cc

abbrev first_slot : List RegistrationToken → ℕ
first_slot [] = 0
first_slot (r ∷ rs) = r.slot

abbrev told_first : Doing (Unit {0}) (Unit {0}) → ℕ
told_first (Sleeping timeout later x) = first_slot later
told_first b = 0

pub returns-clause-wrong_slot : goal.returns-clause-wrong_slot
returns-clause-wrong_slot c = λ h. one_zero h.0

pub returns-clause-later_registration : goal.returns-clause-later_registration
returns-clause-later_registration c = λ h.
    let e : full_slot 1 ≡ h.1 = (let f = h.2 in cc) in
    let one : h.1.reuse ≡ 1 = sym (ap (λ (r : Registration (Unit {0})). r.reuse) e) in
    one_zero (sym (ap (λ n. n % versions) one) ∙ h.3)

pub returns-clause-lost_event : goal.returns-clause-lost_event
returns-clause-lost_event c = λ h. h (full_slot 0) refl refl (tt, refl)

pub returns-clause-earlier_registration : goal.returns-clause-earlier_registration
returns-clause-earlier_registration c = λ w w' s s' h.
    elim (h first_token (full_slot versions) (full_slot 0) (ap (λ (l : List (Registration (Unit {0}))). slice_get l 0) s, refl) (ap (λ (l : List (Registration (Unit {0}))). slice_get l 0) s', refl)) [
      | inl e ↦ absurd (omega arith)
      | inr k ↦ absurd (omega (arith, k.1, k.2))
    ]

pub returns-clause-there_again : goal.returns-clause-there_again
returns-clause-there_again c = λ w w' s s' h.
    false_true (h 0 (given_up 0) (full_slot 0) (ap (λ (l : List (Registration (Unit {0}))). slice_get l 0) s) (ap (λ (l : List (Registration (Unit {0}))). slice_get l 0) s') refl refl)

pub returns-clause-early_event : goal.returns-clause-early_event
returns-clause-early_event c = λ h. absurd (omega (arith, h))

pub returns-clause-two_places : goal.returns-clause-two_places
returns-clause-two_places c = λ v h. two_one (h.placed 0)

pub returns-clause-two_calls : goal.returns-clause-two_calls
returns-clause-two_calls c = λ v h. absurd (omega (arith, h.once 0))

pub returns-clause-early_call : goal.returns-clause-early_call
returns-clause-early_call c = λ v h. absurd (omega (arith, h.cut_on_time.0))

pub returns-clause-call_from_nowhere : goal.returns-clause-call_from_nowhere
returns-clause-call_from_nowhere c = λ v h. absurd (omega (arith, h.gathered 0))

pub returns-clause-told_twice : goal.returns-clause-told_twice
returns-clause-told_twice c = λ w twice h. (let once = rw twice at h.once in false_true (sym once.0))

pub returns-clause-told_when_gone : goal.returns-clause-told_when_gone
returns-clause-told_when_gone c = λ w one gone h.
    (let full = rw (one, gone) at h.full in false_true (sym (full first_registration refl)))

pub returns-clause-old_key : goal.returns-clause-old_key
returns-clause-old_key c = λ w slots h.
    let own = h 0 used_with_an_old_key (key_of first_token) (ap (λ (l : List (Registration ℕ)). slice_get l 0) slots) refl (key_of first_token) refl in
    absurd (omega (arith, own.2))

pub returns-clause-kept_key : goal.returns-clause-kept_key
returns-clause-kept_key c = λ v h.
    let second : RegistrationToken = record { slot = 0; version = 1 } in
    let own = (h.home second 0 0 v (Registered (factory_of second) (Ok tt) (factory_of second)) [] (refl, omega arith) (refl, refl, tt)).0 0 refl in
    absurd (omega (arith, own.2))

pub returns-clause-armed_elsewhere : goal.returns-clause-armed_elsewhere
returns-clause-armed_elsewhere c = λ v h.
    let second : RegistrationToken = record { slot = 0; version = 1 } in
    let own = ((h.home second tt tt v (Unregistered (Ok tt)) (Arm (record { nanos = 5 }) first_token ∷ []) (λ key none. absurd none) (refl, refl)).1 (λ key none. absurd none)).0 in
    absurd (omega (arith, own.2))

pub returns-clause-answered_twice : goal.returns-clause-answered_twice
returns-clause-answered_twice c = λ w is h. (let g : times_standing 0 w.held.asks + how_many (is_number 0) w.handed ≤ (if nat_lt 0 w.held.asks.next then 1 else 0) = h 0 in absurd (omega (arith, rw is at g)))

pub returns-clause-handed_out_twice : goal.returns-clause-handed_out_twice
returns-clause-handed_out_twice c = λ w is handed h. (let g : times_standing 0 w.held.asks + how_many (is_number 0) w.handed ≤ (if nat_lt 0 w.held.asks.next then 1 else 0) = h 0 in absurd (omega (arith, rw (is, handed) at g)))

pub returns-clause-asked_twice : goal.returns-clause-asked_twice
returns-clause-asked_twice c = λ w is h. (let g : times_standing 0 w.held.asks + how_many (is_number 0) w.handed ≤ (if nat_lt 0 w.held.asks.next then 1 else 0) = h 0 in absurd (omega (arith, rw is at g)))

pub returns-clause-other_deadline : goal.returns-clause-other_deadline
returns-clause-other_deadline c = λ v h.
    let own = h.own.0 in
    let same : first_arming ≡ own.0 = (let e = own.1 in cc) in
    let wrong : ◌≡◌ {A = ℕ} 5 7 = ap (λ (a : Arming). a.deadline.nanos) same ∙ ap (λ (i : Instant). i.nanos) own.2 in
    omega (arith, wrong)

pub returns-clause-no_place : goal.returns-clause-no_place
returns-clause-no_place c = λ v h. zero_one (h.placed 0)

pub returns-clause-no_deadline : goal.returns-clause-no_deadline
returns-clause-no_deadline c = λ v none h. one_zero (ap (λ (l : List Entry). length l) (h.entries ∙ none))

pub returns-clause-no_event : goal.returns-clause-no_event
returns-clause-no_event c = λ v none h. one_zero (ap (λ (l : List Pending). length l) (h.events ∙ none))

pub returns-clause-last_event_alone : goal.returns-clause-last_event_alone
returns-clause-last_event_alone c = λ h. (let alone = h.0 in cc)

pub returns-clause-events_of_a_failure : goal.returns-clause-events_of_a_failure
returns-clause-events_of_a_failure c = λ e h. (let none = h.0 in cc)

pub returns-clause-order_of_slots : goal.returns-clause-order_of_slots
returns-clause-order_of_slots c = λ v entries h. zero_one (ap told_first h.1 ∙ ap first_slot entries)

pub returns-clause-vacant_slot : goal.returns-clause-vacant_slot
returns-clause-vacant_slot c = λ h.
    let e : given_up 0 ≡ h.1 = (let f = h.2 in cc) in
    let source : Vacant ≡ Source h.4.0 = ap (λ (r : Registration (Unit {0})). r.content) e ∙ h.4.1 in
    cc

pub returns-clause-slot_in_its_turn : goal.returns-clause-slot_in_its_turn
returns-clause-slot_in_its_turn c = λ h.
    let e : in_its_turn ≡ h.1 = (let f = h.2 in cc) in
    let source : InTurn ≡ Source h.4.0 = ap (λ (r : Registration (Unit {0})). r.content) e ∙ h.4.1 in
    cc

pub returns-clause-lost_event_of_a_later_use : goal.returns-clause-lost_event_of_a_later_use
returns-clause-lost_event_of_a_later_use c = λ h. h (full_slot versions) refl refl (tt, refl)

-- a call isn't its own if no arming like its one was gathered in time
none_gathered : (l : Ledger) (a b : Arming) → Some a ≡ Some b → timely l a ≡ 0 → 1 ≤ timely l b → ⊥
none_gathered l a b is none one =
    let same : a ≡ b = cc in
    let at : timely l b ≡ 0 = ap (λ (x : Arming). timely l x) (sym same) ∙ none in
    omega (arith, at, one)

pub returns-clause-other_arming : goal.returns-clause-other_arming
returns-clause-other_arming c = λ v h. none_gathered (called_for with_another_deadline) with_another_deadline h.own.0.0 h.own.0.1 refl h.own.0.3

pub returns-clause-other_counter : goal.returns-clause-other_counter
returns-clause-other_counter c = λ v h. none_gathered (called_for with_another_counter) with_another_counter h.own.0.0 h.own.0.1 refl h.own.0.3

pub returns-clause-other_number : goal.returns-clause-other_number
returns-clause-other_number c = λ v h. none_gathered called_for_the_later_one with_another_number h.own.0.0 h.own.0.1 refl h.own.0.3

pub returns-clause-early_arming : goal.returns-clause-early_arming
returns-clause-early_arming c = λ h. none_gathered called_early first_arming h.0.0 h.0.1 refl h.0.3

pub returns-clause-never_made : goal.returns-clause-never_made
returns-clause-never_made c = λ v h. one_zero (h.placed 1)

pub returns-clause-told_once_more : goal.returns-clause-told_once_more
returns-clause-told_once_more c = λ w again h. (let once = rw again at h.once in false_true (sym once.0))

pub returns-clause-answered_early : goal.returns-clause-answered_early
returns-clause-answered_early c = λ w is h. (let g : times_standing 0 w.held.asks + how_many (is_number 0) w.handed ≤ (if nat_lt 0 w.held.asks.next then 1 else 0) = h 0 in absurd (omega (arith, rw is at g)))

pub returns-clause-answered_and_owed : goal.returns-clause-answered_and_owed
returns-clause-answered_and_owed c = λ w is h. (let g : times_standing 0 w.held.asks + how_many (is_number 0) w.handed ≤ (if nat_lt 0 w.held.asks.next then 1 else 0) = h 0 in absurd (omega (arith, rw is at g)))
