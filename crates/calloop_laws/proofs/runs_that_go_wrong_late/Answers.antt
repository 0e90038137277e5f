use Rattle.std.proofs.Common.{◌≡◌, inl, inr, ℕ, Bool, true, false, List, [], ◌∷◌, None, Ok, refl, sym, subst, ap, ◌∙◌, ◌≤◌, arith, length}
use Rattle.logbook.specs.Pages.{Book}
use Rattle.calloop_slots.specs.Widths.{versions}
use Rattle.calloop_slots.specs.declared.list.Content.{Content}
use Rattle.calloop_slots.specs.declared.list.Content.TheVariants.{Vacant, Source, InTurn}
use Rattle.calloop_poll.specs.declared.sys.poll.Pending.{Pending}
use Rattle.calloop_slots.specs.declared.token.RegistrationToken.{RegistrationToken}
use Rattle.calloop_slots.specs.declared.wheel.Entry.{Entry}
use Rattle.calloop_slots.specs.declared.wheel.Instant.{Instant}
use Rattle.calloop_slots.specs.Tokens.{key_of}
use Rattle.calloop_poll.specs.sys.SlotOrder.{IsInSlotOrder}
use Rattle.calloop_laws.specs.ExampleRun.{quiet_poller}
use Rattle.calloop_laws.specs.Laws.{IsLedgerOf}
use Rattle.calloop_loop.specs.Ledgers.{Arming}
use Rattle.calloop_loop.specs.Machine.{View, Put, IsNew, visible, all_viewed}
use Rattle.calloop_loop.specs.Rules.{Doing, Settling, Leaving, Steps, SettledIn}
use Rattle.calloop_laws.specs.Wrong.{first_token, full_slot, given_up}
use Rattle.calloop_laws.specs.WrongRuns.{SmallWorld, SmallChange, IsOutOfTime, idle_world, that_ends, with_ledger, second_arming, second_waits_early, second_is_cut_early, second_call_differs, second_is_called_twice, second_is_twice, second_is_nowhere, with_one_deadline, with_one_event, adapters, idle_never, with_two_adapters, begins, settles, behind_a_settling}
use Rattle.calloop_laws.proofs.runs_that_go_wrong_late.Goals as goal

zero_one : ◌≡◌ {A = ℕ} 0 1 → ⊥
zero_one e = omega arith

one_zero : ◌≡◌ {A = ℕ} 1 0 → ⊥
one_zero e = omega arith

two_one : ◌≡◌ {A = ℕ} 2 1 → ⊥
two_one e = omega arith

false_true : ◌≡◌ {A = Bool} false true → ⊥
false_true e = cc

is_untouched : {D : Type 0} (name : Book) → IsNew (idle_world {D = D} name)
is_untouched name =
    record { slots = refl; table = refl; deadlines = refl; batch = refl; passes = refl; pass = refl; places = refl; unwatched = refl; held = refl; handed = refl; ledger = refl }

out_of_time : (name : Book) (w : SmallWorld) → (IsLedgerOf w.ledger w.poll → ⊥) → IsOutOfTime (that_ends name w)
out_of_time name w wrong = (λ h. wrong (h (is_untouched name) tt), λ h. wrong (h (is_untouched name) tt))

pub returns-clause-wrong_slot : goal.returns-clause-wrong_slot
returns-clause-wrong_slot c = λ name h. one_zero (h.reaches.1.0.0)

pub returns-clause-lost_event : goal.returns-clause-lost_event
returns-clause-lost_event c = λ name h. h.reaches.1.0 (full_slot 0) refl refl (tt, refl)

pub returns-clause-earlier_at_the_end : goal.returns-clause-earlier_at_the_end
returns-clause-earlier_at_the_end c = λ name h.
    elim (h.stale.0.1.0 first_token (full_slot versions) (full_slot 0) (refl, refl) (refl, refl)) [ inl e ↦ absurd (omega (arith, e)) | inr k ↦ absurd (omega (arith, k.1, k.2)) ]

pub returns-clause-earlier_later : goal.returns-clause-earlier_later
returns-clause-earlier_later c = λ name h.
    elim (h.stale.1.0.0 first_token (full_slot versions) (full_slot 0) (refl, refl) (refl, refl)) [ inl e ↦ absurd (omega (arith, e)) | inr k ↦ absurd (omega (arith, k.1, k.2)) ]

pub returns-clause-there_at_the_end : goal.returns-clause-there_at_the_end
returns-clause-there_at_the_end c = λ name h. false_true (h.gone.0.1.0 0 (given_up 0) (full_slot 0) refl refl refl refl)

pub returns-clause-there_later : goal.returns-clause-there_later
returns-clause-there_later c = λ name h. false_true (h.gone.1.0.0 0 (given_up 0) (full_slot 0) refl refl refl refl)

pub returns-clause-waits_early : goal.returns-clause-waits_early
returns-clause-waits_early c = λ name. out_of_time name (with_ledger name second_waits_early) (λ k. absurd (omega (arith, k.batch_on_time.1.0)))

pub returns-clause-cut_early : goal.returns-clause-cut_early
returns-clause-cut_early c = λ name. out_of_time name (with_ledger name second_is_cut_early) (λ k. absurd (omega (arith, k.cut_on_time.1.0)))

pub returns-clause-other_deadline : goal.returns-clause-other_deadline
returns-clause-other_deadline c = λ name. out_of_time name (with_ledger name second_call_differs)
    (λ k.
    let own = k.own.1.0 in
    let same : second_arming ≡ own.0 = (let e = own.1 in cc) in
    let wrong : ◌≡◌ {A = ℕ} 5 7 = ap (λ (a : Arming). a.deadline.nanos) same ∙ ap (λ (i : Instant). i.nanos) own.2 in
    absurd (omega (arith, wrong)))

pub returns-clause-called_twice : goal.returns-clause-called_twice
returns-clause-called_twice c = λ name. out_of_time name (with_ledger name second_is_called_twice) (λ k. absurd (omega (arith, k.once 1)))

pub returns-clause-two_places : goal.returns-clause-two_places
returns-clause-two_places c = λ name. out_of_time name (with_ledger name second_is_twice) (λ k. two_one (k.placed 1))

pub returns-clause-no_place : goal.returns-clause-no_place
returns-clause-no_place c = λ name. out_of_time name (with_ledger name second_is_nowhere) (λ k. zero_one (k.placed 1))

pub returns-clause-no_deadline : goal.returns-clause-no_deadline
returns-clause-no_deadline c = λ name. out_of_time name (with_one_deadline name) (λ k. two_one (ap (λ (l : List Entry). length l) k.entries))

pub returns-clause-no_event : goal.returns-clause-no_event
returns-clause-no_event c = λ name. out_of_time name (with_one_event name) (λ k. two_one (ap (λ (l : List Pending). length l) k.events))

pub returns-clause-elsewhere : goal.returns-clause-elsewhere
returns-clause-elsewhere c = λ name h.
    let own = h (is_untouched name) tt 1 (record { reuse = 0; content = Source (key_of first_token) }) (key_of first_token) refl refl (key_of first_token) refl in
    absurd (omega (arith, own.1, own.2))

pub returns-clause-told_twice : goal.returns-clause-told_twice
returns-clause-told_twice c = λ name h. false_true (sym ((h (is_untouched name)).once.1.0))

pub returns-clause-told_when_gone : goal.returns-clause-told_when_gone
returns-clause-told_when_gone c = λ name h. false_true (sym ((h (is_untouched name)).full (record { slot = 1; version = 0 }) refl))

pub returns-clause-answered_twice : goal.returns-clause-answered_twice
returns-clause-answered_twice c = λ name h. (let g : 2 ≤ 1 = h (is_untouched name) 1 in absurd (omega (arith, g)))

pub returns-clause-asked_twice : goal.returns-clause-asked_twice
returns-clause-asked_twice c = λ name h. (let g : 2 ≤ 1 = h (is_untouched name) 1 in absurd (omega (arith, g)))

pub returns-clause-handed_out_twice : goal.returns-clause-handed_out_twice
returns-clause-handed_out_twice c = λ name h. (let g : 2 ≤ 1 = h (is_untouched name) 1 in absurd (omega (arith, g)))

pub returns-clause-unsorted : goal.returns-clause-unsorted
returns-clause-unsorted c = λ name h. false_true (h (is_untouched name)).sorted.0.0

-- what settles a slot is of that slot's adapter
slot_settled : (token : RegistrationToken) (content : Content (Unit {0})) (v : View (Unit {0}) (Unit {0}) (Unit {0})) (n : ℕ) (cs : List SmallChange) → SettledIn adapters token content v (Put n InTurn ∷ cs) → token.slot ≡ n
slot_settled token Vacant v n cs h = absurd (cc)
slot_settled token InTurn v n cs h = absurd (cc)
slot_settled token (Source d) v n cs (inl h) = (let e = h.3 in cc)
slot_settled token (Source d) v n cs (inr h) = (let e = h.1.6 in cc)

backwards : (marked : List RegistrationToken) (v : View (Unit {0}) (Unit {0}) (Unit {0})) (css : List (List SmallChange)) (b : Doing (Unit {0}) (Unit {0})) → IsInSlotOrder marked → Steps adapters idle_never quiet_poller v (Settling None marked tt) (settles 1 ∷ settles 0 ∷ css) b → ⊥
backwards [] v css b order h = (let e = h.1.0 in cc)
backwards (t ∷ []) v css b order h =
    let rest = subst (λ (d : Doing (Unit {0}) (Unit {0})). Steps adapters idle_never quiet_poller (all_viewed v (settles 1)) d (settles 0 ∷ css) b) h.1.1 h.3 in
    (let e = rest.1.0 in cc)
backwards (t ∷ u ∷ later) v css b order h =
    let rest = subst (λ (d : Doing (Unit {0}) (Unit {0})). Steps adapters idle_never quiet_poller (all_viewed v (settles 1)) d (settles 0 ∷ css) b) h.1.1 h.3 in
    let one = slot_settled t _ v 1 _ h.1.0 in
    let zero = slot_settled u _ (all_viewed v (settles 1)) 0 _ rest.1.0 in
    let le : t.slot ≤ u.slot = order 0 t u refl refl in
    absurd (omega (arith, one, zero, le))

pub returns-clause-settled_backwards : goal.returns-clause-settled_backwards
returns-clause-settled_backwards c = λ name h.
    elim h.0 [
      | inl g ↦ (let e = g.2 in cc)
      | inr s ↦ (let begun = s.1 in
          let after : View (Unit {0}) (Unit {0}) (Unit {0}) = all_viewed (visible (with_two_adapters name)) (begins name 1 0) in
          let css : List (List SmallChange) = settles 1 ∷ settles 0 ∷ behind_a_settling name 1 0 in
          backwards begun.1 after (behind_a_settling name 1 0) (Leaving (Ok tt) tt) begun.3.order
          (subst (λ (d : Doing (Unit {0}) (Unit {0})). Steps adapters idle_never quiet_poller after d css (Leaving (Ok tt) tt)) begun.5 s.3))
    ]
