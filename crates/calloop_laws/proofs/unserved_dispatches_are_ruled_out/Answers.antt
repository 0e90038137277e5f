use Rattle.std.proofs.Common.{◌≡◌, ◌<◌, ℕ, zero, suc, List, [], ◌∷◌, None, inl, inr, subst, refl, sym, ap, ◌∙◌, arith, length}
use Rattle.logbook.specs.Pages.{Book}
use Rattle.calloop_poll.specs.declared.sys.poll.Pending.{Pending}
use Rattle.calloop_slots.specs.Deadlines.{IsOrdered, entry_of}
use Rattle.calloop_loop.specs.Machine.{Holds, Appended, Cut, Ended}
use Rattle.calloop_laws.specs.Served.{events_cut}
use Rattle.std.specs.List.{Contains, slice_index_or}
use Rattle.calloop_loop.specs.declared.asks.Idling.{Idling as Waiter}
use Rattle.calloop_loop.specs.Held.{IdlesTaken}
use Rattle.calloop_laws.specs.Wrong.{first_token}
use Rattle.calloop_laws.specs.Unserved.{one_idle, later_idle, SmallView, event_for, that_waits, armed_for, two_overdue}
use Rattle.calloop_laws.proofs.unserved_dispatches_are_ruled_out.Goals as goal

one_two : ◌≡◌ {A = ℕ} 1 2 → ⊥
one_two e = omega arith

one_zero : ◌≡◌ {A = ℕ} 1 0 → ⊥
one_zero e = omega arith

three_two : ◌≡◌ {A = ℕ} 3 2 → ⊥
three_two e = omega arith

sorted : (name : Book) → IsOrdered (that_waits name [] (armed_for 5 7) []).poll.deadlines
sorted name = record { sorted = ((refl, (λ e. absurd (omega (arith, e))), tt), (tt, tt)); below = (omega arith, (omega arith, tt)) }

pub returns-clause-there_is : goal.returns-clause-there_is
returns-clause-there_is c = λ name. ((refl, refl, (refl, refl, refl, refl, refl), (refl, refl, refl, refl)), refl)

pub returns-clause-one_left : goal.returns-clause-one_left
returns-clause-one_left c = λ name a is. (
  (λ left. one_zero (ap (λ (es : List Pending). length es) (ap (λ (v : SmallView). v.poll.batch) (sym is.1) ∙ left))),
  (λ all.
      let u = ap (λ (v : SmallView). events_cut v (Cut None ∷ Ended ∷ Holds IdlesTaken ∷ [])) is.2.2 in
      let b = ap (λ (v : SmallView). v.poll.batch) is.2.2 in
      one_two (ap (λ (es : List Pending). length es) (sym (is.2.3 ∙ u) ∙ all ∙ b))),
)

pub returns-clause-one_more : goal.returns-clause-one_more
returns-clause-one_more c = λ name a is all.
    let u = ap (λ (v : SmallView). events_cut v (Appended (event_for 2) ∷ Cut None ∷ Cut None ∷ Cut None ∷ Ended ∷ Holds IdlesTaken ∷ [])) is.2.2 in
    let b = ap (λ (v : SmallView). v.poll.batch) is.2.2 in
    three_two (ap (λ (es : List Pending). length es) (sym (is.2.3 ∙ u) ∙ all ∙ b))

pub returns-clause-cut_before : goal.returns-clause-cut_before
returns-clause-cut_before c = λ name a is. is.2

pub returns-clause-not_gathered : goal.returns-clause-not_gathered
returns-clause-not_gathered c = λ name a is. is.2

pub returns-clause-gathered_twice : goal.returns-clause-gathered_twice
returns-clause-gathered_twice c = λ name a is. one_zero is.2.4

abbrev first_slot : List Pending → ℕ
first_slot [] = 0
first_slot (e ∷ es) = e.token.slot

pub returns-clause-other_order : goal.returns-clause-other_order
returns-clause-other_order c = λ name. (
  (λ is. one_zero (ap first_slot is.2.3)),
  (λ all. one_zero (ap first_slot all)),
)

pub returns-clause-first_late : goal.returns-clause-first_late
returns-clause-first_late c = λ name h. (let k = (h (sorted name)).0 in absurd (omega (arith, k)))

pub returns-clause-second_late : goal.returns-clause-second_late
returns-clause-second_late c = λ name h. (let k = (h (sorted name)).1.0 in absurd (omega (arith, k)))

pub returns-clause-due_not_cut : goal.returns-clause-due_not_cut
returns-clause-due_not_cut c = λ name h. (let k = h (sorted name) (entry_of 0 (record { nanos = 5 }) first_token) (0, omega arith, refl) (omega arith) in absurd (omega (arith, k.1)))

pub returns-clause-no_round : goal.returns-clause-no_round
returns-clause-no_round c = λ name a is. is.3

pub returns-clause-idle_left : goal.returns-clause-idle_left
returns-clause-idle_left c = λ name a is ran.
    let there : Contains a.round one_idle = subst (λ (l : List (Waiter (Unit {0}))). Contains l one_idle) (sym is.3.0) (0, omega arith, refl) in
    elim (ran one_idle there) [
      | inl k ↦ (let n = subst (λ (l : List (Waiter (Unit {0}))). Contains l one_idle) is.3.1 k in absurd (omega (arith, n.1)))
      | inr k ↦ (let n = subst (λ (l : List ℕ). Contains l 0) is.3.2 k in absurd (omega (arith, n.1)))
    ]

-- in a list of one thing there is no other
only_at : {A : Type 0} (x y : A) (k : ℕ) → k < 1 → slice_index_or (x ∷ []) k y ≡ y → x ≡ y
only_at x y zero below is = is
only_at x y (suc k) below is = absurd (omega (arith, below))

only_one : {A : Type 0} (x y : A) → Contains (x ∷ []) y → x ≡ y
only_one x y h = only_at x y h.0 h.1 h.2

pub returns-clause-later_idle_left : goal.returns-clause-later_idle_left
returns-clause-later_idle_left c = λ name a is ran.
    let there : Contains a.round later_idle = subst (λ (l : List (Waiter (Unit {0}))). Contains l later_idle) (sym is.3.0) (1, omega arith, refl) in
    elim (ran later_idle there) [
      | inl k ↦ (let n : one_idle ≡ later_idle = only_one one_idle later_idle (subst (λ (l : List (Waiter (Unit {0}))). Contains l later_idle) is.3.1 k) in
          one_zero (sym (ap (λ (i : Waiter (Unit {0})). i.ticket) n)))
      | inr k ↦ (let n = subst (λ (l : List ℕ). Contains l 1) is.3.2 k in absurd (omega (arith, n.1)))
    ]

overdue_sorted : (name : Book) → IsOrdered (that_waits name [] two_overdue []).poll.deadlines
overdue_sorted name = record { sorted = ((refl, (λ e. absurd (omega (arith, e))), tt), (tt, tt)); below = (omega arith, (omega arith, tt)) }

pub returns-clause-overdue_not_cut : goal.returns-clause-overdue_not_cut
returns-clause-overdue_not_cut c = λ name h.
    let k = h (overdue_sorted name) (entry_of 1 (record { nanos = 4 }) (event_for 1).token) (1, omega arith, refl) (omega arith) in
    one_zero (sym (ap (λ (e : Pending). e.token.slot) (only_one (event_for 0) (event_for 1) k)))
