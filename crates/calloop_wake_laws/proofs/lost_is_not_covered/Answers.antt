use Rattle.std.proofs.Common.{◌≡◌, ◌<◌, ◌≤◌, ℕ, List, [], ◌∷◌, length, inl, inr, Bool, true, false, refl, ap, arith}
use Rattle.std.proofs.lemmas.Option.{none-some}
use Rattle.calloop_wake_laws.proofs.lost_is_not_covered.Goals as goal

not_true : ◌≡◌ {A = Bool} false true → ⊥
not_true e = cc

none_less : 0 < 0 → ⊥
none_less h = omega arith

pub returns-clause-ring : goal.returns-clause-ring
returns-clause-ring c = λ h. not_true (h.standing 0 refl)

pub returns-clause-close : goal.returns-clause-close
returns-clause-close c = λ h. not_true (h.standing 0 refl)

pub returns-clause-key : goal.returns-clause-key
returns-clause-key c = λ h. elim (h.pinged 0 7 refl refl) [ inl e ↦ not_true e | inr f ↦ elim f [ inl d ↦ none_less d | inr p ↦ none_less p ] ]

pub returns-clause-sleeper : goal.returns-clause-sleeper
returns-clause-sleeper c = λ h. elim (h.told 7 (λ e. cc) refl) [ inl n ↦ none_less n | inr s ↦ not_true s ]

pub returns-clause-sleeper_in_its_wait : goal.returns-clause-sleeper_in_its_wait
returns-clause-sleeper_in_its_wait c = λ h. elim (h.told 7 (λ e. cc) refl) [ inl n ↦ none_less n | inr s ↦ not_true s ]

pub returns-clause-open : goal.returns-clause-open
returns-clause-open c = λ h. not_true ((h.standing 0).sound.told refl)

pub returns-clause-bound : goal.returns-clause-bound
returns-clause-bound c = λ h. let e : 2 ≤ 1 = (h.standing 0).sound.room in omega (arith, e)

pub returns-clause-pops : goal.returns-clause-pops
returns-clause-pops c = λ h. let e : 3 ≤ 2 = (h.standing 0).bounded in omega (arith, e)

pub returns-clause-woken : goal.returns-clause-woken
returns-clause-woken c = λ h. not_true ((h.standing 0).standing.woken 3 _ refl refl)

pub returns-clause-polled : goal.returns-clause-polled
returns-clause-polled c = λ h. none-some (record { slot = 3; number = 0 }) ((h.standing 0).standing.sorted.polled 3 _ refl refl)

pub returns-clause-number : goal.returns-clause-number
returns-clause-number c = λ h. (let e : ◌≡◌ {A = ℕ} 3 4 = (h.standing 0).standing.sorted.numbered.apart 3 4 _ _ refl refl refl in omega (arith, e))

pub returns-clause-next_number : goal.returns-clause-next_number
returns-clause-next_number c = λ h. none_less ((h.standing 0).standing.sorted.numbered.below 3 _ refl)

-- the first of a list, or 0
abbrev first_of : List ℕ → ℕ
first_of [] = 0
first_of (x ∷ xs) = x

pub returns-clause-message : goal.returns-clause-message
returns-clause-message c = λ h. not_true ((h.standing 0).standing.queue (omega arith))

pub returns-clause-lost : goal.returns-clause-lost
returns-clause-lost c = λ h. let e : ◌≡◌ {A = ℕ} 1 0 = ap length (h.standing 0).in_order in omega (arith, e)

pub returns-clause-order : goal.returns-clause-order
returns-clause-order c = λ h. let e : ◌≡◌ {A = ℕ} 5 6 = ap first_of (h.standing 0).in_order in omega (arith, e)

pub returns-clause-twice : goal.returns-clause-twice
returns-clause-twice c = λ h. let e : 2 ≤ 1 = (h.standing 0).once in omega (arith, e)

pub returns-clause-early : goal.returns-clause-early
returns-clause-early c = λ h. let e : ◌≡◌ {A = ℕ} 1 0 = (h.standing 0).of_empty.1 in omega (arith, e)

pub returns-clause-task : goal.returns-clause-task
returns-clause-task c = λ h. not_true ((h.standing 0).standing.queued refl)

pub returns-clause-queued : goal.returns-clause-queued
returns-clause-queued c = λ h. (h.standing 0).standing.sorted.queued.once.0 (inl refl)

pub returns-clause-finished : goal.returns-clause-finished
returns-clause-finished c = λ h. let t = (h.standing 0).standing.sorted.queued.only 3 (inl refl) in none-some t.0 t.1

pub returns-clause-result : goal.returns-clause-result
returns-clause-result c = λ h. (h.standing 0).once.0 (inl refl)

pub returns-clause-running : goal.returns-clause-running
returns-clause-running c = λ h. (h.standing 0).finished 3 _ refl (inl refl)

pub returns-clause-second_ring : goal.returns-clause-second_ring
returns-clause-second_ring c = λ h. not_true (h.standing 1 refl)

pub returns-clause-second_key : goal.returns-clause-second_key
returns-clause-second_key c = λ h. elim (h.pinged 1 9 refl refl) [ inl e ↦ not_true e | inr f ↦ elim f [ inl d ↦ none_less d | inr p ↦ none_less p ] ]

pub returns-clause-sleeper_beside : goal.returns-clause-sleeper_beside
returns-clause-sleeper_beside c = λ h. elim (h.told 9 (λ e. cc) refl) [ inl n ↦ none_less n | inr s ↦ not_true s ]

pub returns-clause-before_it_came : goal.returns-clause-before_it_came
returns-clause-before_it_came c = λ h. not_true (h.standing 0).of_empty.0
