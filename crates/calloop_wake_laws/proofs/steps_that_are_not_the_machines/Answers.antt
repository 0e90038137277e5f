use Rattle.std.proofs.Common.{◌≡◌, ℕ, Bool, true, false, ap, arith}
use Rattle.calloop_wake_laws.proofs.steps_that_are_not_the_machines.Goals as goal

not_false : ◌≡◌ {A = Bool} true false → ⊥
not_false e = cc

not_none : ◌≡◌ {A = ℕ} 1 0 → ⊥
not_none e = omega arith

not_one : ◌≡◌ {A = ℕ} 0 1 → ⊥
not_one e = omega arith

pub returns-clause-other_cell : goal.returns-clause-other_cell
returns-clause-other_cell c = λ e. not_false (ap (λ w. (w.cells 0).rung) e)

pub returns-clause-no_debt : goal.returns-clause-no_debt
returns-clause-no_debt c = λ e. not_none (ap (λ w. w.debts 7) e)

pub returns-clause-no_permit : goal.returns-clause-no_permit
returns-clause-no_permit c = λ e. not_none (ap (λ w. w.permits 7) e)

pub returns-clause-place_stays : goal.returns-clause-place_stays
returns-clause-place_stays c = λ e. not_one (ap (λ w. w.opened 9) e)
