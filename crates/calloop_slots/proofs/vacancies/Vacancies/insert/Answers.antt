use Rattle.calloop_slots.proofs.Levels.{HasBits-same}
use Rattle.calloop_slots.proofs.Covered.{enough-same}
use Rattle.calloop_slots.proofs.vacancies.Vacancies.insert.Goals as goal

pub invariant_of-self : goal.invariant_of-self
invariant_of-self c = enough-same c.self.inside.levels c.mark.new.levels c.mark.ensures.len c.self.invariant

pub returns-clause-levels : goal.returns-clause-levels
returns-clause-levels c = rw (← c.self.view_is) c.mark.ensures.levels

pub returns-clause-bits : goal.returns-clause-bits
returns-clause-bits c = rw (← c.self.view_is) (HasBits-same c.self.inside.levels c.mark.new.levels c.mark.ensures.len)
