use Rattle.std.proofs.Common.{◌∙◌}
use Rattle.calloop_slots.proofs.Levels.{HasBits-same, takes-first, takes-levels, none_vacant}
use Rattle.calloop_slots.proofs.Covered.{enough-same}
use Rattle.calloop_slots.proofs.vacancies.Vacancies.take_first.Goals as goal

pub invariant_of-self-2 : goal.invariant_of-self-2
invariant_of-self-2 c = enough-same c.self.inside.levels c.take.new.levels c.take.ensures.len c.self.invariant

pub returns-clause-bits : goal.returns-clause-bits
returns-clause-bits c = rw (← c.self.view_is) (HasBits-same c.self.inside.levels c.take.new.levels c.take.ensures.len)

pub returns-clause-first : goal.returns-clause-first
returns-clause-first c =
    rw (← c.self.view_is) (λ vacant are. takes-first vacant c.in-Some.taken c.self.inside.levels c.take.new.levels c.self.invariant (c.in-Some.ensures.some vacant are))

pub returns-clause-levels : goal.returns-clause-levels
returns-clause-levels c =
    rw (← c.self.view_is) (λ vacant are. takes-levels vacant c.in-Some.taken c.self.inside.levels c.take.new.levels c.self.invariant (c.in-Some.ensures.some vacant are))

pub returns-in_default-clause-none : goal.returns-in_default-clause-none
returns-in_default-clause-none c =
    (c.in_default.ensures.none.0 ∙ c.self.view_is, rw (← c.self.view_is) (λ vacant are. none_vacant vacant c.self.inside.levels c.self.invariant (c.in_default.ensures.none.1 vacant are) are))
