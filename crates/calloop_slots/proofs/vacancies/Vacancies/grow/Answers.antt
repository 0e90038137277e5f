use Rattle.std.proofs.Common.{sym, ◌∙◌}
use Rattle.calloop_slots.proofs.Covered.{enough-stay, enough-after}
use Rattle.calloop_slots.proofs.vacancies.Vacancies.grow.Goals as goal

pub returns-then-has-clause-ok : goal.returns-then-has-clause-ok
returns-then-has-clause-ok c =
    rw (← c.self.view_is) (sym (enough-stay c.args.slot c.index-self.result c.self.inside.levels c.self.invariant (sym c.has.ensures ∙ c.if-has.true)))

pub invariant_of-self : goal.invariant_of-self
invariant_of-self c = enough-after c.grow.result c.args.slot c.self.inside.levels c.grow.new.levels c.requires c.self.invariant c.grow.ensures.ok c.grow.ensures.err
