use Rattle.std.proofs.Common.{◌≡◌, None, [], refl, sym}
use Rattle.calloop_ends.specs.declared.stream.reading.Ending.TheVariants.{AtPending}
use Rattle.calloop_ends.proofs.stream.StreamSource.listen.Goals as goal

pub returns-then-not-rung-clause-reads : goal.returns-then-not-rung-clause-reads
returns-then-not-rung-clause-reads g c = rw c.if-not-rung.true ([], AtPending, [], (refl, refl, refl), (refl, refl, refl))

pub returns-in_default-clause-reads : goal.returns-in_default-clause-reads
returns-in_default-clause-reads g c =
    let none : c.self.inside.stream ≡ None = sym c.in_default.ensures.value in
    let after : c.take.new.self ≡ None = c.in_default.ensures.after in
    rw (sym c.self.view_is, none, after, c.if-not-rung.false) ([], AtPending, [], (refl, refl, refl), (refl, refl, refl))
