use Rattle.std.proofs.Common.{rules, refl}
use Rattle.calloop_ends.proofs.cell.ReceivingEnd.unregister.Goals as goal

pub returns-clause-unregisters : goal.returns-clause-unregisters
returns-clause-unregisters g c = (search rules, refl, search rules)

pub returns-then-is_none-clause-unregisters : goal.returns-then-is_none-clause-unregisters
returns-then-is_none-clause-unregisters g c = (search rules, (c.from-cause.result, refl, c.from-cause.ensures), refl, refl)
