use Rattle.std.proofs.Common.{rules, refl}
use Rattle.calloop.proofs.timeout.TimeoutFuture.has_come.Goals as goal

pub returns-in-Some : goal.returns-in-Some
returns-in-Some g c = rw c.in-Some.is (c.now.result.nanos, c.now.ensures, search rules)

pub returns-in-None : goal.returns-in-None
returns-in-None g c = rw c.in-None.is refl
