use Rattle.std.proofs.Common.{refl}
use Rattle.looptrace.proofs.runner.next_answer.Goals as goal

pub returns : goal.returns
returns c = rw (c.if-fault.false, c.in-Some.is) (c.in_ok-events.events, c.in_ok-events.ensures.cases, refl)
