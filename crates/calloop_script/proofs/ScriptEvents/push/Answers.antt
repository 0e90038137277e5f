use Rattle.std.proofs.Common.{arith}
use Rattle.calloop_script.proofs.ScriptEvents.push.Goals as goal

pub invariant_of-self : goal.invariant_of-self
invariant_of-self c = record { few = omega arith }
