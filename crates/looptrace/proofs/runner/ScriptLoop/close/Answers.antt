use Rattle.std.proofs.Common.{rules, refl}
use Rattle.looptrace.proofs.runner.ScriptLoop.close.Goals as goal

pub returns : goal.returns
returns g c = (search rules, rw c.close.ensures refl, refl)
