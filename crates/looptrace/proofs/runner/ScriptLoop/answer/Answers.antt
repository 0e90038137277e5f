use Rattle.std.proofs.Common.{rules, refl}
use Rattle.looptrace.proofs.runner.ScriptLoop.answer.Goals as goal

pub returns-clause-ok : goal.returns-clause-ok
returns-clause-ok g c = (search rules, search rules, refl)
