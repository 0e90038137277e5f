use Rattle.looptrace.proofs.runner.ScriptLoop.carry_out.Goals as goal

pub returns-in-Timer-clause-ok : goal.returns-in-Timer-clause-ok
returns-in-Timer-clause-ok g c = rw c.in-Timer.is c.timer.ensures.ok
