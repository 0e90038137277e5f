use Rattle.std.proofs.Common.{arith}
use Rattle.calloop_script.proofs.ScriptPoller.fault.Goals as goal

pub returns-clause-faults : goal.returns-clause-faults
returns-clause-faults g c = omega arith
