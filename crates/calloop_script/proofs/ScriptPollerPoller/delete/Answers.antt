use Rattle.std.proofs.Common.{rules}
use Rattle.calloop_script.proofs.ScriptPollerPoller.delete.Goals as goal

pub returns-clause-sockets : goal.returns-clause-sockets
returns-clause-sockets c = search rules
