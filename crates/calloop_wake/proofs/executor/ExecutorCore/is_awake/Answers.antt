use Rattle.std.proofs.Common.{rules}
use Rattle.calloop_wake.specs.Executors.{cell_of}
use Rattle.calloop_wake.proofs.ExecutorSteps.{awake}
use Rattle.calloop_wake.proofs.executor.ExecutorCore.is_awake.Goals as goal

pub returns-in-Some-clause-hint : goal.returns-in-Some-clause-hint
returns-in-Some-clause-hint c due = awake c.args.key (cell_of c.args.self.now) (search rules) (search rules)
