use Rattle.std.proofs.Common.{rules}
use Rattle.calloop.proofs.timeout.TimeoutFuture.from_duration.Goals as goal

pub returns-in_err-future-in-None-clause-made : goal.returns-in_err-future-in-None-clause-made
returns-in_err-future-in-None-clause-made g c = (c.now.result, search rules, search rules)

pub returns-in-Some-clause-made : goal.returns-in-Some-clause-made
returns-in-Some-clause-made g c = (c.now.result, search rules, search rules)

pub returns-in_ok-future-in-None-clause-made : goal.returns-in_ok-future-in-None-clause-made
returns-in_ok-future-in-None-clause-made g c = (c.now.result, search rules, search rules)
