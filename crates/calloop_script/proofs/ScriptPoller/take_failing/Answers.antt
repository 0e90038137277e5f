use Rattle.calloop_script.proofs.ScriptPoller.take_failing.Goals as goal

pub returns-clause-poller : goal.returns-clause-poller
returns-clause-poller c = cc
