use Rattle.calloop_script.proofs.ScriptPoller.calls.Goals as goal

pub returns : goal.returns
returns c = cc
