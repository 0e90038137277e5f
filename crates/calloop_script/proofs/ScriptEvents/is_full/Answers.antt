use Rattle.calloop_script.proofs.ScriptEvents.is_full.Goals as goal

pub returns : goal.returns
returns c = cc
