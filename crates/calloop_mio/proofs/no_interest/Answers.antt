use Rattle.calloop_mio.proofs.no_interest.Goals as goal

pub returns : goal.returns
returns c = cc
