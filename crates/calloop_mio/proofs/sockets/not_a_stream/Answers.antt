use Rattle.calloop_mio.proofs.sockets.not_a_stream.Goals as goal

pub returns : goal.returns
returns c = cc
