use Rattle.calloop_poll.proofs.sys.poll.Poll.is_armed.Goals as goal

pub returns : goal.returns
returns g c = c.is_armed.ensures
