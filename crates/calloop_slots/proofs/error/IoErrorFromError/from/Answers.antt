use Rattle.calloop_slots.proofs.error.IoErrorFromError.from.Goals as goal

pub returns-in-InvalidToken : goal.returns-in-InvalidToken
returns-in-InvalidToken c = rw c.in-InvalidToken.is c.new.ensures.kind
