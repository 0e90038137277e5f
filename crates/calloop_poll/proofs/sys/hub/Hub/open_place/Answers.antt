use Rattle.std.proofs.Common.{refl, inl}
use Rattle.calloop_poll.proofs.sys.hub.Hub.open_place.Goals as goal

pub returns-in-Err-AlreadyExists-clause-err : goal.returns-in-Err-AlreadyExists-clause-err
returns-in-Err-AlreadyExists-clause-err g c = inl (_, refl, c.from.ensures)
