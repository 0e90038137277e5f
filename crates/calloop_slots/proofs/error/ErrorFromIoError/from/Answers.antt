use Rattle.std.proofs.Common.{refl}
use Rattle.calloop_slots.proofs.error.ErrorFromIoError.from.Goals as goal

pub returns : goal.returns
returns c = refl
