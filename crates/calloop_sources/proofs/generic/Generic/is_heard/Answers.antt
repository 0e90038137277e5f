use Rattle.std.proofs.Common.{refl}
use Rattle.calloop_sources.proofs.generic.Generic.is_heard.Goals as goal

pub returns-in-OneShot : goal.returns-in-OneShot
returns-in-OneShot g c = rw c.in-OneShot.is refl
