use Rattle.std.proofs.Common.{ap, length}
use Rattle.calloop_wake.proofs.ghosts.Count.zero.Goals as goal

pub returns : goal.returns
returns c = ap (λ l. length l) c.open-seen.ensures.1
