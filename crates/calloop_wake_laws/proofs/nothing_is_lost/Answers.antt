use Rattle.calloop_wake_laws.proofs.nothing_is_lost.Goals as goal
use Rattle.calloop_wake_laws.proofs.BothLawful.{covered-cells}

pub returns : goal.returns
returns c = covered-cells
