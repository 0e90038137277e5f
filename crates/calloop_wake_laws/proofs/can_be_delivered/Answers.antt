use Rattle.calloop_wake_laws.proofs.can_be_delivered.Goals as goal
use Rattle.calloop_wake_laws.proofs.Delivered.{delivered-cells}

pub returns : goal.returns
returns c = delivered-cells
