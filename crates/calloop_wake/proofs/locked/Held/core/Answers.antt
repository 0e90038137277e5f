use Rattle.calloop_wake.proofs.Locking.{is_out}
use Rattle.calloop_wake.proofs.locked.Held.core.Goals as goal

pub slot_mut-requires : goal.slot_mut-requires
slot_mut-requires g c = (c.requires.0, is_out _ c.requires.1)
