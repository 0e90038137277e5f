use Rattle.std.proofs.Common.{rules}
use Rattle.calloop_wake.proofs.Locking.{takes_out}
use Rattle.calloop_wake.proofs.locked.take.Goals as goal

pub swap_new_seat-found-requires : goal.swap_new_seat-found-requires
swap_new_seat-found-requires g c = (search rules, takes_out _ _ _ c.args.shared.now.key)
