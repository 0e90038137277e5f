use Rattle.calloop_poll.proofs.Index.{index-without}
use Rattle.calloop_poll.proofs.sys.poll.socket_table.SocketTable.remove.Goals as goal

pub invariant_of-self : goal.invariant_of-self
invariant_of-self c = rw (c.remove.ensures.entries, c.put.ensures, c.slot_of_key.ensures) (index-without c.args.key c.self.inside.by_slot.items c.self.inside.by_key.entries c.self.invariant)
