use Rattle.calloop_poll.proofs.Index.{index-doubt}
use Rattle.calloop_poll.proofs.sys.poll.socket_table.SocketTable.doubt.Goals as goal

pub invariant_of-self : goal.invariant_of-self
invariant_of-self c = rw (c.put.ensures, c.slot_of_key-slot.ensures) (index-doubt c.args.key c.self.inside.by_slot.items c.self.inside.by_key.entries c.self.invariant)
