use Rattle.std.proofs.Common.{rules}
use Rattle.calloop_poll.proofs.Index.{index-tells}
use Rattle.calloop_poll.proofs.sys.poll.socket_table.SocketTable.get.Goals as goal

pub returns-in-Some-Some : goal.returns-in-Some-Some
returns-in-Some-Some c = search (rules, index-tells c.self.inside.by_slot.items c.self.inside.by_key.entries c.self.invariant c.args.key c.in-Some-Some.indexed)
