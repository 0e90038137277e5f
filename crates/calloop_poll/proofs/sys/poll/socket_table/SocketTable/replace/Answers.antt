use Rattle.std.proofs.Common.{rules}
use Rattle.calloop_poll.proofs.Editing.{entered_again}
use Rattle.calloop_poll.proofs.Index.{index-with}
use Rattle.calloop_poll.proofs.sys.poll.socket_table.SocketTable.replace.Goals as goal

pub returns-then-eq : goal.returns-then-eq
returns-then-eq c = search (rules, entered_again c.args.key c.args.watched c.self.inside.by_key.entries c.len.ensures.ordered)

pub invariant_of-self : goal.invariant_of-self
invariant_of-self c = rw (c.in-Ok.ensures.entries, c.put.ensures, c.slot_of_key.ensures) (index-with c.args.key c.args.watched c.self.inside.by_slot.items c.self.inside.by_key.entries c.self.invariant)
