use Rattle.std.proofs.Common.{rules}
use Rattle.calloop_poll.proofs.Editing.{entered_again}
use Rattle.calloop_poll.proofs.Index.{index-tells}
use Rattle.calloop_poll.proofs.sys.poll.socket_table.SocketTable.has.Goals as goal

pub returns-then-indexed-key-clause-there : goal.returns-then-indexed-key-clause-there
returns-then-indexed-key-clause-there c = search (rules, index-tells c.self.inside.by_slot.items c.self.inside.by_key.entries c.self.invariant c.args.key c.in-Some-Some.indexed)

pub returns-then-indexed-key-clause-same : goal.returns-then-indexed-key-clause-same
returns-then-indexed-key-clause-same c = search (rules, entered_again c.args.key c.args.watched c.self.inside.by_key.entries c.len.ensures.ordered, returns-then-indexed-key-clause-there c)
