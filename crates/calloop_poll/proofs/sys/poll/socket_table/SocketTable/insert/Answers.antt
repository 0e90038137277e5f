use Rattle.std.proofs.Common.{sym, ◌∙◌}
use Rattle.calloop_slots.specs.Tokens.{slot_of_key}
use Rattle.calloop_poll.proofs.Index.{index-with}
use Rattle.calloop_poll.proofs.sys.poll.socket_table.SocketTable.insert.Goals as goal

pub invariant_of-self-2 : goal.invariant_of-self-2
invariant_of-self-2 c =
    rw (c.in_ok-insert.ensures.entries, c.put.ensures, c.slot_of_key-slot.ensures)
    (index-with c.args.key c.args.watched c.reach.new.by_slot.items c.self.inside.by_key.entries (λ key watched at. c.self.invariant key watched (sym (c.in_ok-reach.ensures.same (slot_of_key key)) ∙ at)))
