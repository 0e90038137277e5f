use Rattle.std.proofs.Common.{Some, None}
use Rattle.calloop_wake.proofs.BySlot.{changes-from, opened_slot, opened_map}
use Rattle.calloop_wake.proofs.places.Places.open.Goals as goal

pub returns-then-is_free-clause-ok : goal.returns-then-is_free-clause-ok
returns-then-is_free-clause-ok c =
    let o = opened_slot c.args.key c.self.inside.by_slot.items c.self.inside.by_key.entries c.args.self.now c.self.invariant c.self.view_is c.insert.new.self.entries c.insert.ensures.was_ordered c.reach.new.by_slot.items c.put.new.by_slot.items c.reach.ensures (c.is_free.ensures.free c.if-is_free.true) c.put.ensures c.in-Ok-insert.ensures.entries
    (changes-from c.args.key (Some None) c.self.inside.by_key.entries c.insert.new.self.entries c.in-Ok-insert.ensures.updates.0) in
    (o.0, o.1)

pub returns-else-is_free-clause-ok : goal.returns-else-is_free-clause-ok
returns-else-is_free-clause-ok c =
    let o = opened_map c.args.key c.self.inside.by_slot.items c.self.inside.by_key.entries c.args.self.now c.self.invariant c.self.view_is c.insert.new.self.entries c.insert.ensures.was_ordered c.reach.new.by_slot.items c.reach.ensures (c.is_free.ensures.taken c.if-is_free.false) c.in-Ok-insert.ensures.entries
    (changes-from c.args.key (Some None) c.self.inside.by_key.entries c.insert.new.self.entries c.in-Ok-insert.ensures.updates.0) in
    (o.0, o.1)
