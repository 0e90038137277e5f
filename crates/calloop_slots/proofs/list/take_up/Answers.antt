use Rattle.std.proofs.Common.{◌∙◌}
use Rattle.calloop_slots.proofs.Vacancy.{reused}
use Rattle.calloop_slots.proofs.list.take_up.Goals as goal

pub returns-clause-value : goal.returns-clause-value
returns-clause-value g c =
    c.new.ensures ∙ (reused c.args.slots.now.items c.args.place c.index_mut-slot.result.now c.requires.first c.requires.within.0 c.index_mut-slot.ensures.value).0

pub returns-clause-slots : goal.returns-clause-slots
returns-clause-slots g c = (reused c.args.slots.now.items c.args.place c.index_mut-slot.result.now c.requires.first c.requires.within.0 c.index_mut-slot.ensures.value).1
