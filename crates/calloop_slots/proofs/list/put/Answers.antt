use Rattle.std.proofs.Common.{◌∙◌, ap}
use Rattle.calloop_slots.specs.Slots.{with_content}
use Rattle.calloop_slots.proofs.Indexed.{changed-set, get_some}
use Rattle.calloop_slots.proofs.list.put.Goals as goal

pub returns-clause-items : goal.returns-clause-items
returns-clause-items g c = rw c.replace.ensures.after (changed-set (with_content c.args.content) _ _ c.index_mut-slot.result.now c.index_mut-slot.ensures.value c.requires)

pub returns-clause-value : goal.returns-clause-value
returns-clause-value g c s e = c.replace.ensures.value ∙ ap (λ x. x.content) (c.index_mut-slot.ensures.value ∙ get_some c.args.slots.now.items c.args.place s c.index_mut-slot.result.now e)
