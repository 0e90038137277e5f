use Rattle.std.proofs.Common.{◌≡◌, true, refl, sym, ◌∙◌, ap}
use Rattle.calloop_slots.specs.Slots.{content_at, is_in_turn, with_change, with_content}
use Rattle.calloop_slots.specs.declared.list.Content.TheVariants.{Source}
use Rattle.calloop_slots.proofs.Named.{turn_filled}
use Rattle.calloop_slots.proofs.Told.{told-kept}
use Rattle.calloop_slots.proofs.list.SourceList.end_turn.Goals as goal

pub invariant_of-self : goal.invariant_of-self
invariant_of-self g c =
    let xs = c.self.inside.slots.items in
    let h : is_in_turn (content_at xs c.args.token) ≡ true = sym (ap (λ ys. is_in_turn (content_at ys c.args.token)) c.deref.ensures.value) ∙ sym c.is_in_turn.ensures ∙ c.if-not-is_in_turn.false in
    rw (c.put-taken_out.ensures.items ∙ ap (λ i. with_change (with_content (Source c.args.source)) xs i) c.slot.ensures)
    (told-kept xs c.self.inside.vacancies (Source c.args.source) c.args.token c.self.invariant (turn_filled (content_at xs c.args.token) h) refl)
