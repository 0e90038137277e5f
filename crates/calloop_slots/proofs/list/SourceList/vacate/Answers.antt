use Rattle.std.proofs.Common.{◌≡◌, true, sym, ◌∙◌, ap, subst}
use Rattle.calloop_slots.specs.Slots.{content_at, is_in_turn, with_change, with_content}
use Rattle.calloop_slots.specs.Vacancies.{with_slot, is_vacant_in, AreLevels}
use Rattle.calloop_slots.specs.declared.list.Content.TheVariants.{Vacant}
use Rattle.calloop_slots.proofs.Named.{turn_filled}
use Rattle.calloop_slots.proofs.Told.{told-vacated}
use Rattle.calloop_slots.proofs.list.SourceList.vacate.Goals as goal

pub invariant_of-self : goal.invariant_of-self
invariant_of-self g c =
    let xs = c.self.inside.slots.items in
    let h : is_in_turn (content_at xs c.args.token) ≡ true = sym (ap (λ ys. is_in_turn (content_at ys c.args.token)) c.deref.ensures.value) ∙ sym c.is_in_turn.ensures ∙ c.if-not-is_in_turn.false in
    rw (c.put-taken_out.ensures.items ∙ ap (λ i. with_change (with_content Vacant) xs i) c.slot-place.ensures)
    (told-vacated xs c.self.inside.vacancies c.insert.new.self c.args.token c.self.invariant (turn_filled (content_at xs c.args.token) h) c.insert.ensures.bits
    (subst (λ k. AreLevels (with_slot k true (is_vacant_in xs)) c.insert.new.self) c.slot-place.ensures (c.insert.ensures.levels (is_vacant_in xs) c.self.invariant.told)))
