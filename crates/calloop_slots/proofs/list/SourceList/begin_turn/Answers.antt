use Rattle.std.proofs.Common.{◌≡◌, ◌<◌, length, true, is_some, arith, sym, refl, ◌∙◌, ap}
use Rattle.calloop_slots.specs.Slots.{content_at, source_of, with_change, with_content}
use Rattle.calloop_slots.specs.declared.list.Content.TheVariants.{InTurn}
use Rattle.calloop_slots.proofs.Indexed.{length-changed}
use Rattle.calloop_slots.proofs.Told.{told-kept}
use Rattle.calloop_slots.proofs.Named.{named_within, source_filled}
use Rattle.calloop_slots.proofs.list.SourceList.begin_turn.Goals as goal

pub invariant_of-self : goal.invariant_of-self
invariant_of-self g c =
    let xs = c.self.inside.slots.items in
    let h : is_some (source_of (content_at xs c.args.token)) ≡ true = sym (ap (λ ys. is_some (source_of (content_at ys c.args.token))) c.deref.ensures.value) ∙ sym c.has_source.ensures ∙ c.if-not-has_source.false in
    rw (c.put.ensures.items ∙ ap (λ i. with_change (with_content InTurn) xs i) c.slot.ensures) (told-kept xs c.self.inside.vacancies InTurn c.args.token c.self.invariant (source_filled (content_at xs c.args.token) h) refl)

pub returns-clause-within : goal.returns-clause-within
returns-clause-within g c =
    let h : is_some (source_of (content_at c.self.inside.slots.items c.args.token)) ≡ true = sym (ap (λ xs. is_some (source_of (content_at xs c.args.token))) c.deref.ensures.value) ∙ sym c.has_source.ensures ∙ c.if-not-has_source.false in
    let here : c.args.token.slot < length c.self.inside.slots.items = named_within c.self.inside.slots.items c.args.token (source_filled _ h) in
    let long : length c.put.new.slots.items ≡ length c.self.inside.slots.items = ap length c.put.ensures.items ∙ length-changed _ _ _ in
    omega (arith, here, long)
