use Rattle.std.proofs.Common.{◌∙◌, Option, ℕ, sym, ap, is_some}
use Rattle.calloop_wake.proofs.BySlot.{is_there, standing_in_map}
use Rattle.calloop_wake.proofs.places.Places.is_open.Goals as goal

pub returns-then-is_some-clause-value : goal.returns-then-is_some-clause-value
returns-then-is_some-clause-value c =
    c.if-is_some.true ∙ sym (is_there c.args.key c.self.inside.by_slot.items c.self.inside.by_key.entries c.args.self.now c.self.invariant c.self.view_is
    (ap (λ (o : Option (Option ℕ)). is_some o) (sym c.by_slot_at.ensures) ∙ sym c.is_some.ensures ∙ c.if-is_some.true))

pub returns-else-is_some-clause-value : goal.returns-else-is_some-clause-value
returns-else-is_some-clause-value c =
    c.contains_key.ensures ∙ ap (λ (o : Option (Option ℕ)). is_some o) (sym (standing_in_map c.args.key c.self.inside.by_slot.items c.self.inside.by_key.entries c.args.self.now c.self.invariant c.self.view_is
    (ap (λ (o : Option (Option ℕ)). is_some o) (sym c.by_slot_at.ensures) ∙ sym c.is_some.ensures ∙ c.if-is_some.false)))
