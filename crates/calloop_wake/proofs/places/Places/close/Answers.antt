use Rattle.std.proofs.Common.{◌∙◌, Option, ℕ, None, sym, ap, is_some}
use Rattle.calloop_wake.specs.Posts.{posted_at}
use Rattle.calloop_wake.proofs.BySlot.{standing_in_map, standing_nowhere, standing_by_slot, changes-from, slot_nothing, closed_slot, closed_map}
use Rattle.calloop_wake.proofs.places.Places.close.Goals as goal

pub returns-in_err-stood-clause-value : goal.returns-in_err-stood-clause-value
returns-in_err-stood-clause-value c = c.from_residual.ensures ∙ sym (ap posted_at (standing_nowhere c.args.key c.self.inside.by_slot.items c.self.inside.by_key.entries c.args.self.now c.self.invariant c.self.view_is (sym c.in_err-stood.ensures.value)))

pub returns-in_err-stood-clause-entries : goal.returns-in_err-stood-clause-entries
returns-in_err-stood-clause-entries c =
    (closed_map c.args.key c.self.inside.by_slot.items c.self.inside.by_key.entries c.args.self.now c.self.invariant c.self.view_is c.remove.new.self.entries c.len.ensures.ordered (slot_nothing c.args.key c.self.inside.by_slot.items c.self.inside.by_key.entries c.args.self.now c.self.invariant c.self.view_is (sym c.in_err-stood.ensures.value)) c.remove.ensures.entries
    (changes-from c.args.key None c.self.inside.by_key.entries c.remove.new.self.entries c.remove.ensures.updates.0)).0

pub returns-in_err-stood-clause-updates : goal.returns-in_err-stood-clause-updates
returns-in_err-stood-clause-updates c =
    (closed_map c.args.key c.self.inside.by_slot.items c.self.inside.by_key.entries c.args.self.now c.self.invariant c.self.view_is c.remove.new.self.entries c.len.ensures.ordered (slot_nothing c.args.key c.self.inside.by_slot.items c.self.inside.by_key.entries c.args.self.now c.self.invariant c.self.view_is (sym c.in_err-stood.ensures.value)) c.remove.ensures.entries
    (changes-from c.args.key None c.self.inside.by_key.entries c.remove.new.self.entries c.remove.ensures.updates.0)).1

pub returns-in-Some-clause-value : goal.returns-in-Some-clause-value
returns-in-Some-clause-value c =
    sym (ap posted_at (standing_by_slot c.args.key c.self.inside.by_slot.items c.self.inside.by_key.entries c.args.self.now c.self.invariant c.self.view_is c.in-Some.at (sym c.by_slot_at.ensures ∙ c.in-Some.is)))

pub returns-in-Some-clause-entries : goal.returns-in-Some-clause-entries
returns-in-Some-clause-entries c =
    (closed_slot c.args.key c.self.inside.by_slot.items c.self.inside.by_key.entries c.args.self.now c.self.invariant c.self.view_is c.remove.new.self.entries c.len.ensures.ordered c.in-Some.at c.put.new.by_slot.items (sym c.by_slot_at.ensures ∙ c.in-Some.is) c.put.ensures c.remove.ensures.entries
    (changes-from c.args.key None c.self.inside.by_key.entries c.remove.new.self.entries c.remove.ensures.updates.0)).0

pub returns-in-Some-clause-updates : goal.returns-in-Some-clause-updates
returns-in-Some-clause-updates c =
    (closed_slot c.args.key c.self.inside.by_slot.items c.self.inside.by_key.entries c.args.self.now c.self.invariant c.self.view_is c.remove.new.self.entries c.len.ensures.ordered c.in-Some.at c.put.new.by_slot.items (sym c.by_slot_at.ensures ∙ c.in-Some.is) c.put.ensures c.remove.ensures.entries
    (changes-from c.args.key None c.self.inside.by_key.entries c.remove.new.self.entries c.remove.ensures.updates.0)).1

pub returns-in-None-clause-value : goal.returns-in-None-clause-value
returns-in-None-clause-value c =
    sym (ap posted_at (standing_in_map c.args.key c.self.inside.by_slot.items c.self.inside.by_key.entries c.args.self.now c.self.invariant c.self.view_is (ap (λ (o : Option (Option ℕ)). is_some o) (sym c.by_slot_at.ensures ∙ c.in-None.is)) ∙ sym c.in_ok-stood.ensures.value))

pub returns-in-None-clause-entries : goal.returns-in-None-clause-entries
returns-in-None-clause-entries c =
    (closed_map c.args.key c.self.inside.by_slot.items c.self.inside.by_key.entries c.args.self.now c.self.invariant c.self.view_is c.remove.new.self.entries c.len.ensures.ordered (sym c.by_slot_at.ensures ∙ c.in-None.is) c.remove.ensures.entries
    (changes-from c.args.key None c.self.inside.by_key.entries c.remove.new.self.entries c.remove.ensures.updates.0)).0

pub returns-in-None-clause-updates : goal.returns-in-None-clause-updates
returns-in-None-clause-updates c =
    (closed_map c.args.key c.self.inside.by_slot.items c.self.inside.by_key.entries c.args.self.now c.self.invariant c.self.view_is c.remove.new.self.entries c.len.ensures.ordered (sym c.by_slot_at.ensures ∙ c.in-None.is) c.remove.ensures.entries
    (changes-from c.args.key None c.self.inside.by_key.entries c.remove.new.self.entries c.remove.ensures.updates.0)).1
