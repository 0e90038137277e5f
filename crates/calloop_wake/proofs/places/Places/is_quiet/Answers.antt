use Rattle.std.proofs.Common.{◌≡◌, ◌∙◌, sym, ap, Bool, not, Option, Some, true, false, ℕ, is_some}
use Rattle.calloop_wake.specs.Posts.{is_quiet, by_slot_at}
use Rattle.calloop_wake.proofs.BySlot.{standing_by_slot, standing_in_map, standing_nowhere}
use Rattle.calloop_wake.proofs.places.Places.is_quiet.Goals as goal

-- a place is quiet or not, by its entry
quiet : (b : Bool) (at : Option ℕ) (o : Option (Option ℕ)) → o ≡ Some at → is_some at ≡ not b → b ≡ is_quiet o
quiet true at o is e = sym (ap is_quiet is ∙ ap (λ b. not b) e)
quiet false at o is e = sym (ap is_quiet is ∙ ap (λ b. not b) e)

pub returns-in-Some-clause-value : goal.returns-in-Some-clause-value
returns-in-Some-clause-value c =
    quiet _ _ _ (standing_by_slot c.args.key c.self.inside.by_slot.items c.self.inside.by_key.entries c.args.self.now c.self.invariant c.self.view_is c.in-Some.at (sym c.by_slot_at.ensures ∙ c.in-Some.is)) assumption

pub returns-in-Some-get-clause-value : goal.returns-in-Some-get-clause-value
returns-in-Some-get-clause-value c =
    let none : is_some (by_slot_at c.args.key c.self.inside.by_slot.items) ≡ false = ap (λ (o : Option (Option ℕ)). is_some o) (sym c.by_slot_at.ensures ∙ c.in_default.is) in
    quiet _ _ _ (standing_in_map c.args.key c.self.inside.by_slot.items c.self.inside.by_key.entries c.args.self.now c.self.invariant c.self.view_is none ∙ sym c.in-Some-get.ensures.value) assumption

pub returns-in-None-clause-value : goal.returns-in-None-clause-value
returns-in-None-clause-value c = sym (ap is_quiet (standing_nowhere c.args.key c.self.inside.by_slot.items c.self.inside.by_key.entries c.args.self.now c.self.invariant c.self.view_is (sym c.in-None.ensures.value)))
