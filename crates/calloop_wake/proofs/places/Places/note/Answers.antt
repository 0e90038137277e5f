use Rattle.std.proofs.Common.{◌≡◌, ◌∙◌, Option, ℕ, Some, false, sym, ap, subst, is_some, IsSome}
use Rattle.std.specs.Map.{keys_of}
use Rattle.calloop_wake.specs.Posts.{standing_at, by_slot_at}
use Rattle.calloop_wake.proofs.BySlot.{Entries, none_some, noted_slot, noted_map, standing_in_map, standing_nowhere, changes-from, keys-with}
use Rattle.calloop_wake.proofs.places.Places.note.Goals as goal

pub returns-then-is_some-clause-updates : goal.returns-then-is_some-clause-updates
returns-then-is_some-clause-updates c = λ some.
    (noted_slot c.args.key c.self.inside.by_slot.items c.self.inside.by_key.entries c.args.self.now c.self.invariant c.self.view_is c.args.at c.put.new.by_slot.items
    (ap (λ (o : Option (Option ℕ)). is_some o) (sym c.by_slot_at.ensures) ∙ sym c.is_some.ensures ∙ c.if-is_some.true) c.put.ensures).0

pub returns-then-is_some-clause-keys : goal.returns-then-is_some-clause-keys
returns-then-is_some-clause-keys c =
    keys-with c.put.new.by_slot.items c.self.inside.by_key.entries ∙ sym (keys-with c.self.inside.by_slot.items c.self.inside.by_key.entries) ∙ ap (λ (l : Entries). keys_of l) c.self.view_is

pub returns-in-Some-clause-updates : goal.returns-in-Some-clause-updates
returns-in-Some-clause-updates c = λ some.
    (let none : is_some (by_slot_at c.args.key c.self.inside.by_slot.items) ≡ false = ap (λ (o : Option (Option ℕ)). is_some o) (sym c.by_slot_at.ensures) ∙ sym c.is_some.ensures ∙ c.if-is_some.false in
    let there : IsSome (standing_at c.args.key c.self.inside.by_key.entries) =
    subst (λ (o : Option (Option ℕ)). IsSome o) (standing_in_map c.args.key c.self.inside.by_slot.items c.self.inside.by_key.entries c.args.self.now c.self.invariant c.self.view_is none) some in
    let written = c.get_mut.follows.holds c.args.at in
    let after = (c.get_mut.follows.lender c.args.at).entries in
    (noted_map c.args.key c.self.inside.by_slot.items c.self.inside.by_key.entries c.args.self.now c.self.invariant c.self.view_is c.args.at after none
    (changes-from c.args.key (Some c.args.at) c.self.inside.by_key.entries after (written.3 there).0)).0)

pub returns-in-Some-clause-keys : goal.returns-in-Some-clause-keys
returns-in-Some-clause-keys c =
    keys-with c.self.inside.by_slot.items (c.get_mut.follows.lender c.args.at).entries ∙ (c.get_mut.follows.holds c.args.at).1
    ∙ sym (keys-with c.self.inside.by_slot.items c.self.inside.by_key.entries) ∙ ap (λ (l : Entries). keys_of l) c.self.view_is

pub returns-in_default-clause-updates : goal.returns-in_default-clause-updates
returns-in_default-clause-updates c = λ some.
    absurd (none_some (subst (λ (o : Option (Option ℕ)). IsSome o)
    (standing_nowhere c.args.key c.self.inside.by_slot.items c.self.inside.by_key.entries c.args.self.now c.self.invariant c.self.view_is (sym c.in_default.ensures.value)) some))
