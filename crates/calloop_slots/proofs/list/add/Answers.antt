use Rattle.std.proofs.Common.{◌≡◌, length, ◌++◌, ◌∷◌, [], arith, ◌∙◌, ap, sym, subst, refl, ◌≤◌}
use Rattle.calloop_slots.specs.Widths.{most_slots}
use Rattle.calloop_slots.specs.Slots.{first_vacant}
use Rattle.calloop_slots.specs.Vacancies.{grown}
use Rattle.calloop_slots.specs.declared.list.Content.TheVariants.{InTurn}
use Rattle.calloop_slots.proofs.Vacancy.{added}
use Rattle.calloop_slots.proofs.Told.{told-added}
use Rattle.calloop_slots.proofs.list.add.Goals as goal

pub returns-clause-ok : goal.returns-clause-ok
returns-clause-ok g c =
    let xs = c.args.slots.now.items in
    let long : c.len-place.result ≡ length xs = omega arith in
    let a = added xs c.len-place.result (long ∙ sym c.requires.full) long in
    (c.new.ensures ∙ a.0, c.in-Ok.ensures.items ∙ ap (λ l. l ++ record { version = 0; content = InTurn } ∷ []) c.reserve.ensures.items ∙ a.1)

pub returns-clause-told : goal.returns-clause-told
returns-clause-told g c =
    let xs = c.args.slots.now.items in
    let long : c.len-place.result ≡ length xs = omega arith in
    rw (c.in-Ok.ensures.items ∙ ap (λ l. l ++ record { version = 0; content = InTurn } ∷ []) c.reserve.ensures.items)
    (rw (c.in_ok-grow.ensures.ok ∙ ap (λ n. grown n c.args.vacancies.now) long) (told-added xs c.args.vacancies.now c.requires.told (omega arith)))

pub returns-then-place-ge-MOST_SLOTS-clause-full : goal.returns-then-place-ge-MOST_SLOTS-clause-full
returns-then-place-ge-MOST_SLOTS-clause-full g c =
    let long : c.len-place.result ≡ length c.args.slots.now.items = omega arith in
    let many : most_slots ≤ first_vacant c.args.slots.now.items =
    subst (λ n. most_slots ≤ n) (long ∙ sym c.requires.full) c.if-place-ge-MOST_SLOTS.true in
    (λ _. many, λ _. refl)
