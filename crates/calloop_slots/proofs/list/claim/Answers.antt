use Rattle.std.proofs.Common.{◌≡◌, ◌<◌, ◌≤◌, length, arith, ap, ◌∙◌}
use Rattle.calloop_slots.specs.Widths.{most_slots}
use Rattle.calloop_slots.specs.Slots.{first_vacant}
use Rattle.calloop_slots.specs.Vacancies.{is_vacant_in}
use Rattle.calloop_slots.specs.declared.token.RegistrationToken.{RegistrationToken}
use Rattle.calloop_slots.proofs.Told.{first-is, first-within, none-first, claimed-long, told-taken_up}
use Rattle.calloop_slots.proofs.list.claim.Goals as goal

pub take_up-requires-clause-first : goal.take_up-requires-clause-first
take_up-requires-clause-first g c =
    let xs = c.args.slots.now.items in first-is xs c.in-Some.place (c.in-Some.ensures.first (is_vacant_in xs) c.requires.told.told)

pub take_up-requires-clause-within : goal.take_up-requires-clause-within
take_up-requires-clause-within g c =
    let xs = c.args.slots.now.items in
    let within : c.in-Some.place < length xs = first-within xs c.in-Some.place (c.in-Some.ensures.first (is_vacant_in xs) c.requires.told.told) in
    let few : length xs ≤ most_slots = c.requires.told.few in
    (within, omega arith)

pub add-requires-clause-full : goal.add-requires-clause-full
add-requires-clause-full g c =
    let xs = c.args.slots.now.items in none-first xs (c.in-None.ensures.none.1 (is_vacant_in xs) c.requires.told.told)

pub returns-in-Some-clause-within : goal.returns-in-Some-clause-within
returns-in-Some-clause-within g c =
    let xs = c.args.slots.now.items in
    let first = c.in-Some.ensures.first (is_vacant_in xs) c.requires.told.told in
    let is : c.in-Some.place ≡ first_vacant xs = first-is xs c.in-Some.place first in
    let within : c.in-Some.place < length xs = first-within xs c.in-Some.place first in
    let few : length xs ≤ most_slots = c.requires.told.few in
    let at : c.take_up.result.slot ≡ first_vacant xs = ap (λ (t : RegistrationToken). t.slot) c.take_up.ensures.value in
    let long : length c.take_up.new.slots.items ≡ length xs = ap (λ l. length l) c.take_up.ensures.slots ∙ claimed-long xs c.in-Some.place first in
    (omega arith, omega arith)

pub returns-in-Some-clause-told : goal.returns-in-Some-clause-told
returns-in-Some-clause-told g c =
    let xs = c.args.slots.now.items in
    rw c.take_up.ensures.slots
    (told-taken_up xs c.args.vacancies.now c.take_first.new.self c.in-Some.place c.requires.told (c.in-Some.ensures.first (is_vacant_in xs) c.requires.told.told) c.take_first.ensures.bits
    (c.in-Some.ensures.levels (is_vacant_in xs) c.requires.told.told))
