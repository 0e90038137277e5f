use Rattle.std.proofs.Common.{◌≡◌, List, true, ap, ◌∙◌, if◌then◌else◌, nat_eq, arith}
use Rattle.calloop_slots.specs.declared.list.Content.{Content}
use Rattle.calloop_slots.specs.declared.list.Content.TheVariants.{Vacant, InTurn}
use Rattle.calloop_slots.specs.declared.list.Slot.{Slot}
use Rattle.calloop_slots.specs.Slots.{with_change, after_claim, content_under, after_turn, first_vacant, is_in_turn, content_at, next_registration, next_version, with_content}
use Rattle.calloop_slots.proofs.Vacancy.{slice_get-claimed_at}

-- the claimed slot goes by its new name
pub named_claimed : {S : Type 0} (ss : List (Slot S)) → content_at (after_claim ss) (next_registration ss) ≡ InTurn
named_claimed {S} ss =
    let same : nat_eq (next_version ss) (next_version ss) ≡ true = grind arith in
    ap (content_under {S = S} (next_version ss)) (slice_get-claimed_at ss) ∙ ap (λ b. if b then InTurn else Vacant) same

-- and it takes what is put into it
pub claim_ended : {S : Type 0} (ss : List (Slot S)) (c : Content S) → after_turn c (next_registration ss) (after_claim ss) ≡ with_change (with_content c) (after_claim ss) (first_vacant ss)
claim_ended {S} ss c = ap (λ x. if is_in_turn x then with_change (with_content c) (after_claim ss) (first_vacant ss) else after_claim ss) (named_claimed ss)
