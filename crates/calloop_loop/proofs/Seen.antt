-- A change of the machine is seen as the change of what the loop holds.
use Rattle.std.proofs.Common.{◌≡◌, ℕ, ◌+◌, ◌*◌, ◌/◌, ◌%◌, List, [], ◌∷◌, ◌++◌, map, refl, ap, sym, ◌∙◌, arith, subst, true, false, if◌then◌else◌}
use Rattle.std.proofs.Math.Nat.{mod-add-div, add-mul-mod_self_left}
use Rattle.calloop_slots.specs.Widths.{versions}
use Rattle.calloop_slots.specs.declared.list.Content.TheVariants.{Source, InTurn}
use Rattle.calloop_slots.specs.Slots.{after_claim, taken_up, is_empty, with_content}
use Rattle.calloop_slots.proofs.Indexed.{map-changed}
use Rattle.calloop_loop.specs.Machine.{World, View, Registration, Change, Put, Claim, Swapped, Polls, Polling, Watching, Counting, Holds, Appended, Gathered, Cut, Ended, visible, slot_of, slot_with, next_use, with_claim, after_change, all_viewed, world_after, world_after_all}
use Rattle.calloop_loop.specs.Rules.{after_changes, all_traced, Did, Leads}

-- counted on or wrapped, a reuse count has the same version
again : (n : ℕ) → (n + 1) % versions ≡ (n % versions + 1) % versions
again n =
    let split : n ≡ n % versions + versions * (n / versions) = sym (mod-add-div n versions) in
    let sum : n + 1 ≡ n % versions + 1 + versions * (n / versions) = omega (arith, split) in
    ap (λ k. k % versions) sum ∙ add-mul-mod_self_left (n % versions + 1) versions (n / versions)

slot_of-reused : {D : Type 0} (r : Registration D) → slot_of (next_use r) ≡ taken_up (slot_of r)
slot_of-reused r = ap (λ v. record { version = v; content = InTurn }) (again r.reuse)

seen-with_claim : {D : Type 0} (rs : List (Registration D)) → map slot_of (with_claim rs) ≡ after_claim (map slot_of rs)
seen-with_claim [] = refl
seen-with_claim {D} (r ∷ rs) =
    elim (is_empty r.content) as (λ b. map slot_of (if b then next_use r ∷ rs else r ∷ with_claim rs) ≡ (if b then taken_up (slot_of r) ∷ map slot_of rs else slot_of r ∷ after_claim (map slot_of rs)))
    [ true ↦ ap (λ s. s ∷ map slot_of rs) (slot_of-reused r) | false ↦ ap (λ ss. slot_of r ∷ ss) (seen-with_claim rs) ]

pub seen-done : {D I P : Type 0} (w : World D I P) (c : Change D I P) → visible (world_after w c) ≡ after_change (visible w) c
seen-done w (Put slot content) = ap (λ ss. record (visible w) { slots = ss }) (map-changed slot_of (slot_with content) (with_content content) w.slots slot (λ r. refl))
seen-done w (Swapped slot old new) = ap (λ ss. record (visible w) { slots = ss }) (map-changed slot_of (slot_with (Source new)) (with_content (Source new)) w.slots slot (λ r. refl))
seen-done w (Claim source) = ap (λ ss. record (visible w) { slots = ss }) (seen-with_claim w.slots)
seen-done w (Polls steps) = refl
seen-done w (Polling poller) = refl
seen-done w (Watching watch) = refl
seen-done w (Counting places) = refl
seen-done w (Holds step) = refl
seen-done w (Appended event) = refl
seen-done w (Gathered posted given now) = refl
seen-done w (Cut slot) = refl
seen-done w Ended = refl

pub seen-all_done : {D I P : Type 0} (w : World D I P) (cs : List (Change D I P)) → visible (world_after_all w cs) ≡ all_viewed (visible w) cs
seen-all_done w [] = refl
seen-all_done {D} {I} {P} w (c ∷ cs) = seen-all_done (world_after w c) cs ∙ ap (λ (v : View D I P). all_viewed v cs) (seen-done w c)

pub done-append : {D I P : Type 0} (w : World D I P) (cs ds : List (Change D I P)) → world_after_all w (cs ++ ds) ≡ world_after_all (world_after_all w cs) ds
done-append w [] ds = refl
done-append w (c ∷ cs) ds = done-append (world_after w c) cs ds

pub viewed-append : {D I P : Type 0} (v : View D I P) (cs ds : List (Change D I P)) → all_viewed v (cs ++ ds) ≡ all_viewed (all_viewed v cs) ds
viewed-append v [] ds = refl
viewed-append v (c ∷ cs) ds = viewed-append (after_change v c) cs ds

pub seen-all_traced : {D I P : Type 0} (w : World D I P) (css : List (List (Change D I P))) → visible (all_traced w css) ≡ after_changes (visible w) css
seen-all_traced w [] = refl
seen-all_traced {D} {I} {P} w (cs ∷ css) = seen-all_traced (world_after_all w cs) css ∙ ap (λ (v : View D I P). after_changes v css) (seen-all_done w cs)

-- what a function did by what is seen, every machine that agreed does, and agrees again
pub did_leads : {D I P : Type 0} (R : View D I P → List (List (Change D I P)) → Type 0) (old new : View D I P) → Did R old new → Leads R old new
did_leads {D} {I} {P} R old new h w e =
    (h.0, subst (λ (v : View D I P). R v h.0) (sym e) h.1, seen-all_traced w h.0 ∙ ap (λ (v : View D I P). after_changes v h.0) e ∙ sym h.2)
