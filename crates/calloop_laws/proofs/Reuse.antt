-- Reuse counts only grow, and are seen modulo the versions that there are.
use Rattle.std.proofs.Common.{◌≡◌, ℕ, suc, zero, ◌+◌, ◌-◌, ◌*◌, ◌/◌, ◌%◌, ◌≤◌, ◌<◌, ◌⊎◌, List, [], ◌∷◌, refl, ap, sym, ◌∙◌, arith, inl, inr, Some, true, false, if◌then◌else◌, slice_get}
use Rattle.std.proofs.Math.Nat.{mod-add-div}
use Rattle.calloop_slots.specs.Widths.{versions}
use Rattle.calloop_slots.specs.declared.list.Content.{Content}
use Rattle.calloop_slots.specs.declared.list.Content.TheVariants.{Source}
use Rattle.calloop_slots.specs.Slots.{with_change, is_empty}
use Rattle.calloop_loop.specs.Machine.{World, Registration, Change, Put, Claim, Swapped, Polls, Polling, Watching, Counting, Holds, Appended, Gathered, Cut, Ended, slot_with, next_use, with_claim, world_after, world_after_all}
use Rattle.calloop_laws.specs.Laws.{NamesLater}

abbrev pub Older : {D : Type 0} → List (Registration D) → ℕ → Registration D → Type 0
Older {D} rs i r = (r' : Registration D) × (slice_get rs i ≡ Some r') × (r.reuse ≤ r'.reuse)

older_changed : {D : Type 0} (c : Content D) (rs : List (Registration D)) (j i : ℕ) (r : Registration D) → Older rs i r → Older (with_change (slot_with c) rs j) i r
older_changed c [] j i r h = h
older_changed c (x ∷ xs) zero zero r h = (slot_with c x, refl, let e : x ≡ h.0 = cc in omega (arith, h.2, ap (λ (y : Registration _). y.reuse) e))
older_changed c (x ∷ xs) zero (suc i) r h = h
older_changed c (x ∷ xs) (suc j) zero r h = h
older_changed c (x ∷ xs) (suc j) (suc i) r h = older_changed c xs j i r h

older_claim : {D : Type 0} (rs : List (Registration D)) (i : ℕ) (r : Registration D) → Older rs i r → Older (with_claim rs) i r
older_claim [] i r h = cc
older_claim {D} (x ∷ xs) zero r h =
    let e : x ≡ h.0 = cc in
    elim (is_empty x.content) as (λ b. Older (if b then next_use x ∷ xs else x ∷ with_claim xs) zero r) [ true ↦ (next_use x, refl, omega (arith, h.2, ap (λ (y : Registration D). y.reuse) e)) | false ↦ (x, refl, omega (arith, h.2, ap (λ (y : Registration D). y.reuse) e)) ]
older_claim {D} (x ∷ xs) (suc i) r h =
    elim (is_empty x.content) as (λ b. Older (if b then next_use x ∷ xs else x ∷ with_claim xs) (suc i) r) [ true ↦ h | false ↦ older_claim xs i r h ]

older_done : {D I P : Type 0} (w : World D I P) (c : Change D I P) (i : ℕ) (r : Registration D) → Older w.slots i r → Older (world_after w c).slots i r
older_done w (Put slot content) i r h = older_changed content w.slots slot i r h
older_done w (Swapped slot old new) i r h = older_changed (Source new) w.slots slot i r h
older_done w (Claim source) i r h = older_claim w.slots i r h
older_done w (Polls steps) i r h = h
older_done w (Polling poller) i r h = h
older_done w (Watching watch) i r h = h
older_done w (Counting places) i r h = h
older_done w (Holds step) i r h = h
older_done w (Appended event) i r h = h
older_done w (Gathered posted given now) i r h = h
older_done w (Cut slot) i r h = h
older_done w Ended i r h = h

older_all : {D I P : Type 0} (w : World D I P) (cs : List (Change D I P)) (i : ℕ) (r : Registration D) → Older w.slots i r → Older (world_after_all w cs).slots i r
older_all w [] i r h = h
older_all w (c ∷ cs) i r h = older_all (world_after w c) cs i r (older_done w c i r h)

-- the same version at a count that is no smaller
wraps : (n m : ℕ) → n ≤ m → m % versions ≡ n % versions → (m ≡ n) ⊎ ((k : ℕ) × (0 < k) × (m ≡ n + versions * k))
wraps n m h e =
    elim (m / versions - n / versions) as (λ k. m / versions - n / versions ≡ k → (m ≡ n) ⊎ ((k : ℕ) × (0 < k) × (m ≡ n + versions * k)))
    [ zero ↦ λ is. inl (omega (arith, mod-add-div n versions, mod-add-div m versions)) | suc k ↦ λ is. inr (m / versions - n / versions, omega (arith, is), omega (arith, mod-add-div n versions, mod-add-div m versions)) ] refl

pub names_later : {D I P : Type 0} (w : World D I P) (cs : List (Change D I P)) → NamesLater w (world_after_all w cs)
names_later {D} {I} {P} w cs token r r' here there =
    let old = older_all w cs token.slot r (r, here.0, omega arith) in
    let same : old.0 ≡ r' = let e : Some old.0 ≡ Some r' = sym old.1 ∙ there.0 in cc in
    wraps r.reuse r'.reuse (omega (arith, old.2, ap (λ (y : Registration D). y.reuse) same)) (there.1 ∙ sym here.1)
