use Rattle.std.proofs.Common.{◌≡◌, ◌≢◌, ℕ, suc, zero, ◌+◌, ◌%◌, ◌<◌, List, [], ◌∷◌, ◌++◌, length, get_or, refl, ap, sym, ◌∙◌, arith, true, false, if◌then◌else◌, slice_get, Option, Some}
use Rattle.std.proofs.Math.ListN.{set}
use Rattle.calloop_slots.specs.Widths.{versions}
use Rattle.calloop_slots.specs.declared.token.RegistrationToken.{RegistrationToken}
use Rattle.calloop_slots.proofs.Indexed.{changed-set}
use Rattle.calloop_slots.specs.declared.list.Content.TheVariants.{InTurn}
use Rattle.calloop_slots.specs.declared.list.Slot.{Slot}
use Rattle.calloop_slots.specs.Slots.{with_change, first_vacant, next_version, after_claim, taken_up, is_vacant, next_registration}

-- a vacant slot is taken
pub claimed_within : {S : Type 0} (ss : List (Slot S)) → first_vacant ss < length ss → after_claim ss ≡ with_change taken_up ss (first_vacant ss)
claimed_within [] h = absurd (omega arith)
claimed_within {S} (s ∷ ss) h =
    elim (is_vacant s) as (λ b. (if b then 0 else suc (first_vacant ss)) < suc (length ss) → (if b then taken_up s ∷ ss else s ∷ after_claim ss) ≡ with_change taken_up (s ∷ ss) (if b then 0 else suc (first_vacant ss))) [ true ↦ λ _. refl | false ↦ λ h'. ap (λ r. s ∷ r) (claimed_within ss (omega arith)) ] h

-- its version
pub version_within : {S : Type 0} (ss : List (Slot S)) (d : Slot S) → first_vacant ss < length ss → next_version ss ≡ ((get_or ss (first_vacant ss) d).version + 1) % versions
version_within [] d h = absurd (omega arith)
version_within {S} (s ∷ ss) d h =
    elim (is_vacant s) as (λ b. (if b then 0 else suc (first_vacant ss)) < suc (length ss) → (if b then (s.version + 1) % versions else next_version ss) ≡ ((get_or (s ∷ ss) (if b then 0 else suc (first_vacant ss)) d).version + 1) % versions) [ true ↦ λ _. refl | false ↦ λ h'. version_within ss d (omega arith) ] h

-- if none is vacant, a new one is added
pub claimed_past : {S : Type 0} (ss : List (Slot S)) → first_vacant ss ≡ length ss → after_claim ss ≡ ss ++ record { version = 0; content = InTurn } ∷ []
claimed_past [] h = refl
claimed_past {S} (s ∷ ss) h =
    elim (is_vacant s) as (λ b. (if b then 0 else suc (first_vacant ss)) ≡ suc (length ss) → (if b then taken_up s ∷ ss else s ∷ after_claim ss) ≡ s ∷ (ss ++ record { version = 0; content = InTurn } ∷ [])) [ true ↦ λ h'. absurd (omega arith) | false ↦ λ h'. ap (λ r. s ∷ r) (claimed_past ss (omega arith)) ] h

pub version_past : {S : Type 0} (ss : List (Slot S)) → first_vacant ss ≡ length ss → next_version ss ≡ 0
version_past [] h = refl
version_past {S} (s ∷ ss) h =
    elim (is_vacant s) as (λ b. (if b then 0 else suc (first_vacant ss)) ≡ suc (length ss) → (if b then (s.version + 1) % versions else next_version ss) ≡ 0) [ true ↦ λ h'. absurd (omega arith) | false ↦ λ h'. version_past ss (omega arith) ] h

pub reused : {S : Type 0} (xs : List (Slot S)) (place : ℕ) (s : Slot S) → place ≡ first_vacant xs → place < length xs → s ≡ get_or xs place s
    → (◌≡◌ {A = RegistrationToken} (record { slot = place; version = (s.version + 1) % versions }) (next_registration xs)) × (set xs place (taken_up s) ≡ after_claim xs)
reused {S} xs place s e h is =
    let h' : first_vacant xs < length xs = omega arith in
    let is' : s ≡ get_or xs (first_vacant xs) s = rw e at is in
    let v : (s.version + 1) % versions ≡ next_version xs = ap (λ (t : Slot S). (t.version + 1) % versions) is' ∙ sym (version_within xs s h') in
    rw e (ap (λ v. record { slot = first_vacant xs; version = v }) v, changed-set taken_up xs (first_vacant xs) s is' h' ∙ sym (claimed_within xs h'))

pub added : {S : Type 0} (xs : List (Slot S)) (place : ℕ) → place ≡ first_vacant xs → place ≡ length xs
    → (◌≡◌ {A = RegistrationToken} (record { slot = place; version = 0 }) (next_registration xs)) × (xs ++ record { version = 0; content = InTurn } ∷ [] ≡ after_claim xs)
added {S} xs place e h =
    let h' : first_vacant xs ≡ length xs = omega arith in
    rw e (ap (λ v. record { slot = first_vacant xs; version = v }) (sym (version_past xs h')), sym (claimed_past xs h'))

-- the claimed slot is in its turn, under its next version
pub slice_get-claimed_at : {S : Type 0} (ss : List (Slot S)) → slice_get (after_claim ss) (first_vacant ss) ≡ Some (record { version = next_version ss; content = InTurn })
slice_get-claimed_at [] = refl
slice_get-claimed_at {S} (s ∷ ss) =
    elim (is_vacant s) as (λ b. is_vacant s ≡ b → ◌≡◌ {A = Option (Slot S)} (slice_get (if b then taken_up s ∷ ss else s ∷ after_claim ss) (if b then 0 else suc (first_vacant ss))) (Some (record { version = if b then (s.version + 1) % versions else next_version ss; content = InTurn }))) [ true ↦ λ e. refl | false ↦ λ _. slice_get-claimed_at ss ] refl

-- the others stay
pub slice_get-claimed_other : {S : Type 0} (ss : List (Slot S)) (i : ℕ) → i ≢ first_vacant ss → slice_get (after_claim ss) i ≡ slice_get ss i
slice_get-claimed_other [] zero d = absurd (d refl)
slice_get-claimed_other [] (suc i) d = refl
slice_get-claimed_other {S} (s ∷ ss) zero d =
    elim (is_vacant s) as (λ b. 0 ≢ (if b then 0 else suc (first_vacant ss)) → ◌≡◌ {A = Option (Slot S)} (slice_get (if b then taken_up s ∷ ss else s ∷ after_claim ss) 0) (Some s)) [ true ↦ λ h. absurd (h refl) | false ↦ λ _. refl ] d
slice_get-claimed_other {S} (s ∷ ss) (suc i) d =
    elim (is_vacant s) as (λ b. suc i ≢ (if b then 0 else suc (first_vacant ss)) → ◌≡◌ {A = Option (Slot S)} (slice_get (if b then taken_up s ∷ ss else s ∷ after_claim ss) (suc i)) (slice_get ss i)) [ true ↦ λ _. refl | false ↦ λ h. slice_get-claimed_other ss i (λ e. h (ap suc e)) ] d
