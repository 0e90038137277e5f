use Rattle.std.proofs.Common.{◌≡◌, ℕ, ◌<◌, List, length, refl, ap, sym, ◌∙◌, Some, None, Option, true, false, if◌then◌else◌, nat_eq, slice_get, is_some, get_or}
use Rattle.std.proofs.Common.{subst, arith}
use Rattle.calloop_slots.proofs.Indexed.{get_some, slice_get-changed_at}
use Rattle.std.proofs.lemmas.Option.{slice_get_within, slice_get_read}
use Rattle.calloop_slots.specs.declared.token.RegistrationToken.{RegistrationToken}
use Rattle.calloop_slots.specs.declared.list.Content.{Content}
use Rattle.calloop_slots.specs.declared.list.Content.TheVariants.{Vacant, Source, InTurn}
use Rattle.calloop_slots.specs.declared.list.Slot.{Slot}
use Rattle.calloop_slots.specs.Slots.{content_at, with_change, with_content, is_empty, is_in_turn, after_turn, content_under, source_of}

-- only a vacant slot is empty
pub empty_is : {S : Type 0} (c : Content S) → is_empty c ≡ true → c ≡ Vacant
empty_is Vacant e = refl
empty_is (Source s) e = cc
empty_is InTurn e = cc

-- a slot with a source isn't vacant
pub source_filled : {S : Type 0} (c : Content S) → is_some (source_of c) ≡ true → is_empty c ≡ false
source_filled Vacant e = cc
source_filled (Source s) e = refl
source_filled InTurn e = cc

pub source_is : {S : Type 0} (c : Content S) (s : S) → source_of c ≡ Some s → c ≡ Source s
source_is Vacant s e = cc
source_is (Source r) s e = cc
source_is InTurn s e = cc

under : {S : Type 0} (v : ℕ) (o : Option (Slot S)) → is_empty (content_under v o) ≡ false → (s : Slot S) × (o ≡ Some s) × (nat_eq s.version v ≡ true) × (content_under v o ≡ s.content)
under v None e = cc
under {S} v (Some s) e =
    elim (nat_eq s.version v) as (λ b. nat_eq s.version v ≡ b → is_empty (if b then s.content else Vacant) ≡ false → (s' : Slot S) × (◌≡◌ {A = Option (Slot S)} (Some s) (Some s')) × (nat_eq s'.version v ≡ true) × ((if b then s.content else Vacant) ≡ s'.content)) [ true ↦ λ same h. (s, refl, same, refl) | false ↦ λ _ h. cc ] refl e

-- a token that names a source stands for the content of its slot
pub named_slot : {S : Type 0} (xs : List (Slot S)) (t : RegistrationToken) → is_empty (content_at xs t) ≡ false → (s : Slot S) × (slice_get xs t.slot ≡ Some s) × (nat_eq s.version t.version ≡ true) × (content_at xs t ≡ s.content)
named_slot xs t e = under t.version (slice_get xs t.slot) e

pub named_within : {S : Type 0} (xs : List (Slot S)) (t : RegistrationToken) → is_empty (content_at xs t) ≡ false → t.slot < length xs
named_within xs t e = let s = named_slot xs t e in slice_get_within xs t.slot s.0 s.1

-- a token names what its slot holds
pub named_at : {S : Type 0} (xs : List (Slot S)) (t : RegistrationToken) (x : Slot S) → is_empty (content_at xs t) ≡ false → x ≡ get_or xs t.slot x → content_at xs t ≡ x.content
named_at xs t x e at = let s = named_slot xs t e in s.3 ∙ ap (λ y. y.content) (sym (get_some xs t.slot s.0 x s.1) ∙ sym at)

-- a slot in its turn isn't vacant
pub turn_filled : {S : Type 0} (c : Content S) → is_in_turn c ≡ true → is_empty c ≡ false
turn_filled Vacant e = cc
turn_filled (Source s) e = cc
turn_filled InTurn e = refl

-- after a write to the slot of a token, the token names what was written
pub named_changed : {S : Type 0} (xs : List (Slot S)) (t : RegistrationToken) (c : Content S) → is_empty (content_at xs t) ≡ false → content_at (with_change (with_content c) xs t.slot) t ≡ c
named_changed xs t c e =
    let s = named_slot xs t e in
    ap (content_under t.version) (slice_get-changed_at (with_content c) xs t.slot s.0 s.1) ∙ rw s.2 refl

-- a source that was taken out goes back
pub turn_ended : {S : Type 0} (xs : List (Slot S)) (t : RegistrationToken) (c : Content S) → is_empty (content_at xs t) ≡ false → after_turn c t (with_change (with_content InTurn) xs t.slot) ≡ with_change (with_content c) (with_change (with_content InTurn) xs t.slot) t.slot
turn_ended xs t c e =
    let ys = with_change (with_content InTurn) xs t.slot in
    ap (λ x. if is_in_turn x then with_change (with_content c) ys t.slot else ys) (named_changed xs t InTurn e)

-- a token of the slot's version names the slot's content
pub named_read : {S : Type 0} (xs : List (Slot S)) (t : RegistrationToken) (i : ℕ) (s : Slot S)
    → i ≡ t.slot → i < length xs → s ≡ get_or xs i s → s.version ≡ t.version → content_at xs t ≡ s.content
named_read xs t i s same within at version =
    let there : slice_get xs t.slot ≡ Some s =
    subst (λ k. slice_get xs k ≡ Some s) same (slice_get_read xs (length xs) i s refl within at) in
    let fits : nat_eq s.version t.version ≡ true = grind arith in
    ap (content_under t.version) there ∙ ap (λ b. if b then s.content else Vacant) fits
