-- Slots, and the effect of a source list's calls on them: calloop's SourceList. The value of a list is the list of its slots.
use Rattle.std.specs.Prelude.{
  ◌≡◌,
  ℕ,
  suc,
  zero,
  ◌+◌,
  ◌%◌,
  ◌<◌,
  ◌≤◌,
  List,
  [],
  ◌∷◌,
  length,
  if◌then◌else◌,
  nat_eq,
  Bool,
  true,
  false,
  Option,
  Some,
  None,
  slice_get,
}
use Rattle.calloop_slots.specs.Widths.{most_slots, versions}
use Rattle.calloop_slots.specs.declared.error.Error.{Error}
use Rattle.calloop_slots.specs.declared.error.Error.TheVariants.{
  InvalidToken,
  IoError,
  OtherError,
  OutOfMemory,
  TooManySources,
  TooManyTokens,
  TooManyTimers,
  TooManyTickets,
  OwnTurn,
  NoRendezvous,
}
use Rattle.calloop_slots.specs.declared.token.RegistrationToken.{RegistrationToken}
use Rattle.calloop_slots.specs.declared.list.ClaimRefusal.{ClaimRefusal}
use Rattle.calloop_slots.specs.declared.list.ClaimRefusal.TheVariants.{TooManySources as TooMany, OutOfMemory as NoMemory}
use Rattle.calloop_slots.specs.declared.list.Content.{Content}
use Rattle.calloop_slots.specs.declared.list.Content.TheVariants.{Vacant, Source, InTurn}
use Rattle.calloop_slots.specs.declared.list.Slot.{Slot}

-- the list with f applied to the element at this index
abbrev pub with_change : {A : Type 0} → (A → A) → List A → ℕ → List A
with_change f [] i = []
with_change f (x ∷ xs) zero = f x ∷ xs
with_change f (x ∷ xs) (suc i) = x ∷ with_change f xs i

-- the slot with this content: calloop sets the entry's Option, in which a source stays during its turn
abbrev pub with_content : {S : Type 0} → Content S → Slot S → Slot S
with_content c s = record { version = s.version; content = c }

-- the content of a slot, if the slot exists and has this version
abbrev pub content_under : {S : Type 0} → ℕ → Option (Slot S) → Content S
content_under version None = Vacant
content_under version (Some s) = if nat_eq s.version version then s.content else Vacant

-- the content of the slot that the token names: calloop's get compares the versions too, and returns an error
abbrev pub content_at : {S : Type 0} → List (Slot S) → RegistrationToken → Content S
content_at slots token = content_under token.version (slice_get slots token.slot)

-- the source, if it isn't in its turn
abbrev pub source_of : {S : Type 0} → Content S → Option S
source_of Vacant = None
source_of (Source s) = Some s
source_of InTurn = None

-- the source of this slot is taken out; calloop's entry keeps its source meanwhile, borrowed
abbrev pub is_in_turn : {S : Type 0} → Content S → Bool
is_in_turn Vacant = false
is_in_turn (Source s) = false
is_in_turn InTurn = true

-- the slot is empty: calloop's entry has None
abbrev pub is_empty : {S : Type 0} → Content S → Bool
is_empty Vacant = true
is_empty (Source s) = false
is_empty InTurn = false

-- the slot can be used again
abbrev pub is_vacant : {S : Type 0} → Slot S → Bool
is_vacant s = is_empty s.content

-- the least index of a vacant slot, or the length: calloop's vacant_entry searches so
abbrev pub first_vacant : {S : Type 0} → List (Slot S) → ℕ
first_vacant [] = 0
first_vacant (s ∷ ss) = if is_vacant s then 0 else suc (first_vacant ss)

-- the version of the first vacant slot at its next use
abbrev pub next_version : {S : Type 0} → List (Slot S) → ℕ
next_version [] = 0
next_version (s ∷ ss) = if is_vacant s then (s.version + 1) % versions else next_version ss

-- the list with f applied to the first free element, or with a new element at the end
abbrev pub first_changed : {A : Type 0} → (free : A → Bool) → (f : A → A) → (new : A) → List A → List A
first_changed free f new [] = new ∷ []
first_changed free f new (x ∷ xs) = if free x then f x ∷ xs else x ∷ first_changed free f new xs

-- the slot at its next use: calloop's increment_version, which wraps at 16 bits
abbrev pub taken_up : {S : Type 0} → Slot S → Slot S
taken_up s = record { version = (s.version + 1) % versions; content = InTurn }

-- the list after calloop's vacant_entry: the first vacant slot is used again, or a new one is added, and is in its
-- turn while its source is registered; calloop puts the source there first
abbrev pub after_claim : {S : Type 0} → List (Slot S) → List (Slot S)
after_claim ss = first_changed is_vacant taken_up (record { version = 0; content = InTurn }) ss

-- the list at the end of a turn: the slot gets this content, if it is still in its turn under this version
abbrev pub after_turn : {S : Type 0} → Content S → RegistrationToken → List (Slot S) → List (Slot S)
after_turn content token ss = if is_in_turn (content_at ss token) then with_change (with_content content) ss token.slot else ss

-- the name of the slot that is claimed next: calloop's vacant_entry leaves this token in the entry
abbrev pub next_registration : {S : Type 0} → List (Slot S) → RegistrationToken
next_registration ss = record { slot = first_vacant ss; version = next_version ss }

-- why a claim failed, as an error of the loop
abbrev pub claim_error : ClaimRefusal → Error
claim_error TooMany = TooManySources
claim_error NoMemory = OutOfMemory

-- why no slot can be claimed; calloop panics if there are too many, and aborts without memory for a new slot
abbrev pub CannotClaim : {S : Type 0} → List (Slot S) → Error → Type 0
CannotClaim ss OutOfMemory = (first_vacant ss ≡ length ss) × (first_vacant ss < most_slots)
CannotClaim ss TooManySources = most_slots ≤ first_vacant ss
CannotClaim ss InvalidToken = ⊥
CannotClaim ss (IoError cause) = ⊥
CannotClaim ss (OtherError cause) = ⊥
CannotClaim ss TooManyTokens = ⊥
CannotClaim ss TooManyTimers = ⊥
CannotClaim ss TooManyTickets = ⊥
CannotClaim ss OwnTurn = ⊥
CannotClaim ss NoRendezvous = ⊥
