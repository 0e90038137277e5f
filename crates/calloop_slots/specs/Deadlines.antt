-- The armed deadlines of timers. calloop's wheel is a heap, whose entries are found again by counter; here it is a list
-- sorted by when they come due, which also fixes what a heap leaves open: the order of equal deadlines.
use Rattle.std.specs.Prelude.{
  ◌≡◌,
  ◌≢◌,
  ◌⊎◌,
  ℕ,
  ◌+◌,
  ◌-◌,
  ◌^◌,
  ◌<◌,
  ◌≤◌,
  ◌&&◌,
  ◌||◌,
  ◌∷◌,
  [],
  List,
  Bool,
  true,
  not,
  filter,
  nat_eq,
  nat_lt,
  nat_le,
  if◌then◌else◌,
  Option,
  None,
  Some,
}
use Rattle.std.specs.List.{list_any}
use Rattle.std.specs.Duration.{as_nanos}
use Rattle.std.specs.declared.time.Duration.{Duration}
use Rattle.calloop_slots.specs.declared.error.Error.{Error}
use Rattle.calloop_slots.specs.declared.error.Error.TheVariants.{InvalidToken, OutOfMemory, TooManyTimers}
use Rattle.calloop_slots.specs.declared.token.Token.{Token}
use Rattle.calloop_slots.specs.declared.wheel.ArmRefusal.{ArmRefusal}
use Rattle.calloop_slots.specs.declared.wheel.ArmRefusal.TheVariants.{
  TooManyTimers as TooMany,
  UnknownCounter as Unknown,
  OutOfMemory as NoMemory,
}
use Rattle.calloop_slots.specs.declared.wheel.Entry.{Entry}
use Rattle.calloop_slots.specs.declared.wheel.Instant.{Instant}

-- the moment that much later, if it fits 64 bits of nanoseconds: calloop has Instant's checked_add
abbrev pub moment_after : Instant → Duration → Option Instant
moment_after moment time =
    if nat_lt (moment.nanos + as_nanos time) (2 ^ 64) then Some (record { nanos = moment.nanos + as_nanos time })
    else None

-- the entries in order, and the counter that the next new one gets; calloop's TimerWheel has a counter of 32 bits that
-- wraps
pub record Deadlines : Type 0 where
  pub entries : List Entry
  pub next : ℕ

-- by deadline; equal deadlines by counter
abbrev pub is_before : Entry → Entry → Bool
is_before x y =
    nat_lt x.deadline.nanos y.deadline.nanos || (nat_eq x.deadline.nanos y.deadline.nanos && nat_lt x.counter y.counter)

-- a list with another element, behind the longest front of what comes before it
abbrev pub put_behind : {A : Type 0} → (comes_before : A → Bool) → A → List A → List A
put_behind comes_before a [] = a ∷ []
put_behind comes_before a (x ∷ xs) = if comes_before x then x ∷ put_behind comes_before a xs else a ∷ x ∷ xs

-- the longest front of elements that pass, and the rest
abbrev pub front : {A : Type 0} → (A → Bool) → List A → List A
front passes [] = []
front passes (x ∷ xs) = if passes x then x ∷ front passes xs else []

abbrev pub behind_front : {A : Type 0} → (A → Bool) → List A → List A
behind_front passes [] = []
behind_front passes (x ∷ xs) = if passes x then behind_front passes xs else x ∷ xs

-- with another entry, in its place
abbrev pub after_insert : Entry → List Entry → List Entry
after_insert e entries = put_behind (λ x. is_before x e) e entries

abbrev pub entry_of : (counter : ℕ) → (deadline : Instant) → Token → Entry
entry_of counter deadline token = record { deadline = deadline; counter = counter; token = token }

abbrev pub with_entries : List Entry → Deadlines → Deadlines
with_entries entries d = record { entries = entries; next = d.next }

-- with another entry, under a new counter: calloop's insert
abbrev pub with_new : (deadline : Instant) → Token → Deadlines → Deadlines
with_new deadline token d = record { entries = after_insert (entry_of d.next deadline token) d.entries; next = d.next + 1 }

-- with another entry, under a counter that was given out before: calloop's insert_reuse
abbrev pub with_again : (counter : ℕ) → (deadline : Instant) → Token → Deadlines → Deadlines
with_again counter deadline token d = with_entries (after_insert (entry_of counter deadline token) d.entries) d

abbrev pub is_other : (counter : ℕ) → Entry → Bool
is_other counter e = not (nat_eq e.counter counter)

abbrev pub without_counter : (counter : ℕ) → List Entry → List Entry
without_counter counter entries = filter (is_other counter) entries

-- without the entries of this counter; calloop's cancel takes out the first entry alone if that is one
abbrev pub after_cancel : (counter : ℕ) → Deadlines → Deadlines
after_cancel counter d = with_entries (without_counter counter d.entries) d

abbrev pub is_of : (counter : ℕ) → Entry → Bool
is_of counter e = nat_eq e.counter counter

abbrev pub has_counter : (counter : ℕ) → List Entry → Bool
has_counter counter entries = list_any (is_of counter) entries

abbrev pub is_armed : (counter : ℕ) → Deadlines → Bool
is_armed counter d = has_counter counter d.entries

-- calloop's next_deadline
abbrev pub first_deadline : List Entry → Option Instant
first_deadline [] = None
first_deadline (e ∷ es) = Some e.deadline

abbrev pub is_due : (now : ℕ) → Entry → Bool
is_due now e = nat_le e.deadline.nanos now

-- the first entry if it is due, and what is left then: calloop's next_expired
abbrev pub first_due : (now : ℕ) → List Entry → Option Entry
first_due now [] = None
first_due now (e ∷ es) = if is_due now e then Some e else None

abbrev pub after_first_due : (now : ℕ) → List Entry → List Entry
after_first_due now [] = []
after_first_due now (e ∷ es) = if is_due now e then es else e ∷ es

-- the due entries, and the rest
abbrev pub due : (now : ℕ) → List Entry → List Entry
due now entries = front (is_due now) entries

abbrev pub not_due : (now : ℕ) → List Entry → List Entry
not_due now entries = behind_front (is_due now) entries

-- this entry comes before all of these, and none of them has its counter
abbrev pub IsAhead : Entry → List Entry → Type 0
IsAhead x [] = Unit {0}
IsAhead x (y ∷ ys) = (is_before x y ≡ true) × (x.counter ≢ y.counter) × IsAhead x ys

-- sorted, and every counter at most once
abbrev pub IsSorted : List Entry → Type 0
IsSorted [] = Unit {0}
IsSorted (x ∷ xs) = IsAhead x xs × IsSorted xs

-- every counter is below this one
abbrev pub AllBelow : ℕ → List Entry → Type 0
AllBelow n [] = Unit {0}
AllBelow n (x ∷ xs) = (x.counter < n) × AllBelow n xs

pub record IsOrdered (d : Deadlines) : Type 0 where
  pub sorted : IsSorted d.entries
  pub below : AllBelow d.next d.entries

-- why an arming failed, as an error of the loop
abbrev pub arm_error : ArmRefusal → Error
arm_error TooMany = TooManyTimers
arm_error Unknown = InvalidToken
arm_error NoMemory = OutOfMemory

-- why no deadline can be armed: no counter is left, or there is no memory
abbrev pub CannotArm : (next : ℕ) → Error → Type 0
CannotArm next e = ((next ≡ 2 ^ 64 - 1) × (e ≡ TooManyTimers)) ⊎ ((next < 2 ^ 64 - 1) × (e ≡ OutOfMemory))

-- why a counter can't be armed again: this wheel never gave it out, or there is no memory
abbrev pub CannotArmAgain : (counter : ℕ) → Deadlines → Error → Type 0
CannotArmAgain counter d e = ((d.next ≤ counter) × (e ≡ InvalidToken)) ⊎ ((counter < d.next) × (e ≡ OutOfMemory))
