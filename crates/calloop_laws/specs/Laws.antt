-- What holds of every run.
use Rattle.std.specs.Prelude.{
  ◌≡◌,
  ℕ,
  ◌+◌,
  ◌*◌,
  ◌%◌,
  ◌<◌,
  ◌≤◌,
  Bool,
  true,
  false,
  ◌&&◌,
  map,
  nat_eq,
  nat_lt,
  nat_le,
  if◌then◌else◌,
  List,
  [],
  ◌∷◌,
  ◌++◌,
  ◌⊎◌,
  Option,
  Some,
  None,
  slice_get,
}
use Rattle.calloop_slots.specs.Widths.{versions}
use Rattle.calloop_slots.specs.declared.token.Token.{Token}
use Rattle.calloop_slots.specs.declared.list.Content.{Content}
use Rattle.calloop_slots.specs.declared.list.Content.TheVariants.{Source}
use Rattle.calloop_poll.specs.declared.sys.poll.Pending.{Pending}
use Rattle.calloop_poll.specs.sys.Polls.{PollView}
use Rattle.calloop_sources.specs.sources.Holdings.{Free, IsWithin}
use Rattle.calloop_sources.specs.sources.Deeds.{Lent}
use Rattle.calloop_sources.specs.sources.Meanings.{Meaning}
use Rattle.calloop_loop.specs.Ledgers.{Ledger, Arming, NumberedEntry, Origin, Elsewhere, Due, Waiting, TimerCall, entry_in}
use Rattle.calloop_slots.specs.declared.token.RegistrationToken.{RegistrationToken}
use Rattle.calloop_slots.specs.Slots.{content_at, is_empty}
use Rattle.calloop_loop.specs.declared.asks.Asked.{Asked}
use Rattle.calloop_loop.specs.declared.asks.Answered.{Answered}
use Rattle.calloop_loop.specs.Askings.{Asks}
use Rattle.calloop_loop.specs.Held.{is_listed}
use Rattle.calloop_loop.specs.Machine.{World, Registration, Change, Claim, Swapped, Cut, world_after, is_free, slot_of}

-- a source is there that isn't in its turn
abbrev pub IsSource : {D : Type 0} → Content D → Type 0
IsSource {D} c = (d : D) × (c ≡ Source d)

-- an event goes to the source of the slot that its token names, reuse counts taken modulo the number of versions, or to none if
-- the token names no source
abbrev pub GoesRight : {D : Type 0} → List (Registration D) → Token → Option ℕ → Type 0
GoesRight {D} slots token None =
    (r : Registration D) → slice_get slots token.slot ≡ Some r → r.reuse % versions ≡ token.version → ¬ IsSource r.content
GoesRight {D} slots token (Some i) =
    (i ≡ token.slot) × (r : Registration D) × (slice_get slots i ≡ Some r) × (r.reuse % versions ≡ token.version)
    × IsSource r.content

-- the first event of the batch goes to the right source, or rightly to none
abbrev pub FirstGoesRight : {D : Type 0} → List (Registration D) → List Pending → Option ℕ → Type 0
FirstGoesRight slots [] place = ⊥
FirstGoesRight slots (e ∷ es) place = GoesRight slots e.token place

abbrev pub IsRight : {D I P : Type 0} → World D I P → Change D I P → Type 0
IsRight w (Cut place) = FirstGoesRight w.slots w.poll.batch place
IsRight w change = Unit {0}

-- each event that is cut in these changes goes to the right source at its moment, or rightly to none
abbrev pub AllRight : {D I P : Type 0} → World D I P → List (Change D I P) → Type 0
AllRight w [] = Unit {0}
AllRight w (c ∷ cs) = IsRight w c × AllRight (world_after w c) cs

abbrev pub flatten : {A : Type 0} → List (List A) → List A
flatten [] = []
flatten (xs ∷ xss) = xs ++ flatten xss

-- all changes of a run, one after another
abbrev pub changes_of : {D I P : Type 0} → List (List (List (Change D I P))) → List (Change D I P)
changes_of [] = []
changes_of (css ∷ csss) = flatten css ++ changes_of csss

-- the token names this registration
abbrev pub Names : {D I P : Type 0} → World D I P → Token → Registration D → Type 0
Names w token r = (slice_get w.slots token.slot ≡ Some r) × (r.reuse % versions ≡ token.version)

-- a token keeps naming its registration, or names a later one whose reuse count is greater by a positive
-- multiple of the number of versions
abbrev pub NamesLater : {D I P : Type 0} → World D I P → World D I P → Type 0
NamesLater {D} {I} {P} w w' =
    (token : Token) (r r' : Registration D) → Names w token r → Names w' token r'
    → (r'.reuse ≡ r.reuse) ⊎ ((k : ℕ) × (0 < k) × (r'.reuse ≡ r.reuse + versions * k))

-- the state before these changes, and after each of them
abbrev pub moments_of : {D I P : Type 0} → World D I P → List (Change D I P) → List (World D I P)
moments_of w [] = w ∷ []
moments_of w (c ∷ cs) = w ∷ moments_of (world_after w c) cs

-- between this moment and each of these
abbrev pub AllBehind : {W : Type 0} → (W → W → Type 0) → W → List W → Type 0
AllBehind R w [] = Unit {0}
AllBehind R w (u ∷ us) = R w u × AllBehind R w us

-- between any two of these moments, the earlier one and the later
abbrev pub AnyTwo : {W : Type 0} → (W → W → Type 0) → List W → Type 0
AnyTwo R [] = Unit {0}
AnyTwo R (w ∷ ws) = AllBehind R w ws × AnyTwo R ws

abbrev pub AllNamesLater : {D I P : Type 0} → List (World D I P) → Type 0
AllNamesLater ws = AnyTwo NamesLater ws

-- a registration that was given up stays given up: under this reuse count nothing is in its slot any more
abbrev pub StaysGone : {D I P : Type 0} → World D I P → World D I P → Type 0
StaysGone {D} {I} {P} w w' =
    (i : ℕ) (r r' : Registration D) → slice_get w.slots i ≡ Some r → slice_get w'.slots i ≡ Some r' → r'.reuse ≡ r.reuse
    → is_free r ≡ true → is_free r' ≡ true

abbrev pub AllStayGone : {D I P : Type 0} → List (World D I P) → Type 0
AllStayGone ws = AnyTwo StaysGone ws

-- The armings of timers.

abbrev pub one : {A : Type 0} → (A → Bool) → A → ℕ
one p x = if p x then 1 else 0

-- how many satisfy the test
abbrev pub how_many : {A : Type 0} → (A → Bool) → List A → ℕ
how_many p [] = 0
how_many p (x ∷ xs) = one p x + how_many p xs

abbrev pub is_armed_as : (number : ℕ) → NumberedEntry → Bool
is_armed_as n a = nat_eq a.number n

abbrev pub is_due_as : (number : ℕ) → Origin → Bool
is_due_as n Elsewhere = false
is_due_as n (Due arming gathered) = nat_eq arming.number n

abbrev pub waits_as : (number : ℕ) → Waiting → Bool
waits_as n w = is_due_as n w.origin

abbrev pub is_number : (number : ℕ) → ℕ → Bool
is_number n m = nat_eq m n

abbrev pub is_arming_as : (number : ℕ) → Option Arming → Bool
is_arming_as n None = false
is_arming_as n (Some a) = nat_eq a.number n

abbrev pub is_call_as : (number : ℕ) → TimerCall → Bool
is_call_as n c = is_arming_as n c.arming

-- how often the arming of this number is in the deadlines, in the batch, among the cancelled ones, and among the
-- cut ones
abbrev pub places : (number : ℕ) → Ledger → ℕ
places n l =
    how_many (is_armed_as n) l.armed +
    (how_many (waits_as n) l.batch + (how_many (is_number n) l.cancelled + how_many (waits_as n) l.cut))

-- gathered when its deadline had come
abbrev pub OnTime : Origin → Type 0
OnTime Elsewhere = Unit {0}
OnTime (Due arming gathered) = arming.deadline.nanos ≤ gathered

abbrev pub AllOnTime : List Waiting → Type 0
AllOnTime [] = Unit {0}
AllOnTime (w ∷ ws) = OnTime w.origin × AllOnTime ws

abbrev pub is_same : Arming → Arming → Bool
is_same a b = nat_eq a.counter b.counter && (nat_eq a.number b.number && nat_eq a.deadline.nanos b.deadline.nanos)

-- it came from this arming, which was gathered when its deadline had come
abbrev pub is_timely : Arming → Origin → Bool
is_timely a Elsewhere = false
is_timely a (Due b gathered) = is_same a b && nat_le a.deadline.nanos gathered

abbrev pub came_timely : Arming → Waiting → Bool
came_timely a w = is_timely a w.origin

-- how often this arming was gathered when its deadline had come
abbrev pub timely : Ledger → Arming → ℕ
timely l a = how_many (came_timely a) l.batch + how_many (came_timely a) l.cut

-- a call belongs to an arming, which was gathered in time, and handed out its deadline
abbrev pub IsOwnCall : (gathered : Arming → ℕ) → TimerCall → Type 0
IsOwnCall gathered c = (a : Arming) × (c.arming ≡ Some a) × (a.deadline ≡ c.deadline) × (1 ≤ gathered a)

abbrev pub AllOwnCalls : (gathered : Arming → ℕ) → List TimerCall → Type 0
AllOwnCalls gathered [] = Unit {0}
AllOwnCalls gathered (c ∷ cs) = IsOwnCall gathered c × AllOwnCalls gathered cs

abbrev pub event_of : Waiting → Pending
event_of w = w.event

-- what the ledger says of a `Poll`
pub record IsLedgerOf {P : Type 0} (l : Ledger) (v : PollView P) : Type 0 where
  -- the armings in the deadlines are its deadlines, and those in the batch belong to its batch
  pub entries : map entry_in l.armed ≡ v.deadlines.entries
  pub events : map event_of l.batch ≡ v.batch
  -- each arming is in exactly one place
  pub placed : (number : ℕ) → places number l ≡ (if nat_lt number l.count then 1 else 0)
  -- none was gathered before its deadline
  pub batch_on_time : AllOnTime l.batch
  pub cut_on_time : AllOnTime l.cut
  -- each call belongs to an arming of its own, which was gathered in time, and handed out its deadline
  pub own : AllOwnCalls (timely l) l.calls
  pub once : (number : ℕ) → how_many (is_call_as number) l.calls ≤ 1
  pub gathered : (number : ℕ)
      → how_many (is_call_as number) l.calls ≤ how_many (waits_as number) l.batch + how_many (waits_as number) l.cut

-- a dispatcher that holds no counter, e.g. one that was never registered
abbrev pub HoldsNone : {D P X Q : Type 0} → Meaning D P (Lent X Q) → D → Type 0
HoldsNone m d = (counter : ℕ) → m.holds d counter ≡ Free

-- a replacement holds no counter that the replaced source doesn't hold, and each as that holds it
abbrev pub HoldsNoMore : {D P X Q : Type 0} → Meaning D P (Lent X Q) → (old new : D) → Type 0
HoldsNoMore m old new = (counter : ℕ) → IsWithin (m.holds new counter) (m.holds old counter)

-- and has no key that the replaced source doesn't have
abbrev pub HasNoMoreKeys : {D P X Q : Type 0} → Meaning D P (Lent X Q) → (old new : D) → Type 0
HasNoMoreKeys m old new = (key : ℕ) → m.keys new key → m.keys old key

-- every inserted source satisfies C; every replacement satisfies S relative to the one it replaces
abbrev pub Brings : {D I P : Type 0} → (D → Type 0) → (D → D → Type 0) → Change D I P → Type 0
Brings C S (Claim source) = C source
Brings C S (Swapped slot old new) = S old new
Brings C S change = Unit {0}

abbrev pub AllBring : {D I P : Type 0} → (D → Type 0) → (D → D → Type 0) → List (Change D I P) → Type 0
AllBring C S [] = Unit {0}
AllBring C S (c ∷ cs) = Brings C S c × AllBring C S cs

-- an inserted source holds no counter: each source is used with one loop. A source that was taken out no longer holds any,
-- so it may come again. A source that is changed in its slot, or exchanged there, holds at most what it held before.
abbrev pub IsFresh : {D P X Q : Type 0} → Meaning D P (Lent X Q) → D → Type 0
IsFresh m d = HoldsNone m d × m.fits d

abbrev pub IsNoMore : {D P X Q : Type 0} → Meaning D P (Lent X Q) → (old new : D) → Type 0
IsNoMore m old new = HoldsNoMore m old new × m.fits new

abbrev pub AllFresh : {D I P X Q : Type 0} → Meaning D P (Lent X Q) → List (Change D I P) → Type 0
AllFresh m cs = AllBring (IsFresh m) (IsNoMore m) cs

-- anything may be inserted; and no exchange brings a key into the loop
abbrev pub Any : {D : Type 0} → D → Type 0
Any d = Unit {0}

abbrev pub AllBringNoKey : {D I P X Q : Type 0} → Meaning D P (Lent X Q) → List (Change D I P) → Type 0
AllBringNoKey m cs = AllBring Any (HasNoMoreKeys m) cs

-- each of these is in the list once
abbrev pub AllOnce : List RegistrationToken → Type 0
AllOnce [] = Unit {0}
AllOnce (t ∷ ts) = (is_listed t ts ≡ false) × AllOnce ts

-- the registrations that are told of waits: each is in the list once, and names a slot that isn't vacant
pub record IsTold {D I P : Type 0} (w : World D I P) : Type 0 where
  pub once : AllOnce w.held.lifecycle
  pub full : (token : RegistrationToken) → is_listed token w.held.lifecycle ≡ true
      → is_empty (content_at (map slot_of w.slots) token) ≡ false

abbrev pub is_asked_as : {D I : Type 0} → (ticket : ℕ) → Asked D I → Bool
is_asked_as n a = nat_eq a.ticket n

abbrev pub is_answered_as : {D : Type 0} → (ticket : ℕ) → Answered D → Bool
is_answered_as n a = nat_eq a.ticket n

abbrev pub stands_as : (ticket : ℕ) → Option ℕ → ℕ
stands_as n None = 0
stands_as n (Some ticket) = one (is_number n) ticket

-- at how many places a ticket is: at a request that wasn't carried out yet, that is being carried out, or whose answer is owed,
-- or at an answer
abbrev pub times_standing : {D I : Type 0} → (ticket : ℕ) → Asks D I → ℕ
times_standing n q =
    how_many (is_asked_as n) q.written +
    (stands_as n q.serving + (stands_as n q.owed + how_many (is_answered_as n) q.answers))

-- a ticket that was given is at one place at most, or its answer was handed out, once; no other ticket is anywhere
abbrev pub IsTicketed : {D I P : Type 0} → World D I P → Type 0
IsTicketed w =
    (n : ℕ) → times_standing n w.held.asks + how_many (is_number n) w.handed ≤ (if nat_lt n w.held.asks.next then 1 else 0)

-- of these changes, and of the states between them
pub record IsSound {D I P : Type 0} (w : World D I P) (cs : List (Change D I P)) (moments : List (World D I P)) : Type 0 where
  pub reaches : AllRight w cs
  pub stale : AllNamesLater moments
  pub gone : AllStayGone moments
