-- The board: one place for each open key, in ascending order of the keys. Calloop has the kernel's poller here: a place
-- is a descriptor in its table, and a mark says that it is ready.
use Rattle.std.specs.Prelude.{
  ℕ,
  zero,
  suc,
  Bool,
  false,
  ◌&&◌,
  ◌||◌,
  not,
  if◌then◌else◌,
  List,
  [],
  ◌∷◌,
  nat_eq,
  nat_lt,
  map,
  filter,
  ◌<◌,
  ◌-◌,
  ◌^◌,
  None,
}
use Rattle.std.specs.List.{list_any}
use Rattle.logbook.specs.Pages.{Book}
use Rattle.calloop_wake.specs.declared.board.Place.{Place}
use Rattle.calloop_wake.specs.Passes.{Taken}

-- a place for this key, not marked: a descriptor that is added, and not ready
abbrev pub place : ℕ → Place
place k = record { key = k; marked = false }

-- the key has a place
abbrev pub is_open : ℕ → List Place → Bool
is_open k ps = list_any (λ p. nat_eq p.key k) ps

-- the key has a place, and is posted
abbrev pub is_marked : ℕ → List Place → Bool
is_marked k ps = list_any (λ p. nat_eq p.key k && p.marked) ps

-- some key is posted, so the poller would not wait
abbrev pub any_marked : List Place → Bool
any_marked ps = list_any (λ p. p.marked) ps

-- the place goes behind all lesser keys; calloop's Poll::register adds a descriptor, in no order
abbrev pub after_open_place : ℕ → List Place → List Place
after_open_place k [] = place k ∷ []
after_open_place k (p ∷ ps) = if nat_lt k p.key then place k ∷ p ∷ ps else p ∷ after_open_place k ps

-- the place is removed, with its mark; calloop's Poll::unregister deletes a descriptor
abbrev pub after_close_place : ℕ → List Place → List Place
after_close_place k ps = filter (λ p. not (nat_eq p.key k)) ps

-- the place, marked if it is the key's
abbrev pub marked_at : ℕ → Place → Place
marked_at k p = record { key = p.key; marked = p.marked || nat_eq p.key k }

-- the key's place is marked, if it has one; in calloop a write makes the descriptor ready
abbrev pub after_post : ℕ → List Place → List Place
after_post k ps = map (marked_at k) ps

-- posting this key sets a new mark: the key has a place without one. In calloop a write wakes the kernel's wait, which
-- reports the descriptor; here the post returns a wakeup that wakes it
abbrev pub wakes : ℕ → List Place → Bool
wakes k ps = list_any (λ p. nat_eq p.key k && not p.marked) ps

-- the key is posted, and below this bound
abbrev pub is_taken : (below : ℕ) → Place → Bool
is_taken below p = p.marked && nat_lt p.key below

-- the place, without its mark if its key is taken
abbrev pub without_mark : (below : ℕ) → Place → Place
without_mark below p = record { key = p.key; marked = p.marked && not (nat_lt p.key below) }

-- no place below this bound is marked; calloop's poller takes the events in the same way
abbrev pub after_unpost : (below : ℕ) → List Place → List Place
after_unpost below ps = map (without_mark below) ps

-- the marked keys below this bound, ascending; the kernel promises no order of its events
abbrev pub taken_keys : (below : ℕ) → List Place → List ℕ
taken_keys below ps = map (λ p. p.key) (filter (is_taken below) ps)

-- the bound below which there is room for all posted keys: the first posted key without room, or otherwise the poller's
-- own key
abbrev pub bound : (room : ℕ) → List Place → ℕ
bound room [] = 2 ^ 64 - 1
bound zero (p ∷ ps) = if p.marked then p.key else bound zero ps
bound (suc room) (p ∷ ps) = if p.marked then bound room ps else bound (suc room) ps

-- the lowest posted keys, as many as there is room for; in calloop that is the room of the poller's buffer
abbrev pub keys_within : (room : ℕ) → List Place → List ℕ
keys_within room ps = taken_keys (bound room ps) ps

-- the pass of a key that was just taken from the board of this name
abbrev pub fresh_pass : Book → ℕ → Taken
fresh_pass board k = record { key = k; board = board; refused = None }

-- each key is above this one, and below the poller's own, which no token has
abbrev pub AllAbove : ℕ → List Place → Type 0
AllAbove k [] = k < 2 ^ 64 - 1
AllAbove k (p ∷ ps) = (k < p.key) × AllAbove k ps

-- each key is below all later ones, and a token's
abbrev pub IsAscending : List Place → Type 0
IsAscending [] = Unit {0}
IsAscending (p ∷ ps) = AllAbove p.key ps × IsAscending ps

-- each number of a list is greater than this one, and less than the poller's own key
abbrev pub AllGreater : ℕ → List ℕ → Type 0
AllGreater k [] = k < 2 ^ 64 - 1
AllGreater k (j ∷ js) = (k < j) × AllGreater k js

-- each number is less than all later ones, and the key of a token
abbrev pub IsRising : List ℕ → Type 0
IsRising [] = Unit {0}
IsRising (k ∷ ks) = AllGreater k ks × IsRising ks
