-- How a board stores its places: in a map from the key to its position in a list of the posted keys, if it is posted; and
-- for one key of each slot, in an array by slot. calloop has the kernel's poller here, which keeps a tree of descriptors and
-- a list of the ready ones.
use Rattle.std.specs.Prelude.{
  ◌≡◌,
  ℕ,
  suc,
  ◌-◌,
  ◌≤◌,
  Bool,
  true,
  false,
  not,
  List,
  [],
  ◌∷◌,
  map,
  filter,
  length,
  nat_eq,
  nat_lt,
  slice_index_or,
  ◌<◌,
  if◌then◌else◌,
  Option,
  None,
  Some,
  is_some,
}
use Rattle.std.specs.Option.{option_map}
use Rattle.std.specs.Ordering.{nat_cmp}
use Rattle.std.specs.BTreeMap.{is_at}
use Rattle.std.specs.Map.{lookup}
use Rattle.std.specs.List.{list_any, IsDistinct}
use Rattle.calloop_wake.specs.declared.board.Place.{Place}
use Rattle.calloop_wake.specs.declared.places.SlotKey.{SlotKey}
use Rattle.calloop_wake.specs.Boards.{is_marked, IsAscending}
use Rattle.calloop_slots.specs.Tokens.{slot_of_key}

abbrev pub place_at : ℕ × Option ℕ → Place
place_at e = record { key = e.0; marked = is_some e.1 }

abbrev pub places_of : List (ℕ × Option ℕ) → List Place
places_of entries = map place_at entries

-- the entry of a key
abbrev pub standing_at : (key : ℕ) → List (ℕ × Option ℕ) → Option (Option ℕ)
standing_at key entries = lookup (is_at (nat_cmp key)) entries

-- the entry of a key at its slot, if the slot stores this key
abbrev pub of_key : (key : ℕ) → Option SlotKey → Option (Option ℕ)
of_key key None = None
of_key key (Some here) = if nat_eq here.key key then Some here.at else None

abbrev pub by_slot_at : (key : ℕ) → List (Option SlotKey) → Option (Option ℕ)
by_slot_at key slots = of_key key (slice_index_or slots (slot_of_key key) None)

-- the entry of a key: what its slot stores, or otherwise what the map has
abbrev pub or_by_map : Option (Option ℕ) → Option ℕ → Option ℕ
or_by_map None at = at
or_by_map (Some here) at = here

-- the map, together with what the slots store
abbrev pub with_slots : List (Option SlotKey) → List (ℕ × Option ℕ) → List (ℕ × Option ℕ)
with_slots slots entries = map (λ e. (e.0, or_by_map (by_slot_at e.0 slots) e.1)) entries

-- the slot of a key stores no other one
abbrev pub IsFree : (key : ℕ) → List (Option SlotKey) → Type 0
IsFree key slots = (q : ℕ) → nat_eq q key ≡ false → slot_of_key q ≡ slot_of_key key → by_slot_at q slots ≡ None

-- each key in a slot is open
abbrev pub AreOpen : List (Option SlotKey) → List (ℕ × Option ℕ) → Type 0
AreOpen slots entries = (key : ℕ) → is_some (by_slot_at key slots) ≡ true → is_some (standing_at key entries) ≡ true

-- the key has a place, and isn't posted
abbrev pub is_quiet : Option (Option ℕ) → Bool
is_quiet None = false
is_quiet (Some at) = not (is_some at)

-- the position of the key among the posted ones
abbrev pub posted_at : Option (Option ℕ) → Option ℕ
posted_at None = None
posted_at (Some at) = at

-- the posted keys, ascending as the places
abbrev pub posted_keys : List Place → List ℕ
posted_keys ps = map (λ p. p.key) (filter (λ p. p.marked) ps)

-- the invariant of a board: the list has each posted key once, and the map has its position; there is room for all open keys
pub record IsBoard (entries : List (ℕ × Option ℕ)) (posted : List ℕ) (capacity : ℕ) : Type 0 where
  pub ascending : IsAscending (places_of entries)
  pub once : IsDistinct nat_eq posted
  pub same : (key : ℕ) → list_any (nat_eq key) posted ≡ is_marked key (places_of entries)
  pub standing : (key i : ℕ) → standing_at key entries ≡ Some (Some i)
      → (i < length posted) × ((d : ℕ) → slice_index_or posted i d ≡ key)
  pub room : length entries ≤ capacity

-- the places with this entry for a key, or with none
abbrev pub Changes : (key : ℕ) → Option (Option ℕ) → List (ℕ × Option ℕ) → List (ℕ × Option ℕ) → Type 0
Changes key to entries after = (q : ℕ) → standing_at q after ≡ (if nat_eq key q then to else standing_at q entries)

-- how many keys stand before a key in a list, if it is there
abbrev pub index_of : (key : ℕ) → List ℕ → Option ℕ
index_of key [] = None
index_of key (k ∷ ks) = if nat_eq k key then Some 0 else option_map (λ i. suc i) (index_of key ks)

-- the position of a key after so many of the first are gone
abbrev pub left_at : (gone i : ℕ) → Option ℕ
left_at gone i = if nat_lt i gone then None else Some (i - gone)

-- the entry of a place after so many of the first are gone, by the position of its key
abbrev pub place_after : (gone : ℕ) → Option ℕ → Option (Option ℕ) → Option (Option ℕ)
place_after gone None before = before
place_after gone (Some i) before = Some (left_at gone i)
