-- The set of vacant slots, as bits in levels of words, the highest level first: a bit above the lowest level stands for
-- a word of the level below, so that the first vacancy is found without a walk. calloop has no set, and walks.
use Rattle.std.specs.Prelude.{
  ◌≡◌,
  ℕ,
  zero,
  suc,
  ◌*◌,
  ◌/◌,
  ◌%◌,
  ◌^◌,
  ◌<◌,
  ◌≤◌,
  Bool,
  true,
  false,
  not,
  if◌then◌else◌,
  nat_eq,
  nat_lt,
  List,
  [],
  ◌∷◌,
  ◌++◌,
  length,
  get_or,
}
use Rattle.std.specs.Int.{bit_at}
use Rattle.calloop_slots.specs.Widths.{most_slots, level_count}
use Rattle.calloop_slots.specs.declared.list.Slot.{Slot}
use Rattle.calloop_slots.specs.declared.vacancies.Taken.{Taken}
use Rattle.calloop_slots.specs.Slots.{is_vacant}

-- a word; 0 past the last
abbrev pub word_at : List ℕ → ℕ → ℕ
word_at words i = get_or words i 0

-- true if bit i is set, with 64 bits in each word
abbrev pub is_set : List ℕ → ℕ → Bool
is_set words i = nat_eq (bit_at (word_at words (i / 64)) (i % 64)) 1

-- true if a word isn't 0
abbrev pub is_filled : List ℕ → ℕ → Bool
is_filled words i = not (nat_eq (word_at words i) 0)

-- the meaning of bit i above these levels: word i of the highest isn't 0, or above no level, slot i is vacant
abbrev pub bit_above : (vacant : ℕ → Bool) → List (List ℕ) → ℕ → Bool
bit_above vacant [] i = vacant i
bit_above vacant (words ∷ below) i = is_filled words i

-- bit i of the lowest level is set if slot i is vacant, and bit i of another if word i of the level below isn't 0
abbrev pub AreLevels : (vacant : ℕ → Bool) → List (List ℕ) → Type 0
AreLevels vacant [] = Unit {0}
AreLevels vacant (words ∷ below) = ((i : ℕ) → is_set words i ≡ bit_above vacant below i) × AreLevels vacant below

-- the index of the word over a slot in the highest level; with no level, the slot
abbrev pub place : List (List ℕ) → (slot : ℕ) → ℕ
place levels slot = slot / 2 ^ (6 * length levels)

-- each level has the word over this slot
abbrev pub HasBits : List (List ℕ) → (slot : ℕ) → Type 0
HasBits [] slot = Unit {0}
HasBits (words ∷ below) slot = (place (words ∷ below) slot < length words) × HasBits below slot

-- the vacant slots, except that this one is vacant or not as given
abbrev pub with_slot : (slot : ℕ) → Bool → (ℕ → Bool) → ℕ → Bool
with_slot slot b vacant i = if nat_eq i slot then b else vacant i

-- the words with a 0 appended, if they end at this index or before
abbrev pub with_place : (place : ℕ) → List ℕ → List ℕ
with_place place words = if nat_lt place (length words) then words else words ++ 0 ∷ []

-- the levels with the word over this slot in each
abbrev pub grown : (slot : ℕ) → List (List ℕ) → List (List ℕ)
grown slot [] = []
grown slot (words ∷ below) = with_place (place (words ∷ below) slot) words ∷ grown slot below

-- what holds after the first vacant slot below the word at an index is taken out of the levels, if that word isn't 0:
-- it was vacant, no earlier slot was if all earlier words are 0, and the levels and the word describe the others then
pub record Takes (vacant : ℕ → Bool) (at : ℕ) (taken : Taken) (old new : List (List ℕ)) : Type 0 where
  pub there : 0 < length old → bit_above vacant old at ≡ true
  pub found : bit_above vacant old at ≡ true → vacant taken.slot ≡ true
  pub least : ((q : ℕ) → q < at → bit_above vacant old q ≡ false) → (j : ℕ) → j < taken.slot → vacant j ≡ false
  pub levels : bit_above vacant old at ≡ true → AreLevels (with_slot taken.slot false vacant) new
  pub above : bit_above vacant old at ≡ true → (q : ℕ)
      → bit_above (with_slot taken.slot false vacant) new q ≡ with_slot at (not taken.emptied) (bit_above vacant old) q

-- the first vacant slot
pub record IsFirst (vacant : ℕ → Bool) (slot : ℕ) : Type 0 where
  pub found : vacant slot ≡ true
  pub least : (j : ℕ) → j < slot → vacant j ≡ false

-- the highest level has at most this many words, and each other at most one for each bit of the level above it
abbrev pub IsCovered : (most : ℕ) → List (List ℕ) → Type 0
IsCovered most [] = Unit {0}
IsCovered most (words ∷ below) = (length words ≤ most) × IsCovered (64 * length words) below

-- the number of levels that all slots need; the highest has one word or none, and each other has no word without a bit
-- above it
abbrev pub AreEnough : List (List ℕ) → Type 0
AreEnough levels = (length levels ≡ level_count) × IsCovered 1 levels

-- this many levels with no word
abbrev pub no_words : (count : ℕ) → List (List ℕ)
no_words zero = []
no_words (suc n) = [] ∷ no_words n

-- true if the list has this slot and it is vacant
abbrev pub is_vacant_in : {S : Type 0} → List (Slot S) → ℕ → Bool
is_vacant_in [] i = false
is_vacant_in (s ∷ ss) zero = is_vacant s
is_vacant_in (s ∷ ss) (suc i) = is_vacant_in ss i

-- the invariant of a source list: the levels have the bits of each slot, and say which slots are vacant
pub record TellVacant {S : Type 0} (slots : List (Slot S)) (levels : List (List ℕ)) : Type 0 where
  pub few : length slots ≤ most_slots
  pub bits : (i : ℕ) → i < length slots → HasBits levels i
  pub told : AreLevels (is_vacant_in slots) levels
