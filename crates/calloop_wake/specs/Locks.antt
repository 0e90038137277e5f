-- What holds of a lock between any two steps, and of its holder. A lock is a table with one word and one slot. A contract
-- sees a Locked as the tag that it was made under.
use Rattle.std.specs.Prelude.{◌≡◌, ℕ, ◌+◌, ◌∷◌, [], List, slice_index, length}
use mathlib.Core.Option.{some}
use lib.ListN.{get_elem?}
use Rattle.atomic_table.specs.Table.{State}
use Rattle.atomic_table.specs.Seated.{TableId}

abbrev pub HasOneSlot : TableId → Type 0
HasOneSlot id = (id.words ≡ 1) × (id.slots ≡ 1)

module _ {S : Type 0} where
  -- the content was taken last
  abbrev pub IsOut : List (ℕ × S) → Type 0
  IsOut [] = ⊥
  IsOut (x ∷ xs) = x.0 ≡ 0

  -- what was taken last satisfies this
  abbrev pub OfContent : (S → Type 0) → List (ℕ × S) → Type 0
  OfContent P [] = ⊥
  OfContent P (x ∷ xs) = P x.1

  -- the content is taken, and satisfies this
  abbrev pub IsTaken : (S → Type 0) → List (ℕ × S) → Type 0
  IsTaken P taken = IsOut taken × OfContent P taken

module _ {S : Type 0} (fits : S → Type 0) (hints : ℕ → S → Type 0) where
  -- the word n + 2 of a free lock is the hint n of its content; the word 0 is no hint
  abbrev pub IsHinted : (word : ℕ) → S → Type 0
  IsHinted word content = (n : ℕ) → word ≡ n + 2 → hints n content

  -- while nobody held the lock, the hint was true of its content
  abbrev pub WasHinted : ℕ → Type 0
  WasHinted n = (content : S) × fits content × hints n content

  -- the same for the hint of a word that was found
  abbrev pub WasHintedBy : (word : ℕ) → Type 0
  WasHintedBy word = (n : ℕ) → word ≡ n + 2 → WasHinted n

  -- if the word isn't 1, the content is in the lock, fits, and satisfies the word's hint
  abbrev pub IsLock : {V : Type 0} → State S V → Type 0
  IsLock {V} s = (length s.words ≡ 1)
      × (¬ (slice_index s.words 0 ≡ 1) → (content : S) × (get_elem? s.homes 0 ≡ some (some content))
      × fits content × IsHinted (slice_index s.words 0) content)
