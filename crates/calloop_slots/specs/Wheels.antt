-- How a wheel stores the armed deadlines: a tree from deadline and counter to the token, and a table from the counter
-- to the deadline. calloop has only a heap, and walks it to cancel.
use Rattle.std.specs.Prelude.{◌≡◌, ℕ, nat_eq, ◌∷◌, [], List, map, if◌then◌else◌, Option, None, Some}
use Rattle.std.specs.Map.{lookup}
use Rattle.calloop_slots.specs.declared.token.Token.{Token}
use Rattle.calloop_slots.specs.declared.wheel.Due.{Due}
use Rattle.calloop_slots.specs.declared.wheel.Entry.{Entry}
use Rattle.calloop_slots.specs.declared.wheel.Instant.{Instant}
use Rattle.calloop_slots.specs.Deadlines.{is_of, IsOrdered}

abbrev pub entry_at : Due × Token → Entry
entry_at p = record { deadline = p.0.deadline; counter = p.0.counter; token = p.1 }

abbrev pub entries_of : List (Due × Token) → List Entry
entries_of by_due = map entry_at by_due

abbrev pub first_key : List (Due × Token) → Option Due
first_key [] = None
first_key (p ∷ ps) = Some p.0

-- the deadline of a counter
abbrev pub deadline_of : (counter : ℕ) → List Entry → Option Instant
deadline_of counter [] = None
deadline_of counter (e ∷ es) = if is_of counter e then Some e.deadline else deadline_of counter es

-- the second map has the deadline of each counter's entry
abbrev pub NameTheSame : List Entry → (by_counter : List (ℕ × Instant)) → Type 0
NameTheSame entries by_counter =
    (counter : ℕ) → lookup (nat_eq counter) by_counter ≡ deadline_of counter entries

-- both tables have the same deadline for each counter, as before and after one is shrunk
abbrev pub HaveTheSame : (old new : List (ℕ × Instant)) → Type 0
HaveTheSame old new = (counter : ℕ) → lookup (nat_eq counter) new ≡ lookup (nat_eq counter) old

-- the invariant of a wheel
pub record IsWheel (by_due : List (Due × Token)) (by_counter : List (ℕ × Instant)) (next : ℕ) : Type 0 where
  pub ordered : IsOrdered (record { entries = entries_of by_due; next = next })
  pub same : NameTheSame (entries_of by_due) by_counter
