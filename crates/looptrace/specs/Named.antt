-- The sources of a script under their names, as a map holds them: by their bytes in order, each name once.
use Rattle.std.specs.Prelude.{ℕ, List, Bool, Option, None, is_some}
use Rattle.std.specs.Option.{option_and_then}
use Rattle.std.specs.Ordering.{nat_cmp}
use Rattle.std.specs.Cmp.Lexicographic.{slice_cmp}
use Rattle.std.specs.BTreeMap.{insert_entry, is_at}
use Rattle.std.specs.Map.{lookup, set_value}
use Rattle.logbook.specs.Pages.{Book}

-- a source's name and, while its ping is open, the name of its cell
abbrev pub Named : Type 0
Named = List ℕ × Option Book

-- the entry under this name
abbrev pub stands_under : (name : List ℕ) → List Named → Option (Option Book)
stands_under name ss = lookup (is_at (slice_cmp nat_cmp name)) ss

-- some source has the name
abbrev pub is_taken : (name : List ℕ) → List Named → Bool
is_taken name ss = is_some (stands_under name ss)

-- the cell of the open ping of this name
abbrev pub ping_named : (name : List ℕ) → List Named → Option Book
ping_named name ss = option_and_then (λ ping. ping) (stands_under name ss)

-- the sources with this one under its name
abbrev pub with_source : (name : List ℕ) → (ping : Option Book) → List Named → List Named
with_source name ping ss = insert_entry (slice_cmp nat_cmp) ss name ping

-- the source of this name has no open ping any more; its name stays
abbrev pub without_ping : (name : List ℕ) → List Named → List Named
without_ping name ss = set_value (is_at (slice_cmp nat_cmp name)) ss None
