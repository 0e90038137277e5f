-- The registrations of a loop's sources.
use Rattle.std.specs.Prelude.{◌≡◌, ℕ, ◌%◌, Some, slice_get}
use Rattle.calloop_slots.specs.Widths.{versions}
use Rattle.calloop_slots.specs.declared.list.Content.TheVariants.{Source}
use Rattle.calloop_sources.specs.sources.Deeds.{Lent}
use Rattle.calloop_sources.specs.sources.Meanings.{Meaning, IsAtHome}
use Rattle.calloop_loop.specs.Machine.{World, Registration}

-- each source in a slot has keys of that slot alone, under its reuse count modulo the number of versions
abbrev pub AllAtHome : {D I P X Q : Type 0} → Meaning D P (Lent X Q) → World D I P → Type 0
AllAtHome {D} M w =
    (i : ℕ) (r : Registration D) (d : D) → slice_get w.slots i ≡ Some r → r.content ≡ Source d
    → IsAtHome M (record { slot = i; version = r.reuse % versions }) d
