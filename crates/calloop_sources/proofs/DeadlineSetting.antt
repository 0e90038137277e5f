-- Sources whose deadline is set.
use Rattle.std.proofs.Common.{◌≡◌, Bool, true, false}
use Rattle.calloop_slots.specs.declared.wheel.Instant.{Instant}
use Rattle.calloop_sources.specs.sources.Meanings.{Meaning, seen_as}
use Rattle.calloop_sources.specs.sources.SetDeadlines.{SetsDeadline}

-- a value that is seen as a source whose deadline is set
pub seen_set : {D A P T : Type 0} (see : D → A) (m : Meaning A P T) (deadline : Instant) (s t : D) (set : Bool)
    → (see t ≡ see s → t ≡ s) → SetsDeadline m deadline (see s) set (see t)
    → SetsDeadline (seen_as see m) deadline s set t
seen_set see m deadline s t true same h = (
  λ v f g steps u. h.0 v f g steps (see u),
  record { holds = h.1.holds; keys = h.1.keys; fits = h.1.fits; needs = h.1.needs; limit = h.1.limit; role = h.1.role },
)
seen_set see m deadline s t false same h = same h
