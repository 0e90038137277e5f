-- The receiving end of a cell is registered by its registrations, and by nothing else.
use Rattle.std.specs.Prelude.{Ok, Err, is_some}
use Rattle.std.proofs.Common.{ap}
use Rattle.calloop_wake.specs.declared.Tally.{Tally}
use Rattle.calloop_sources.specs.sources.Deeds.{Registered, Reregistered, Unregistered, Turned, Slept, Noticed}
use Rattle.calloop_sources.specs.TransientMarks.{IsRegisteredBy}
use Rattle.calloop_ends.specs.cell.CellSources.{OpenTurns, cell_meaning}
use Rattle.calloop_ends.specs.cell.CellKeeping.{OpensQuietly, turn_quiet}

module _ {S P E M T Cause : Type 0} (tally : S → Tally) (Same : S → S → Type 0) (Opens : OpenTurns S E M T)
    (quiet : OpensQuietly tally Opens) where
  pub cell_is_registered : IsRegisteredBy (cell_meaning {P = P} {Cause = Cause} tally Same Opens) (λ s. is_some (tally s).key)
  cell_is_registered s t v (Registered f (Ok u) g) l ok h = ap (λ x. is_some x.key) h.0.2
  cell_is_registered s t v (Registered f (Err e) g) l ok h = (let no = ok in cc)
  cell_is_registered s t v (Reregistered f (Ok u) g) l ok h = ap (λ x. is_some x.key) h.0.2
  cell_is_registered s t v (Reregistered f (Err e) g) l ok h = (let no = ok in cc)
  cell_is_registered s t v (Unregistered (Ok u)) l ok h = ap (λ x. is_some x.key) h.0.2
  cell_is_registered s t v (Unregistered (Err e)) l ok h = (let no = ok in cc)
  cell_is_registered s t v (Slept gs a) l ok h = ap (λ (x : S). is_some (tally x).key) h.2
  cell_is_registered s t v (Noticed es) l ok h = ap (λ (x : S). is_some (tally x).key) h.1
  cell_is_registered s t v (Turned r k turn) l ok h = ap (λ x. is_some x) (turn_quiet tally Opens quiet s t k v.pass turn.calls turn.answer l h).key
