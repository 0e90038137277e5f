-- The places of an executor's futures. In calloop async_task keeps each with its task.
use Rattle.std.specs.Prelude.{ℕ, Bool, List, [], Option, Some, None, slice_index_or}
use Rattle.logbook.specs.Pages.{Book}
use Rattle.slab.specs.Slab.{Slab}
use Rattle.calloop_wake.specs.declared.homes.Place.{Place}

-- the places, each with its content if it is in use
pub record HomesView (F : Type 0) : Type 0 where
  pub places : List (Option (Place F))
  -- the executor was dropped, and its futures with it
  pub gone : Bool
  -- the name of the executor's cell
  pub name : Book

abbrev pub place_in : {F : Type 0} → HomesView F → ℕ → Option (Place F)
place_in h home = slice_index_or h.places home None

-- none once the executor is gone
abbrev pub places_of : {F : Type 0} → Option (Slab (Place F)) → List (Option (Place F))
places_of None = []
places_of (Some slab) = slab.slots
