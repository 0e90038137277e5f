-- The view of the receiving end of a cell.
use Rattle.calloop_wake.specs.declared.Tally.{Tally}

-- its tally, and the tag of its cell, which never changes
pub record CellEnd (T : Type 0) : Type 0 where
  pub tally : Tally
  pub tag : T
