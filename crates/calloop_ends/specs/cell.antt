-- The definitions that the contracts of `cell` cite.
pub mod CellEnds
pub mod CellSources
pub mod CellKeeping
