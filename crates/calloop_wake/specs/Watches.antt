-- The board with the name of its watch, and the watch's notes of what was done to it for the loop: how many places were
-- open, whether a look found a posted key, which keys were taken within which room, and which marks. Only contracts see
-- them.
use Rattle.std.specs.Prelude.{List, [], ◌∷◌, ◌++◌}
use Rattle.logbook.specs.Pages.{Book}
use Rattle.calloop_wake.specs.declared.board.Place.{Place}
use Rattle.calloop_wake.specs.declared.notes.Note.{Note}
use Rattle.calloop_wake.specs.declared.watch.Watch.{Watch}

pub record Watched : Type 0 where
  pub places : List Place
  -- the name: no other board has it, and one watch
  pub name : Book

abbrev pub with_places : List Place → Watched → Watched
with_places places w = record w { places = places }

-- the watch with another note
abbrev pub with_note : Note → Watch → Watch
with_note note w = record w { notes = w.notes ++ note ∷ [] }
