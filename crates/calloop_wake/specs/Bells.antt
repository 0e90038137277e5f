-- The bell beside a queue: what a channel's cell has beside its messages, and the steps on it. Its fields are those of
-- every cell, of which only a ping uses `rung`.
use Rattle.std.specs.Prelude.{ℕ, Bool, true, false, ◌||◌, if◌then◌else◌, Option, None}
use Rattle.logbook.specs.Pages.{Book}
use Rattle.calloop_wake.specs.Cells.{Cell, debt_of}

-- a bell, with the name of its cell and the name of the board of its key
pub record BellView : Type 0 where
  pub cell : Cell
  -- no other cell has it
  pub name : Book
  -- means nothing without a key
  pub board : Book

abbrev pub bell_with : Cell → BellView → BellView
bell_with c b = record b { cell = c }

-- the key is posted, or about to be; in calloop a sender's Ping writes to the descriptor
abbrev pub after_ping : Cell → Cell
after_ping c = record c { pinged = true }

-- a turn is open; calloop's PingSource reads the descriptor empty
abbrev pub after_drain : Cell → Cell
after_drain c = record c { pinged = false; draining = true }

-- the turn is over, and pings if it stopped early; calloop's Channel rings its own Ping
abbrev pub after_end : (early : Bool) → Cell → Cell
after_end early c = record c { draining = false; pinged = early || c.pinged }

-- the debt from the end of a turn
abbrev pub owed_if : (early : Bool) → Cell → Option ℕ
owed_if early c = if early then debt_of c else None

-- a close is told
abbrev pub after_tell_close : Cell → Cell
after_tell_close c = record c { told = c.closed || c.told }
