-- Values that carry a key, as clients see them: each has the name of the board of its key, so it is spent there.
-- A name is a Book of the kit's logbook, of which only one thing is known: whether it is another's name.
use Rattle.std.specs.Prelude.{◌≡◌, ℕ, List, [], ◌∷◌, Option, Some, None}
use Rattle.logbook.specs.Pages.{Book}

-- a Debt, an OpenedPass or a ClosePermit: a key of the board of this name; calloop's poller alone knows its
-- descriptors' keys
pub record Keyed : Type 0 where
  pub key : ℕ
  pub board : Book

-- the key of this board, if there is one
abbrev pub on : Book → Option ℕ → Option Keyed
on board None = None
on board (Some k) = Some (record { key = k; board = board })

-- a TakenPass: a key that was taken from the board; calloop's poller returns such keys as events, which can be dropped
pub record Taken : Type 0 where
  pub key : ℕ
  pub board : Book
  -- the name of the cell that refused to open a turn with it
  pub refused : Option Book

-- all of them are of the board of this name
abbrev pub AreOf : Book → List Taken → Type 0
AreOf board [] = Unit {0}
AreOf board (p ∷ ps) = (p.board ≡ board) × AreOf board ps

-- the key goes back to its board
abbrev pub given_back : Taken → Keyed
given_back p = record { key = p.key; board = p.board }
