-- The marks of a loop's adapters. Calloop has none: its adapters call the poller at once.
use Rattle.std.specs.Prelude.{ℕ, List}
use Rattle.logbook.specs.Pages.{Book}
use Rattle.calloop_slots.specs.declared.token.RegistrationToken.{RegistrationToken}

-- the adapters that ask to be settled, in the order in which they were marked
pub record MarksView : Type 0 where
  pub marked : List RegistrationToken
  -- the number of adapters that need room: those in the loop, each of which is marked at most once
  pub adapters : ℕ
  -- the name of their loop's board
  pub name : Book
