-- What a locked board returns. Other threads post on it too, so no contract says which keys are posted; what the board
-- returned is in the loop's watch of it.
use Rattle.std.specs.Prelude.{◌≡◌, ℕ, ◌+◌, ◌≤◌, List, ◌++◌, map, length}
use Rattle.calloop_wake.specs.Passes.{Taken}
use Rattle.calloop_wake.specs.Boards.{fresh_pass, IsRising}
use Rattle.calloop_wake.specs.Watches.{with_note}
use Rattle.calloop_wake.specs.declared.watch.Watch.{Watch}
use Rattle.calloop_wake.specs.declared.notes.Note.TheVariants.{Unposted}

-- some keys were taken, ascending, at most as many as there was room for; the watch noted it, and for each key a pass of
-- its board was appended; calloop's poller appends its events to a list
pub record HasUnposted (room : ℕ) (watch watch' : Watch) (before after : List Taken)
    (len_before len_after : ℕ) : Type 0 where
  pub posted : List ℕ
  pub rising : IsRising posted
  pub few : length posted ≤ room
  pub seen : watch' ≡ with_note (Unposted room posted) watch
  pub appended : after ≡ before ++ map (fresh_pass watch.name) posted
  pub counted : len_after ≡ len_before + length posted
