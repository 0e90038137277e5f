-- The batch of events that wait for their turn, and the passes of the posted ones among them.
use Rattle.std.specs.Prelude.{◌≡◌, ℕ, ◌≤◌, ◌∷◌, [], List, map, length, filter, Option, IfSome}
use Rattle.logbook.specs.Pages.{Book}
use Rattle.calloop_slots.specs.Tokens.{key_of}
use Rattle.calloop_wake.specs.Boards.{IsRising}
use Rattle.calloop_wake.specs.Passes.{Taken, AreOf}
use Rattle.calloop_wake.specs.declared.watch.Watch.{Watch}
use Rattle.calloop_poll.specs.declared.sys.Readiness.{Readiness}
use Rattle.calloop_poll.specs.declared.sys.poll.Pending.{Pending}

-- the waiting events, the passes of the posted ones among them, and the pass of the event whose turn it is
pub record BatchView : Type 0 where
  pub events : List Pending
  pub passes : List Taken
  pub pass : Option Taken
  -- how many events wait, up to the poller's last one
  pub polled : ℕ
  -- what the loop did to the board
  pub watch : Watch
  -- the free room for further events and for further passes
  pub room : ℕ
  pub pass_room : ℕ

abbrev pub key_of_pass : Taken → ℕ
key_of_pass t = t.key

-- the keys of the posted events
abbrev pub posted_keys : List Pending → List ℕ
posted_keys events = map (λ e. key_of e.token) (filter (λ e. e.posted) events)

-- each posted event has its pass: they have the same keys in the same order; calloop's events have none
abbrev pub IsInStep : List Pending → List Taken → Type 0
IsInStep events passes = map key_of_pass passes ≡ posted_keys events

-- what must be true of a batch over the board of this name: it is in step, and its passes, with that of the event whose
-- turn it is, are of that board; the poller's last event is among the events that wait
pub record IsBatchOf (board : Book) (events : List Pending) (passes : List Taken) (pass : Option Taken) (polled : ℕ)
    : Type 0 where
  pub in_step : IsInStep events passes
  pub own : AreOf board passes
  pub own_turn : IfSome pass (λ p. p.board ≡ board)
  pub within : polled ≤ length events

-- up to which place the poller's events go among those that wait, after it appended `given` behind `before` others
abbrev pub last_polled : (before : ℕ) → (given : List (ℕ × Readiness)) → (waiting : ℕ) → ℕ
last_polled before [] waiting = before
last_polled before (_ ∷ _) waiting = waiting

-- the keys that one gathering may take from a board whose places were counted as `places`; calloop's poller hands out any
abbrev pub ArePosted : (places : ℕ) → List ℕ → Type 0
ArePosted places posted = IsRising posted × (length posted ≤ places)
