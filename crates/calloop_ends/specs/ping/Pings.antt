-- A ping as a source: its registration and its turn. calloop's ping is a file that is written and read. Here it is a cell under
-- its lock and a place on the board under another, so their content isn't seen: the cell's answer to a pass comes from outside.
-- The view of a source is its tally, which has the key that it gave the cell.
use Rattle.std.specs.Prelude.{◌≡◌, ℕ, ◌+◌, List, [], ◌∷◌, Bool, true, false, if◌then◌else◌}
use Rattle.calloop_wake.specs.declared.Tally.{Tally}
use Rattle.calloop_wake.specs.Cells.{one}
use Rattle.calloop_sources.specs.declared.sources.source.PostAction.{PostAction}
use Rattle.calloop_sources.specs.declared.sources.source.PostAction.TheVariants.{Continue, Remove}
use Rattle.calloop_sources.specs.sources.Calls.{CallbackCall}
use Rattle.calloop_sources.specs.sources.Deeds.{Deed, Heard}
use Rattle.calloop_sources.specs.sources.Meanings.{Meaning}
use Rattle.calloop_poll.specs.sys.Polls.{PollView, PollStep}
use Rattle.calloop_ends.specs.cell.CellSources.{OpenTurns, IsCell, cell_keys, cell_meaning}
use Rattle.calloop_ends.specs.declared.ping.source.PingError.{PingError}

-- the calls of a ping's callback
abbrev pub PingCalls : Type 0
PingCalls = List (CallbackCall (Unit {0}) (Unit {0}) (Unit {0}))

-- one call if the source was rung, and else none
abbrev pub calls_of : (rang : Bool) → PingCalls
calls_of true = record { event = tt; before = tt; after = tt; answer = tt } ∷ []
calls_of false = []

-- the answer of a turn: a close that it tells removes the source; calloop answers so when it reads the mark of a close
abbrev pub action_of : (told : Bool) → PostAction
action_of told = if told then Remove else Continue

-- the tally of a source, after a turn was opened that took this ring and told this close
abbrev pub tally_opened : (rung told : Bool) → Tally → Tally
tally_opened rung told tally =
    record tally { turns = tally.turns + 1; number = tally.number + one rung; closes = tally.closes + one told }

-- A turn takes the ring and the close that were due: the source is called if it took a ring, and removed if it tells the close.
-- In calloop process_events reads the descriptor empty.
abbrev pub PingOpens : OpenTurns Tally (Unit {0}) (Unit {0}) (Unit {0})
PingOpens tally calls action after =
    (rung : Bool) × (told : Bool) × (calls ≡ calls_of rung) × (action ≡ action_of told)
    × (after ≡ tally_opened rung told tally)

-- the view of a ping's source is its tally
abbrev pub ping_tally : Tally → Tally
ping_tally tally = tally

-- its cell stays the same one
abbrev pub SamePing : (before after : Tally) → Type 0
SamePing before after = after.name ≡ before.name

abbrev pub IsPing : {P : Type 0} → Tally → PollView P → Deed (Heard (Unit {0}) (Unit {0}) (Unit {0}) PingError)
    → List (PollStep P) → Tally → Type 0
IsPing before v deed steps after = IsCell ping_tally SamePing PingOpens before v deed steps after

-- the key that the source gave its cell
abbrev pub ping_keys : Tally → (key : ℕ) → Type 0
ping_keys tally key = cell_keys ping_tally tally key

abbrev pub ping_meaning : {P : Type 0} → Meaning Tally P (Heard (Unit {0}) (Unit {0}) (Unit {0}) PingError)
ping_meaning = cell_meaning ping_tally SamePing PingOpens
