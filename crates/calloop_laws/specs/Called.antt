-- From a posted key to its turn: if a cell is posted when a dispatch takes keys, its source has a turn in that dispatch, which
-- the cell opens; a rung ping's callback is called. In calloop a descriptor stays readable until `process_events` reads it.
use Rattle.std.specs.Prelude.{◌≡◌, ◌≢◌, ℕ, ◌+◌, true, false, List, [], ◌∷◌, ◌++◌, Some, Result, Ok}
use Rattle.calloop_slots.specs.declared.error.Error.{Error}
use Rattle.calloop_slots.specs.declared.list.Content.TheVariants.{Source}
use Rattle.calloop_slots.specs.Slots.{content_at}
use Rattle.calloop_slots.specs.Tokens.{registration_of}
use Rattle.calloop_wake.specs.declared.Tally.{Tally}
use Rattle.calloop_wake.specs.Cells.{CoreView, one, tally_after_open_turn}
use Rattle.calloop_wake.specs.declared.notes.Note.{Note}
use Rattle.calloop_wake.specs.declared.notes.Note.TheVariants.{Unposted}
use Rattle.calloop_wake_laws.specs.Kinds.{First, Born, every_kind, new_cell}
use Rattle.calloop_wake_laws.specs.Wakes.{Kind, WakeWorld, SetKey, ClearKey, OpenTurn, start}
use Rattle.calloop_sources.specs.declared.sources.dispatch.Dispatcher.{Dispatcher}
use Rattle.calloop_sources.specs.declared.sources.source.PostAction.{PostAction}
use Rattle.calloop_sources.specs.sources.Calls.{CallbackCall, Calling, Went}
use Rattle.calloop_sources.specs.sources.Deeds.{Lent}
use Rattle.calloop_sources.specs.sources.Meanings.{Meaning}
use Rattle.calloop_poll.specs.declared.sys.poll.Pending.{Pending}
use Rattle.calloop_poll.specs.sys.Polls.{posted_event}
use Rattle.calloop_ends.specs.cell.CellSources.{OpenTurns}
use Rattle.calloop_ends.specs.ping.Pings.{PingOpens, calls_of}
use Rattle.calloop_loop.specs.Askings.{Asks, of_turn}
use Rattle.calloop_loop.specs.Machine.{View, Change}
use Rattle.calloop_loop.specs.Rules.{Serving, after_changes}
use Rattle.calloop_laws.specs.Handed.{IsHandedOut}
use Rattle.calloop_laws.specs.Histories.{Happening, Unseen, Noted, IsHistory, end_of, world_behind}
use Rattle.calloop_laws.specs.Tied.{IsRung, Taking, world_at}

-- nobody sets the key of the cell of this number, or takes it away
abbrev pub KeepsKey : {O : Type 0} → (cell : ℕ) → List (Happening O) → Type 0
KeepsKey n [] = Unit {0}
KeepsKey n (Unseen (SetKey m k) ∷ hs) = (m ≢ n) × KeepsKey n hs
KeepsKey n (Unseen (ClearKey m by_drop) ∷ hs) = (m ≢ n) × KeepsKey n hs
KeepsKey n (h ∷ hs) = KeepsKey n hs

-- The cell of this number is asked to open a turn with this key, at a moment up to which nobody changed the cell's key.
pub record IsAsked (hs : List (Happening every_kind.Own)) (cell key : ℕ) : Type 0 where
  pub earlier : List (Happening every_kind.Own)
  pub later : List (Happening every_kind.Own)
  pub is : hs ≡ earlier ++ Unseen (OpenTurn cell key) ∷ later
  pub same_key : KeepsKey cell earlier

-- The turn of a cell's source in a history from this world on: the cell is asked, and the source's tally counts another turn if
-- the cell opens one, as the contracts of `open_turn` say.
pub record IsTurnIn (w : WakeWorld every_kind.Cell) (hs : List (Happening every_kind.Own)) (cell key : ℕ) (before after : Tally) : Type 0 where
  pub asked : IsAsked hs cell key
  pub counted : after.turns ≡ before.turns + one (every_kind.opens key ((end_of every_kind w asked.earlier).cells cell))

-- The same of a ping's source, whose tally after the turn is just what `PingCore::open_turn`'s contract makes of the one before.
pub record IsPingsTurnIn (w : WakeWorld every_kind.Cell) (hs : List (Happening every_kind.Own)) (cell key : ℕ) (before after : Tally) : Type 0 where
  pub asked : IsAsked hs cell key
  pub core : CoreView
  pub there : (end_of every_kind w asked.earlier).cells cell ≡ First core.cell
  pub counted : after ≡ tally_after_open_turn key core before

-- the world right after a taking
abbrev pub world_behind_it : {before : List Note} → (K : Kind) → WakeWorld K.Cell → (hs : List (Happening K.Own)) → Taking before hs
    → WakeWorld K.Cell
world_behind_it K w hs t = world_behind K (world_at K w hs t) (Noted (Unposted t.places t.keys))

-- The turn of an event that was handed out to a cell's source with this callback is one that the cell opened: its calls went to
-- the callback, and what is to be served after it is the source with the callback as these calls left it.
pub record IsOpened {D I P X S F E M T : Type 0} (Opens : OpenTurns S E M T) (may : Calling F E M T X (Asks D I))
    (reaches : Asks D I → Asks D I → Type 0) (held : Dispatcher S F → D) (L : Meaning D P (Lent X (Asks D I))) (v : View D I P)
    (css : List (List (Change D I P))) (e : Pending) (h : IsHandedOut L v css e) (before : Dispatcher S F) : Type 0 where
  pub after : Dispatcher S F
  pub calls : List (CallbackCall E M T)
  pub action : PostAction
  pub x : X
  pub asked : Asks D I
  pub opened : Opens before.source calls action after.source
  pub next : h.next ≡ Serving (registration_of e.token) (held after) (Ok action) x
  pub went : Went may reaches before.callback h.x (of_turn (registration_of e.token) (after_changes v h.ahead).held.asks) calls
      after.callback x asked

-- a cell of this number has this key, no turn of it is open, and no pass of the key is held
pub record IsAtRest (w : WakeWorld every_kind.Cell) (cell key : ℕ) : Type 0 where
  pub keyed : every_kind.key (w.cells cell) ≡ Some key
  pub no_turn : every_kind.draining (w.cells cell) ≡ false
  pub no_pass : w.passes key ≡ 0

-- Of each cell that is at rest when the dispatch takes keys: if its event is handed out to a source with this meaning, and the
-- turn that follows is the turn of this cell, the cell opens it.
abbrev pub OpensEachTurn : {D I P X S F E M T : Type 0} → (tally : S → Tally) → OpenTurns S E M T → Calling F E M T X (Asks D I)
    → (reaches : Asks D I → Asks D I → Type 0) → (held : Dispatcher S F → D) → Meaning D P (Lent X (Asks D I)) → View D I P
    → List (List (Change D I P)) → Type 0
OpensEachTurn {D} {I} {P} {X} {S} {F} tally Opens may reaches held L v css =
    (born : ℕ → Born) (hs : List (Happening every_kind.Own)) → IsHistory every_kind (start (λ n. new_cell (born n))) hs
    → (t : Taking v.poll.watch.notes hs) (n k : ℕ) → IsAtRest (world_at every_kind (start (λ n. new_cell (born n))) hs t) n k
    → (h : IsHandedOut L v css (posted_event k)) (before : Dispatcher S F)
    → content_at (after_changes v h.ahead).slots (registration_of (posted_event k).token) ≡ Source (held before)
    → ((after : Dispatcher S F) (answer : Result PostAction Error) (x : X)
    → h.next ≡ Serving (registration_of (posted_event k).token) (held after) answer x
    → IsTurnIn (world_behind_it every_kind (start (λ n. new_cell (born n))) hs t) t.behind n k (tally before.source) (tally after.source))
    → IsOpened Opens may reaches held L v css (posted_event k) h before

-- how a ping's callback is called, without metadata and result
abbrev pub PingCalling : (F X Q : Type 0) → Type 1
PingCalling F X Q = Calling F (Unit {0}) (Unit {0}) (Unit {0}) X Q

-- The cell opened the turn of an event handed out to a ping's source with this callback, and just one call went to the callback.
abbrev pub IsCalledBack : {D I P X F : Type 0} → PingCalling F X (Asks D I) → (reaches : Asks D I → Asks D I → Type 0)
    → (held : Dispatcher Tally F → D) → (L : Meaning D P (Lent X (Asks D I))) → (v : View D I P) → (css : List (List (Change D I P)))
    → (e : Pending) → IsHandedOut L v css e → Dispatcher Tally F → Type 0
IsCalledBack may reaches held L v css e h before =
    (turn : IsOpened PingOpens may reaches held L v css e h before) × (turn.calls ≡ calls_of true)

-- Of each ping that is rung when the dispatch takes keys: if its event is handed out to a source with a callback, and the turn
-- that follows is the turn of this ping's cell, the callback is called in that turn, once.
abbrev pub CallsEachRing : {D I P X F : Type 0} → PingCalling F X (Asks D I) → (reaches : Asks D I → Asks D I → Type 0)
    → (held : Dispatcher Tally F → D) → Meaning D P (Lent X (Asks D I)) → View D I P → List (List (Change D I P)) → Type 0
CallsEachRing {D} {I} {P} {X} {F} may reaches held M v css =
    (born : ℕ → Born) (hs : List (Happening every_kind.Own)) → IsHistory every_kind (start (λ n. new_cell (born n))) hs
    → (t : Taking v.poll.watch.notes hs) (n k : ℕ) (rung : IsRung (world_at every_kind (start (λ n. new_cell (born n))) hs t) n k)
    → rung.ping.rung ≡ true
    → (h : IsHandedOut M v css (posted_event k)) (before : Dispatcher Tally F)
    → content_at (after_changes v h.ahead).slots (registration_of (posted_event k).token) ≡ Source (held before)
    → ((after : Dispatcher Tally F) (answer : Result PostAction Error) (x : X)
    → h.next ≡ Serving (registration_of (posted_event k).token) (held after) answer x
    → IsPingsTurnIn (world_behind_it every_kind (start (λ n. new_cell (born n))) hs t) t.behind n k before.source after.source)
    → IsCalledBack may reaches held M v css (posted_event k) h before
