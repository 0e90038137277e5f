-- A dispatch and a history of its board: what was posted when the dispatch took keys is handed out by its end. calloop relies on
-- the kernel for it.
use Rattle.std.specs.Prelude.{◌≡◌, ℕ, ◌<◌, ◌⊎◌, true, false, List, [], ◌∷◌, ◌++◌, Some, Ok}
use Rattle.std.specs.List.{Contains}
use Rattle.calloop_wake.specs.Boards.{is_marked, keys_within}
use Rattle.calloop_wake.specs.Cells.{Cell, is_due}
use Rattle.calloop_wake_laws.specs.Kinds.{First, Born, every_kind, new_cell}
use Rattle.calloop_wake_laws.specs.Wakes.{Kind, WakeWorld, Post, start}
use Rattle.calloop_wake.specs.declared.notes.Note.{Note}
use Rattle.calloop_wake.specs.declared.notes.Note.TheVariants.{Counted, Unposted}
use Rattle.calloop_sources.specs.sources.Deeds.{Lent}
use Rattle.calloop_sources.specs.sources.Meanings.{Meaning}
use Rattle.calloop_poll.specs.declared.sys.poll.Pending.{Pending}
use Rattle.calloop_poll.specs.sys.Polls.{posted_event}
use Rattle.calloop_loop.specs.Askings.{Asks}
use Rattle.calloop_loop.specs.declared.LoopAnswer.{LoopAnswer}
use Rattle.calloop_loop.specs.declared.LoopAnswer.TheVariants.{Dispatched}
use Rattle.calloop_laws.specs.EveryRun.{LoopRun}
use Rattle.calloop_loop.specs.Machine.{World, View, Change, visible}
use Rattle.calloop_loop.specs.Rules.{after_changes, all_traced}
use Rattle.calloop_laws.specs.Handed.{IsHandedOut}
use Rattle.calloop_laws.specs.Histories.{Happening, Noted, IsHistory, end_of, notes_of, OpensNone, IsMadeIn}

-- a cell of this number is pinged, under this key
abbrev pub IsPinged : (K : Kind) → WakeWorld K.Cell → (cell key : ℕ) → Type 0
IsPinged K w n k = (K.pinged (w.cells n) ≡ true) × (K.key (w.cells n) ≡ Some k)

-- its key is to be posted, or was taken and is held
abbrev pub IsOut : {C : Type 0} → WakeWorld C → (key : ℕ) → Type 0
IsOut w k = (0 < w.debts k) ⊎ (0 < w.passes k)

-- When a dispatch counted the places and when it took keys, in a history up to its end: after what was noted before it, with room
-- for as many as there were places, and nothing is noted after it.
pub record Taking {O : Type 0} (before : List Note) (hs : List (Happening O)) : Type 0 where
  pub ahead : List (Happening O)
  pub between : List (Happening O)
  pub behind : List (Happening O)
  pub places : ℕ
  pub keys : List ℕ
  pub is : hs ≡ ahead ++ Noted (Counted places) ∷ (between ++ Noted (Unposted places keys) ∷ behind)
  pub began : notes_of ahead ≡ before
  pub over : notes_of behind ≡ []

-- the world in which it takes them, if the history begins in this one
abbrev pub world_at : {before : List Note} → (K : Kind) → WakeWorld K.Cell → (hs : List (Happening K.Own)) → Taking before hs
    → WakeWorld K.Cell
world_at K w hs t = end_of K w (t.ahead ++ Noted (Counted t.places) ∷ t.between)

-- what such a dispatch, which began there and made these changes, did with what it took there
pub record IsServedAt {D I P X : Type 0} (K : Kind) (M : Meaning D P (Lent X (Asks D I))) (w : WakeWorld K.Cell)
    (hs : List (Happening K.Own)) (v : View D I P) (css : List (List (Change D I P))) (t : Taking v.poll.watch.notes hs)
    : Type 0 where
  -- it took the lowest posted keys, as many as there were places at the count, and the event of each is handed out
  pub lowest : t.keys ≡ keys_within t.places (world_at K w hs t).board
  pub handed_out : (k : ℕ) → Contains t.keys k → IsHandedOut M v css (posted_event k)
  -- what mustn't be lost in a cell was pinged then, or a turn of the cell was open; and so it is when the dispatch ends
  pub standing : (n : ℕ) → K.IsStanding ((world_at K w hs t).cells n)
  pub standing_later : (n : ℕ) → K.IsStanding ((end_of K w hs).cells n)
  -- if no place was opened between the two, each key that was posted then is one of them
  pub all_taken : OpensNone t.between → (k : ℕ) → is_marked k (world_at K w hs t).board ≡ true → Contains t.keys k
  -- so of a cell that was pinged then, under a key, the event is handed out, or the key was still to be posted, or held
  pub rung : OpensNone t.between → (n k : ℕ) → IsPinged K (world_at K w hs t) n k
      → IsHandedOut M v css (posted_event k) ⊎ IsOut (world_at K w hs t) k
  -- and a cell that is pinged when the dispatch ends, under a key, was posted since, or the key is still to be posted, or held
  pub left : OpensNone t.between → (n k : ℕ) → IsPinged K (end_of K w hs) n k
      → IsMadeIn (Post k) t.behind ⊎ IsOut (end_of K w hs) k

-- Of a dispatch that began there and made these changes, and of a history from this world up to its end, whose notes are those of the
-- loop's watch.
pub record IsServedOf {D I P X : Type 0} (K : Kind) (M : Meaning D P (Lent X (Asks D I))) (w : WakeWorld K.Cell)
    (hs : List (Happening K.Own)) (v : View D I P) (css : List (List (Change D I P))) : Type 0 where
  -- it took keys in it, once
  pub taking : Taking v.poll.watch.notes hs
  pub served : (t : Taking v.poll.watch.notes hs) → IsServedAt K M w hs v css t
  -- and each event that was left over before it is handed out too; the loop holds its pass, if it is a posted one
  pub left_over : (e : Pending) → Contains v.poll.batch e → IsHandedOut M v css e

-- whatever happened to the board since the start, by any number of cells and parties, if its notes are those of the watch when
-- the dispatch ends
abbrev pub ServesWhatIsPosted : {D I P X : Type 0} → Meaning D P (Lent X (Asks D I)) → View D I P → List (List (Change D I P)) → Type 0
ServesWhatIsPosted M v css =
    (born : ℕ → Born) (hs : List (Happening every_kind.Own)) → IsHistory every_kind (start (λ n. new_cell (born n))) hs
    → notes_of hs ≡ (after_changes v css).poll.watch.notes
    → IsServedOf every_kind M (start (λ n. new_cell (born n))) hs v css

-- of a ping under this key: a ring or an untold close is pending; no turn of it is open, and its key is neither owed nor held
pub record IsRung (w : WakeWorld every_kind.Cell) (cell key : ℕ) : Type 0 where
  pub ping : Cell
  pub is : w.cells cell ≡ First ping
  pub due : is_due ping ≡ true
  pub no_turn : ping.draining ≡ false
  pub keyed : ping.key ≡ Some key
  pub no_debt : w.debts key ≡ 0
  pub no_pass : w.passes key ≡ 0

-- each ping that is rung so when the dispatch takes keys: its event is handed out by the dispatch's end
abbrev pub ServesEachRing : {D I P X : Type 0} → Meaning D P (Lent X (Asks D I)) → View D I P → List (List (Change D I P)) → Type 0
ServesEachRing M v css =
    (born : ℕ → Born) (hs : List (Happening every_kind.Own)) → IsHistory every_kind (start (λ n. new_cell (born n))) hs
    → notes_of hs ≡ (after_changes v css).poll.watch.notes
    → (t : Taking v.poll.watch.notes hs) → OpensNone t.between
    → (n k : ℕ) → IsRung (world_at every_kind (start (λ n. new_cell (born n))) hs t) n k → IsHandedOut M v css (posted_event k)

-- Over a run: its history goes on after each dispatch.

-- if the call was a dispatch that returned `Ok`
abbrev pub IfServed : {D P X I : Type 0} → LoopAnswer D P X I → Type 0 → Type 0
IfServed (Dispatched (Ok u) x) T = T
IfServed answer T = Unit {0}

-- this holds of each such dispatch, by the state in which it began and what it changed
abbrev pub OfEachDispatch : {D I P X : Type 0} → (View D I P → List (List (Change D I P)) → Type 0) → List (LoopAnswer D P X I)
    → List (List (List (Change D I P))) → World D I P → Type 0
OfEachDispatch Law [] csss w = Unit {0}
OfEachDispatch Law (answer ∷ answers) [] w = Unit {0}
OfEachDispatch Law (answer ∷ answers) (css ∷ csss) w =
    IfServed answer (Law (visible w) css) × OfEachDispatch Law answers csss (all_traced w css)

-- of a dispatch and of the history of a whole run: a first part of it has just the notes up to the dispatch's end, and of each such part, as
-- of that up to the end itself, what is above
pub record IsServedWithin {D I P X : Type 0} (K : Kind) (M : Meaning D P (Lent X (Asks D I))) (w : WakeWorld K.Cell)
    (hs : List (Happening K.Own)) (v : View D I P) (css : List (List (Change D I P))) : Type 0 where
  pub front : List (Happening K.Own)
  pub later : List (Happening K.Own)
  pub is : hs ≡ front ++ later
  pub noted : notes_of front ≡ (after_changes v css).poll.watch.notes
  pub served : (ahead behind : List (Happening K.Own)) → hs ≡ ahead ++ behind
      → notes_of ahead ≡ (after_changes v css).poll.watch.notes → IsServedOf K M w ahead v css

-- of a run and of a board's history from the start up to the run's end, whose notes are those of the loop's watch: so of
-- each dispatch that returned `Ok`
abbrev pub EachServesWhatIsPosted : {D I P X : Type 0} → Meaning D P (Lent X (Asks D I)) → LoopRun D I P X → Type 0
EachServesWhatIsPosted M r =
    (born : ℕ → Born) (hs : List (Happening every_kind.Own)) → IsHistory every_kind (start (λ n. new_cell (born n))) hs
    → notes_of hs ≡ r.ended.poll.watch.notes
    → OfEachDispatch (IsServedWithin every_kind M (start (λ n. new_cell (born n))) hs) r.answers r.changes r.began
