-- Histories of a board: a schedule of the wake machine, in which what the loop did to its board is as its watch noted it. Each
-- note is true of the board at its moment, since it is made in the board's lock; other parties' steps come anywhere between. The
-- lock's contract gives that the notes of a watch and what happens to the board are one history: it's a premise here, not a law.
use Rattle.std.specs.Prelude.{◌≡◌, ◌-◌, ◌^◌, ◌<◌, List, [], ◌∷◌, ◌++◌, length}
use Rattle.calloop_wake.specs.Boards.{any_marked, bound, keys_within}
use Rattle.calloop_wake_laws.specs.Wakes.{Kind, WakeWorld, WakeStep, OpenPlace, Unpost, Look, Needs, after}
use Rattle.calloop_wake.specs.declared.notes.Note.{Note}
use Rattle.calloop_wake.specs.declared.notes.Note.TheVariants.{Counted, Looked, Unposted, Marked}

pub data Happening (O : Type 0) : Type 0 where
  -- a step of which no watch has a note, e.g. a ring, a post, or a wait that returns
  Unseen : (step : WakeStep O) → Happening O
  -- what the loop did under the board's lock, as its watch has it
  Noted : (note : Note) → Happening O

-- looks and takings are noted; a place is opened for the key of a token
abbrev pub IsUnseen : {O : Type 0} → WakeStep O → Type 0
IsUnseen Look = ⊥
IsUnseen (Unpost below) = ⊥
IsUnseen (OpenPlace k) = k < 2 ^ 64 - 1
IsUnseen s = Unit {0}

-- a step finds what it needs, and a note is true of the board
abbrev pub CanHappen : (K : Kind) → WakeWorld K.Cell → Happening K.Own → Type 0
CanHappen K w (Unseen s) = IsUnseen s × Needs K w s
CanHappen K w (Noted (Counted number)) = number ≡ length w.board
CanHappen K w (Noted (Looked found)) = (found ≡ any_marked w.board) × Needs K w Look
CanHappen K w (Noted (Unposted room keys)) = keys ≡ keys_within room w.board
CanHappen K w (Noted (Marked marks)) = Unit {0}

-- the steps of the wake machine that it is; counting the places is none, nor is taking the adapters' marks
abbrev pub steps_in : (K : Kind) → WakeWorld K.Cell → Happening K.Own → List (WakeStep K.Own)
steps_in K w (Unseen s) = s ∷ []
steps_in K w (Noted (Counted number)) = []
steps_in K w (Noted (Looked found)) = Look ∷ []
steps_in K w (Noted (Unposted room keys)) = Unpost (bound room w.board) ∷ []
steps_in K w (Noted (Marked marks)) = []

abbrev pub world_behind : (K : Kind) → WakeWorld K.Cell → Happening K.Own → WakeWorld K.Cell
world_behind K w (Unseen s) = after K w s
world_behind K w (Noted (Counted number)) = w
world_behind K w (Noted (Looked found)) = after K w Look
world_behind K w (Noted (Unposted room keys)) = after K w (Unpost (bound room w.board))
world_behind K w (Noted (Marked marks)) = w

abbrev pub IsHistory : (K : Kind) → WakeWorld K.Cell → List (Happening K.Own) → Type 0
IsHistory K w [] = Unit {0}
IsHistory K w (h ∷ hs) = CanHappen K w h × IsHistory K (world_behind K w h) hs

-- the world in which a history ends, and the schedule that it is
abbrev pub end_of : (K : Kind) → WakeWorld K.Cell → List (Happening K.Own) → WakeWorld K.Cell
end_of K w [] = w
end_of K w (h ∷ hs) = end_of K (world_behind K w h) hs

abbrev pub schedule_of : (K : Kind) → WakeWorld K.Cell → List (Happening K.Own) → List (WakeStep K.Own)
schedule_of K w [] = []
schedule_of K w (h ∷ hs) = steps_in K w h ++ schedule_of K (world_behind K w h) hs

-- the notes of the watch
abbrev pub notes_of : {O : Type 0} → List (Happening O) → List Note
notes_of [] = []
notes_of (Unseen s ∷ hs) = notes_of hs
notes_of (Noted note ∷ hs) = note ∷ notes_of hs

-- no place is opened
abbrev pub OpensNone : {O : Type 0} → List (Happening O) → Type 0
OpensNone [] = Unit {0}
OpensNone (Unseen (OpenPlace k) ∷ hs) = ⊥
OpensNone (h ∷ hs) = OpensNone hs

-- this step is made in it
abbrev pub IsMadeIn : {O : Type 0} → WakeStep O → List (Happening O) → Type 0
IsMadeIn {O} s hs = (ahead behind : List (Happening O)) × (hs ≡ ahead ++ Unseen s ∷ behind)
