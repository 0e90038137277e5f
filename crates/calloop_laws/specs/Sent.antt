-- What was sent before a dispatch takes keys is handed out before a later pop that finds no message. In calloop a channel's
-- `process_events` reads its queue until that is empty.
use Rattle.std.specs.Prelude.{◌≡◌, ℕ, true, false, List, [], ◌∷◌, ◌++◌}
use Rattle.calloop_wake.specs.declared.notes.Note.{Note}
use Rattle.calloop_wake.specs.declared.notes.Note.TheVariants.{Counted, Looked, Unposted, Marked}
use Rattle.calloop_wake.specs.Channels.{is_item, pop_answer}
use Rattle.calloop_wake_laws.specs.ChannelKind.{ChannelPast, Pop, EndTurn, Put}
use Rattle.calloop_wake_laws.specs.Kinds.{First, Second, Born, every_kind, new_cell}
use Rattle.calloop_wake_laws.specs.Wakes.{WakeWorld, At, SetKey, OpenTurn, OpenPlace, Post, Wakeup, start}
use Rattle.calloop_laws.specs.Histories.{Happening, Unseen, Noted, end_of}
use Rattle.calloop_laws.specs.Tied.{Taking, world_at}
use Rattle.calloop_laws.specs.Called.{world_behind_it}

-- a pop of the channel of this number, as it was then, in a history from this world on, which finds no message
pub record FindsNoMessage (w : WakeWorld every_kind.Cell) (hs : List (Happening every_kind.Own)) (cell : ℕ) : Type 0 where
  pub earlier : List (Happening every_kind.Own)
  pub later : List (Happening every_kind.Own)
  pub is : hs ≡ earlier ++ Unseen (At cell (Second (First Pop))) ∷ later
  pub channel : ChannelPast
  pub there : (end_of every_kind w earlier).cells cell ≡ Second (First channel)
  pub none : is_item (pop_answer channel.now) ≡ false

-- a list begins with these
pub record IsBeginningOf (front whole : List ℕ) : Type 0 where
  pub more : List ℕ
  pub is : whole ≡ front ++ more

-- Of every history of a board from the start, each taking of keys in it, each channel as it was then, and each later pop of it
-- that finds no message: by then all that had been put when the keys were taken was handed out, in its order.
abbrev pub WhatWasSentIsGiven : (born : ℕ → Born) → List (Happening every_kind.Own) → Type 0
WhatWasSentIsGiven born hs =
    (before : List Note) (t : Taking before hs) (n : ℕ) (p : ChannelPast)
    → (world_at every_kind (start (λ n. new_cell (born n))) hs t).cells n ≡ Second (First p)
    → (pop : FindsNoMessage (world_behind_it every_kind (start (λ n. new_cell (born n))) hs t) t.behind n)
    → IsBeginningOf p.taken pop.channel.given

-- A possible history: message 3 is put before keys are taken; the later turn pops it, and then finds none.

abbrev pub sent_before_it : List (Happening every_kind.Own)
sent_before_it =
    Unseen (OpenPlace 0) ∷ Unseen (SetKey 0 0) ∷ Unseen (At 0 (Second (First (Put 3)))) ∷ Unseen (Post 0) ∷ []

abbrev pub read_in_it : List (Happening every_kind.Own)
read_in_it =
    Unseen (OpenTurn 0 0)
    ∷ Unseen (At 0 (Second (First Pop)))
    ∷ Unseen (At 0 (Second (First Pop)))
    ∷ Unseen (At 0 (Second (First EndTurn)))
    ∷ []

abbrev pub history_of_a_message : List (Happening every_kind.Own)
history_of_a_message =
    Unseen (OpenPlace 0)
    ∷ Unseen (SetKey 0 0)
    ∷ Unseen (At 0 (Second (First (Put 3))))
    ∷ Unseen (Post 0)
    ∷ Noted (Counted 1)
    ∷ Noted (Marked [])
    ∷ Noted (Looked true)
    ∷ Unseen Wakeup
    ∷ Noted (Unposted 1 (0 ∷ []))
    ∷ read_in_it
