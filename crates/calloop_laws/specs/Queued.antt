-- What was queued before a dispatch takes keys is popped before a later pop that finds no task. In calloop an executor's
-- `process_events` takes its runnables until there is none.
use Rattle.std.specs.Prelude.{◌≡◌, ℕ, Bool, true, false, if◌then◌else◌, List, [], ◌∷◌, ◌++◌, nat_eq}
use Rattle.calloop_wake.specs.declared.notes.Note.{Note}
use Rattle.calloop_wake.specs.declared.notes.Note.TheVariants.{Counted, Looked, Unposted, Marked}
use Rattle.calloop_wake.specs.Executors.{after_poll}
use Rattle.calloop_wake_laws.specs.ExecutorKind.{ExecutorPast, Put, Pop, EndTurn}
use Rattle.calloop_wake_laws.specs.Kinds.{Second, Born, every_kind, new_cell}
use Rattle.calloop_wake_laws.specs.Wakes.{WakeWorld, At, SetKey, OpenTurn, OpenPlace, Post, Wakeup, after, start}
use Rattle.calloop_laws.specs.Called.{KeepsKey, world_behind_it}
use Rattle.calloop_laws.specs.Histories.{Happening, Unseen, Noted, world_behind, end_of}
use Rattle.calloop_laws.specs.Sent.{IsBeginningOf}
use Rattle.calloop_laws.specs.Tied.{Taking, world_at}

abbrev pub first_of : List ℕ → List ℕ
first_of [] = []
first_of (x ∷ xs) = x ∷ []

-- the slot of the task that a step pops: the first of the queue, which the task before joins again if it was woken in its poll
abbrev pub popped_by : every_kind.Own → every_kind.Cell → List ℕ
popped_by (Second (Second (Pop finished))) (Second (Second e)) = first_of (after_poll finished e.now).queue
popped_by s c = []

-- the slots of the tasks that are popped from the executor of this number in a history from this world on, in order
abbrev pub popped_in : (cell : ℕ) → WakeWorld every_kind.Cell → List (Happening every_kind.Own) → List ℕ
popped_in n w [] = []
popped_in n w (Unseen (At m s) ∷ hs) =
    (if nat_eq m n then popped_by s (w.cells m) else []) ++ popped_in n (after every_kind w (At m s)) hs
popped_in n w (h ∷ hs) = popped_in n (world_behind every_kind w h) hs

-- a pop of the executor of this number in a history from this world on, which finds no task; nobody changed the executor's key up to it
pub record FindsNoTask (w : WakeWorld every_kind.Cell) (hs : List (Happening every_kind.Own)) (cell : ℕ) : Type 0 where
  pub earlier : List (Happening every_kind.Own)
  pub later : List (Happening every_kind.Own)
  pub finished : Bool
  pub is : hs ≡ earlier ++ Unseen (At cell (Second (Second (Pop finished)))) ∷ later
  pub same_key : KeepsKey cell earlier
  pub executor : ExecutorPast
  pub there : (end_of every_kind w earlier).cells cell ≡ Second (Second executor)
  pub none : (after_poll finished executor.now).queue ≡ []

-- Of every history of a board, each taking of keys in it, each executor as it was then, and each later pop of it that finds no
-- task: by then each task that was queued when the keys were taken was popped, in its order.
abbrev pub WhatWasQueuedIsPopped : (born : ℕ → Born) → List (Happening every_kind.Own) → Type 0
WhatWasQueuedIsPopped born hs =
    (before : List Note) (t : Taking before hs) (n : ℕ) (p : ExecutorPast)
    → (world_at every_kind (start (λ n. new_cell (born n))) hs t).cells n ≡ Second (Second p)
    → (pop : FindsNoTask (world_behind_it every_kind (start (λ n. new_cell (born n))) hs t) t.behind n)
    → IsBeginningOf p.now.queue (popped_in n (world_behind_it every_kind (start (λ n. new_cell (born n))) hs t) pop.earlier)

-- A possible history: a task is put into slot 2 before keys are taken; the later turn pops it, and then finds none.

abbrev pub queued_before_it : List (Happening every_kind.Own)
queued_before_it =
    Unseen (OpenPlace 0) ∷ Unseen (SetKey 0 0) ∷ Unseen (At 0 (Second (Second (Put 2 0)))) ∷ Unseen (Post 0) ∷ []

abbrev pub polled_in_it : List (Happening every_kind.Own)
polled_in_it =
    Unseen (OpenTurn 0 0)
    ∷ Unseen (At 0 (Second (Second (Pop false))))
    ∷ Unseen (At 0 (Second (Second (Pop true))))
    ∷ Unseen (At 0 (Second (Second (EndTurn false))))
    ∷ []

abbrev pub history_of_a_task : List (Happening every_kind.Own)
history_of_a_task =
    Unseen (OpenPlace 0)
    ∷ Unseen (SetKey 0 0)
    ∷ Unseen (At 0 (Second (Second (Put 2 0))))
    ∷ Unseen (Post 0)
    ∷ Noted (Counted 1)
    ∷ Noted (Marked [])
    ∷ Noted (Looked true)
    ∷ Unseen Wakeup
    ∷ Noted (Unposted 1 (0 ∷ []))
    ∷ polled_in_it
