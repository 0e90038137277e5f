-- An adapter in its slot: its registration, its settling and its turn. From calloop's `IoDispatcher`, which registers and
-- unregisters at once; here the loop says when. The socket is under a lock, so each relation leaves open which one it is.
use Rattle.std.specs.Prelude.{◌≡◌, ◌⊎◌, ℤ, List, [], ◌∷◌, ◌++◌, Bool, true, false, Option, Some, None, Result, Ok, Err}
use Rattle.std.specs.declared.io.ErrorKind.TheVariants.{AlreadyExists, NotFound}
use Rattle.calloop_slots.specs.declared.error.Error.{Error}
use Rattle.calloop_slots.specs.declared.error.Error.TheVariants.{InvalidToken, OutOfMemory, TooManyTokens}
use Rattle.calloop_slots.specs.declared.token.Token.{Token}
use Rattle.calloop_slots.specs.declared.token.TokenFactory.{TokenFactory}
use Rattle.calloop_slots.specs.Tokens.{next_token, after_token, most_tokens}
use Rattle.calloop_poll.specs.declared.sys.Interest.{Interest}
use Rattle.calloop_poll.specs.declared.sys.Readiness.{Readiness}
use Rattle.calloop_sources.specs.declared.sources.source.PostAction.TheVariants.{Continue}
use Rattle.calloop_sources.specs.declared.sources.dispatch.Role.TheVariants.{Adapter as AsAdapter}
use Rattle.calloop_poll.specs.sys.Pollers.{Outside, Sockets}
use Rattle.calloop_poll.specs.sys.Tables.{Leave, Discard}
use Rattle.calloop_poll.specs.sys.Polls.{PollView, PollStep, Socket, AllStepped, polls_after, IsOfKind}
use Rattle.calloop_poll.specs.sys.SocketCalls.{Edits}
use Rattle.calloop_sources.specs.Generics.{under_token}
use Rattle.calloop_sources.specs.sources.Holdings.{holds_none}
use Rattle.calloop_sources.specs.sources.Deeds.{Deed, Registered, Reregistered, Unregistered, Turned, SaysNothing, Slept, Noticed, Lent}
use Rattle.calloop_sources.specs.sources.Meanings.{Meaning}
use Rattle.calloop_io.specs.declared.adapter.Adapter.{Adapter}
use Rattle.calloop_io.specs.declared.notes.SlotNote.{SlotNote}
use Rattle.calloop_io.specs.declared.notes.SlotNote.TheVariants.{Heard, Settled as SettledSo, Kept, Asked, Reached}
use Rattle.calloop_io.specs.declared.notes.Settled.{Settled}
use Rattle.calloop_io.specs.declared.notes.Settled.TheVariants.{Stays, Registers as RegistersFor, Leaves as IsToLeave}
use Rattle.calloop_io.specs.AdapterNotes.{with_slot_note}
use Rattle.calloop_io.specs.TakingUp.{taking_up}

-- the key is dropped, if the socket wasn't taken out
abbrev pub discards : {P : Type 0} → Result (Unit {0}) Error → Token → P → List (PollStep P)
discards (Ok u) own p = []
discards (Err e) own p = Socket (Discard own) p ∷ []

-- the call failed, and nothing was done
abbrev pub IsRefusedSo : {P S : Type 0} → S → Result (Unit {0}) Error → (Error → Type 0) → List (PollStep P) → S → Type 0
IsRefusedSo s answer Why steps t = (e : Error) × (answer ≡ Err e) × Why e × (steps ≡ []) × (t ≡ s)

module _ {P : Type 0} (sockets : Sockets P) where
  -- If its socket was entered in the table, it is taken out; if not, no poller is called. The socket may not be there.
  abbrev pub TakenOut : (entered : Bool) → Token → PollView P → Result (Unit {0}) Error → List (PollStep P) → Type 0
  TakenOut false own v answer steps = (answer ≡ Ok tt) × (steps ≡ [])
  TakenOut true own v answer steps =
      ((e : Error) × (answer ≡ Err e) × IsOfKind NotFound e × (steps ≡ []))
      ⊎ ((fd : ℤ) × Edits sockets v (Leave own) fd answer steps)

module _ {F R : Type 0} where
  abbrev pub registered_at : Token → Adapter F R → Adapter F R
  registered_at token s = record s { token = Some token }

  abbrev pub registered_nowhere : Adapter F R → Adapter F R
  registered_nowhere s = record s { token = None; entered = false }

module _ {P F R : Type 0} where
  -- The adapter gets its token, and no poller is called; calloop's is registered with an empty interest.
  abbrev pub ComesIn : Option Token → Adapter F R → TokenFactory → Result (Unit {0}) Error → List (PollStep P)
      → Adapter F R → TokenFactory → Type 0
  ComesIn (Some own) s f answer steps t g = IsRefusedSo s answer (IsOfKind AlreadyExists) steps t × (g ≡ f)
  ComesIn None s f (Ok u) steps t g = (steps ≡ []) × (t ≡ registered_at (next_token f) s) × (g ≡ after_token f)
  ComesIn None s f (Err e) steps t g =
      ((e ≡ OutOfMemory) ⊎ ((e ≡ TooManyTokens) × (f.given ≡ most_tokens))) × (steps ≡ []) × (t ≡ s) × (g ≡ f)

module _ {F R : Type 0} where
  abbrev pub left_so : Result (Unit {0}) Error → Adapter F R → Adapter F R
  left_so (Ok u) s = registered_nowhere s
  left_so (Err e) s = s

  -- with another note of what it did under its lock
  abbrev pub and_did : SlotNote → Adapter F R → Adapter F R
  and_did note s = record s { end = with_slot_note note s.end }

  -- its registration succeeded, or its failure is kept
  abbrev pub told_so : Result (Unit {0}) Error → Adapter F R → Adapter F R
  told_so (Ok u) s = record s { entered = true }
  told_so (Err e) s = and_did (Kept e) s

  -- an event of its own token is kept, and wakes the waiting poll
  abbrev pub HearsSo : Option Token → Token → Readiness → Adapter F R → Adapter F R → Type 0
  HearsSo own token found s t =
      ((own ≡ Some token) × (t ≡ and_did (Heard found) s)) ⊎ ((own ≡ Some token → ⊥) × (t ≡ s))

module _ {P F R : Type 0} (sockets : Sockets P) where
  -- If its socket is there, it is registered for this; on failure the adapter keeps the error, and its registration is unchanged.
  abbrev pub Registers : Interest → Option Token → Adapter F R → PollView P → List (PollStep P) → Adapter F R → Type 0
  Registers interest None s v steps t = (steps ≡ []) × (t ≡ s)
  Registers interest (Some token) s v steps t =
      ((steps ≡ []) × (t ≡ and_did (Reached false) s))
      ⊎ ((fd : ℤ) × (told : Result (Unit {0}) Error)
      × Edits sockets v (taking_up token s.entered interest) fd told steps
      × (t ≡ told_so told (and_did (Reached true) s)))

  -- what its settling found is done
  abbrev pub SettlesTo : Settled → Adapter F R → PollView P → List (PollStep P) → Adapter F R → Type 0
  SettlesTo Stays s v steps t = (steps ≡ []) × (t ≡ s)
  SettlesTo (RegistersFor interest) s v steps t = Registers interest s.token s v steps t
  SettlesTo IsToLeave s v steps t = ⊥

  -- the adapter is settled: what its settling found is what its state holds, as the tally notes
  abbrev pub SettlesSo : Adapter F R → PollView P → List (PollStep P) → Adapter F R → Type 0
  SettlesSo s v steps t = (found : Settled) × SettlesTo found (and_did (SettledSo found) s) v steps t

  -- An adapter that isn't being given back doesn't leave.
  abbrev pub Leaves : Option Token → Adapter F R → PollView P → Result (Unit {0}) Error → List (PollStep P)
      → Adapter F R → Type 0
  Leaves None s v answer steps t = IsRefusedSo s answer (IsOfKind NotFound) steps t
  Leaves (Some own) s v answer steps t =
      IsRefusedSo (and_did (Asked false) s) answer (λ e. e ≡ InvalidToken) steps t
      ⊎ (TakenOut sockets s.entered own v answer steps × (t ≡ left_so answer (and_did (Asked true) s)))

  -- Its other end is gone: it is in no loop any more, and its key is dropped, even if its socket can't be taken out. In calloop
  -- the drop calls kill, which ignores an error.
  abbrev pub Goes : Option Token → Adapter F R → PollView P → Result (Unit {0}) Error → List (PollStep P)
      → Adapter F R → Type 0
  Goes None s v told steps t = (told ≡ Ok tt) × (steps ≡ []) × (t ≡ s)
  Goes (Some own) s v told steps t =
      (out : List (PollStep P)) × TakenOut sockets s.entered own v told out
      × (steps ≡ out ++ discards told own (polls_after v out).poller) × (t ≡ registered_nowhere s)

  -- Its loop settles it: it leaves exactly if its state says that its other end is gone, else it stays. Calloop has no such step.
  abbrev pub IsSettled : Outside P → Adapter F R → PollView P → Option (Result (Unit {0}) Error) → PollView P
      → Adapter F R → Type 0
  IsSettled O s v None w t = (steps : List (PollStep P)) × SettlesSo s v steps t × AllStepped O v steps w
  IsSettled O s v (Some told) w t =
      (steps : List (PollStep P)) × Goes s.token (and_did (SettledSo IsToLeave) s) v told steps t × AllStepped O v steps w

  module _ {X Q : Type 0} where
    -- its turn keeps the readiness found, which is under a lock, and calls nobody but the waiting poll's waker
    abbrev pub IsAdapter : Adapter F R → PollView P → Deed (Lent X Q) → List (PollStep P) → Adapter F R → Type 0
    IsAdapter s v (Registered f answer g) steps t = ComesIn s.token s f answer steps t g
    IsAdapter s v (Reregistered f (Ok u) g) steps t = (g ≡ f) × SettlesSo s v steps t
    IsAdapter s v (Reregistered f (Err e) g) steps t = (e ≡ InvalidToken) × (g ≡ f) × (steps ≡ []) × (t ≡ s)
    IsAdapter s v (Unregistered answer) steps t =
        Leaves s.token s v answer steps t ⊎ Goes s.token (and_did (SettledSo IsToLeave) s) v answer steps t
    IsAdapter s v (Slept given answer) steps t = SaysNothing given answer × (steps ≡ []) × (t ≡ s)
    IsAdapter s v (Noticed events) steps t = (steps ≡ []) × (t ≡ s)
    IsAdapter s v (Turned readiness token turn) steps t =
        (turn.answer ≡ Ok Continue) × (turn.after ≡ turn.before) × (turn.asked_after ≡ turn.asked_before)
        × (steps ≡ []) × HearsSo s.token token readiness s t

    abbrev pub adapter_meaning : Meaning (Adapter F R) P (Lent X Q)
    adapter_meaning =
        record {
          holds = λ s. holds_none;
          keys = λ s. under_token s.token;
          fits = λ s. Unit {0};
          needs = λ s. false;
          limit = λ s. 0;
          role = λ s. AsAdapter;
          does = IsAdapter;
        }
