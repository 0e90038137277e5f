-- Which timer counters a source holds. calloop's timers keep theirs in their registration, and nothing there says
-- that no other source uses it.
use Rattle.std.specs.Prelude.{◌≡◌, ◌≢◌, ℕ, ◌+◌, ◌<◌, List, [], ◌∷◌, nat_eq, if◌then◌else◌}
use Rattle.calloop_slots.specs.declared.wheel.Instant.{Instant}
use Rattle.calloop_poll.specs.sys.Polls.{PollStep, TakePass, PutBack, Arm, ArmAgain, Cancel, Call, ReadClock, Socket, Fault}

-- a counter isn't held; or it is held, and its last arming was called for; or it is held, and its last arming, for
-- this deadline, wasn't called for yet
pub data Holding : Type 0 where
  Free : Holding
  Spent : Holding
  Standing : (deadline : Instant) → Holding

abbrev pub holds_none : ℕ → Holding
holds_none counter = Free

abbrev pub with_hold : (counter : ℕ) → Holding → (ℕ → Holding) → ℕ → Holding
with_hold counter h held c = if nat_eq c counter then h else held c

-- no counter that wasn't given yet is held
abbrev pub IsBelow : (next : ℕ) → (ℕ → Holding) → Type 0
IsBelow next held = (counter : ℕ) → held counter ≢ Free → counter < next

-- at most this is held: a counter may be forgotten
abbrev pub IsWithin : Holding → Holding → Type 0
IsWithin Free h = Unit {0}
IsWithin Spent h = h ≡ Spent
IsWithin (Standing deadline) h = h ≡ Standing deadline

-- from what is held before, these steps lead to what is held after them, and each is of a counter that is held: an
-- arming takes a new counter; a counter is armed again only after its call; a call is of an arming that wasn't
-- called for yet, and with its deadline
abbrev pub Keeps : {P : Type 0} → (ℕ → Holding) → (next : ℕ) → List (PollStep P) → (ℕ → Holding) → Type 0
Keeps held next [] after = (counter : ℕ) → IsWithin (after counter) (held counter)
Keeps held next (Arm deadline token ∷ ss) after = Keeps (with_hold next (Standing deadline) held) (next + 1) ss after
Keeps held next (ArmAgain counter deadline token ∷ ss) after =
    (held counter ≡ Spent) × Keeps (with_hold counter (Standing deadline) held) next ss after
Keeps held next (Cancel counter ∷ ss) after =
    (held counter ≢ Free) × Keeps (with_hold counter Free held) next ss after
Keeps held next (Call counter deadline ∷ ss) after =
    (held counter ≡ Standing deadline) × Keeps (with_hold counter Spent held) next ss after
Keeps held next (TakePass ∷ ss) after = Keeps held next ss after
Keeps held next (PutBack pass ∷ ss) after = Keeps held next ss after
Keeps held next (ReadClock now after' ∷ ss) after = Keeps held next ss after
Keeps held next (Socket edit after' ∷ ss) after = Keeps held next ss after
Keeps held next (Fault call cause after' ∷ ss) after = Keeps held next ss after
