-- Setting the deadline of a source that may be a timer. calloop has this of `Timer` alone, which a caller reaches by
-- `as_source_mut`; here a request reaches a source whose type the loop doesn't know.
use Rattle.std.specs.Prelude.{◌≡◌, ◌↔◌, ℕ, List, [], ◌∷◌, Bool, true, false, Ok}
use Rattle.calloop_slots.specs.declared.token.TokenFactory.{TokenFactory}
use Rattle.calloop_slots.specs.declared.wheel.Instant.{Instant}
use Rattle.calloop_poll.specs.sys.Polls.{
  PollView,
  PollStep,
  TakePass,
  PutBack,
  Arm,
  ArmAgain,
  Cancel,
  Call,
  ReadClock,
  Socket,
  Fault,
}
use Rattle.calloop_sources.specs.sources.Deeds.{Reregistered}
use Rattle.calloop_sources.specs.sources.Meanings.{Meaning}

-- the deadlines that these steps arm under new counters
abbrev pub armed_by : {P : Type 0} → List (PollStep P) → List Instant
armed_by [] = []
armed_by (Arm deadline token ∷ ss) = deadline ∷ armed_by ss
armed_by (TakePass ∷ ss) = armed_by ss
armed_by (PutBack pass ∷ ss) = armed_by ss
armed_by (ArmAgain counter deadline token ∷ ss) = armed_by ss
armed_by (Cancel counter ∷ ss) = armed_by ss
armed_by (Call counter deadline ∷ ss) = armed_by ss
armed_by (ReadClock now after ∷ ss) = armed_by ss
armed_by (Socket edit after ∷ ss) = armed_by ss
armed_by (Fault call cause after ∷ ss) = armed_by ss

-- each registration anew that succeeds arms this deadline, and no other
abbrev pub IsDue : {D P T : Type 0} → Meaning D P T → (deadline : Instant) → D → Type 0
IsDue {D} {P} {T} m deadline s =
    (v : PollView P) (f g : TokenFactory) (steps : List (PollStep P)) (t : D)
    → m.does s v (Reregistered f (Ok tt) g) steps t → armed_by steps ≡ deadline ∷ []

-- it holds the same counters, is registered under the same keys, and is told of waits, limited and owned as before
pub record HoldsTheSame {D P T : Type 0} (m : Meaning D P T) (s t : D) : Type 0 where
  pub holds : m.holds t ≡ m.holds s
  pub keys : (key : ℕ) → m.keys t key ↔ m.keys s key
  pub fits : m.fits s → m.fits t
  pub needs : m.needs t ≡ m.needs s
  pub limit : m.limit t ≡ m.limit s
  pub role : m.role t ≡ m.role s

-- the deadline is set, and what it holds stays; or the source is no timer, and stays as it was
abbrev pub SetsDeadline : {D P T : Type 0} → Meaning D P T → (deadline : Instant) → D → (set : Bool) → D → Type 0
SetsDeadline m deadline s true t = IsDue m deadline t × HoldsTheSame m s t
SetsDeadline m deadline s false t = t ≡ s
