-- What loop and machine hold alike, beside slots and `Poll`: which registrations are told of waits, what the source in its turn
-- asked for itself, what callbacks asked for, and what the loop warns of. calloop enters a registration again each time, and
-- leaves it there if that fails; here each is listed once, in its first position. calloop only logs that a source which leaves
-- can't be unregistered; here that is kept for anyone to read.
use Rattle.std.specs.Prelude.{
  ℕ,
  List,
  [],
  ◌∷◌,
  ◌++◌,
  filter,
  Bool,
  true,
  false,
  not,
  ◌&&◌,
  ◌||◌,
  nat_eq,
  if◌then◌else◌,
  Result,
  Ok,
  Err,
}
use Rattle.calloop_slots.specs.declared.error.Error.{Error}
use Rattle.calloop_slots.specs.declared.token.RegistrationToken.{RegistrationToken}
use Rattle.calloop_sources.specs.declared.sources.source.PostAction.{PostAction}
use Rattle.calloop_loop.specs.declared.asks.Answer.{Answer}
use Rattle.calloop_loop.specs.declared.stops.StopNote.{StopNote}
use Rattle.calloop_loop.specs.Askings.{
  Asks,
  AskStep,
  asks_after,
  none_kept_for,
  of_turn,
  after_begin,
  without_old,
  idle_begun,
  with_answer_owed,
  with_owed_answer,
  taken_up,
  with_answer,
  with_idle,
  with_new_idle,
  without_idle,
}

-- of it calloop's LoopInner has AdditionalLifecycleEventsSet, idles and pending_action
pub record Held (D I : Type 0) : Type 0 where
  -- the registrations that are told of waits, in the order of their entry
  pub lifecycle : List RegistrationToken
  -- what the source in its turn asked for itself
  pub pending : PostAction
  -- what callbacks asked for, and what came of it
  pub asks : Asks D I
  -- why sources that left failed to take their registration back, since the last dispatch began
  pub warnings : List Error
  -- what was done with the stop of the loop's signals, in order; contracts alone see it
  pub stops : List StopNote

abbrev pub is_one : RegistrationToken → RegistrationToken → Bool
is_one a b = nat_eq a.slot b.slot && nat_eq a.version b.version

abbrev pub is_another : RegistrationToken → RegistrationToken → Bool
is_another token t = not (is_one t token)

abbrev pub is_listed : RegistrationToken → List RegistrationToken → Bool
is_listed token [] = false
is_listed token (t ∷ ts) = is_one t token || is_listed token ts

-- at the end, unless it is listed already
abbrev pub with_listing : RegistrationToken → List RegistrationToken → List RegistrationToken
with_listing token ts = if is_listed token ts then ts else ts ++ token ∷ []

-- the error of a source that left is kept if there is memory for it
abbrev pub with_warning : (kept : Bool) → Result (Unit {0}) Error → List Error → List Error
with_warning kept (Ok u) es = es
with_warning true (Err e) es = es ++ e ∷ []
with_warning false (Err e) es = es

pub data HeldStep (D I : Type 0) : Type 0 where
  -- a registration is entered, if that is needed
  Listed : (needed : Bool) (token : RegistrationToken) → HeldStep D I
  -- a registration is taken out; no answer is kept for its source any more
  Unlisted : (token : RegistrationToken) → HeldStep D I
  -- the source in its turn asked for this
  Pend : (action : PostAction) → HeldStep D I
  -- a callback wrote requests, or answers were handed out
  Asking : (steps : List (AskStep D I)) → HeldStep D I
  -- so did the callback of this source in its turn
  AskingIn : (token : RegistrationToken) (steps : List (AskStep D I)) → HeldStep D I
  -- the first request is carried out from now on; it is answered, or its answer is owed; and what is owed is answered
  Begun : HeldStep D I
  Told : (answer : Answer D) → HeldStep D I
  Owe : HeldStep D I
  Paid : (answer : Answer D) → HeldStep D I
  -- answers that weren't handed out are gone, and so are warnings
  Cleared : HeldStep D I
  -- a source that left answered this to its unregistration
  Warned : (kept : Bool) (told : Result (Unit {0}) Error) → HeldStep D I
  -- a stop was forgotten, or looked for
  StopNoted : (note : StopNote) → HeldStep D I
  -- an idle that a callback asked for, which is answered; an idle that the loop's caller asked for; and an idle that is cancelled
  IdleIn : (idle : I) → HeldStep D I
  IdleNew : (idle : I) → HeldStep D I
  IdleOut : (ticket : ℕ) → HeldStep D I
  -- a round of idles begins, and the first one of it runs
  IdlesTaken : HeldStep D I
  IdleBegun : HeldStep D I

abbrev pub held_after : {D I : Type 0} → Held D I → HeldStep D I → Held D I
held_after h (Listed needed token) = record h { lifecycle = if needed then with_listing token h.lifecycle else h.lifecycle }
held_after h (Unlisted token) =
    record h { lifecycle = filter (is_another token) h.lifecycle; asks = none_kept_for token h.asks }
held_after h (Pend action) = record h { pending = action }
held_after h (Asking steps) = record h { asks = asks_after h.asks steps }
held_after h (AskingIn token steps) = record h { asks = asks_after (of_turn token h.asks) steps }
held_after h Begun = record h { asks = after_begin h.asks }
held_after h (Told answer) = record h { asks = with_answer answer h.asks }
held_after h Owe = record h { asks = with_answer_owed h.asks }
held_after h (Paid answer) = record h { asks = with_owed_answer answer h.asks }
held_after h Cleared = record h { asks = without_old h.asks; warnings = [] }
held_after h (Warned kept told) = record h { warnings = with_warning kept told h.warnings }
held_after h (StopNoted note) = record h { stops = h.stops ++ note ∷ [] }
held_after h (IdleIn idle) = record h { asks = with_idle idle h.asks }
held_after h (IdleNew idle) = record h { asks = with_new_idle idle h.asks }
held_after h (IdleOut ticket) = record h { asks = without_idle ticket h.asks }
held_after h IdlesTaken = record h { asks = taken_up h.asks }
held_after h IdleBegun = record h { asks = idle_begun h.asks }
