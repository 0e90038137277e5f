-- What a source can read of `Poll` and do to it, and what the loop does with the batch.
-- calloop's `Poll` uses the OS poller, and files for its pings; here pings have a board, which is behind a lock and
-- isn't seen, and the loop owns the batch that calloop hands out from a buffer.
use Rattle.std.specs.Prelude.{
  ◌≡◌,
  ℕ,
  ◌+◌,
  ◌-◌,
  ◌^◌,
  ◌≤◌,
  ◌<◌,
  List,
  [],
  ◌∷◌,
  ◌++◌,
  map,
  filter,
  length,
  not,
  nat_eq,
  Bool,
  true,
  false,
  Option,
  Some,
  None,
  Ok,
  Err,
  if◌then◌else◌,
  vec_capacity,
  ◌⊎◌,
}
use Rattle.std.specs.Option.{option_map}
use Rattle.std.specs.declared.io.Error.{Error as Cause}
use Rattle.calloop_slots.specs.declared.error.Error.{Error}
use Rattle.calloop_slots.specs.declared.error.Error.TheVariants.{IoError, OutOfMemory}
use Rattle.std.specs.IoError.{error_kind}
use Rattle.std.specs.declared.io.ErrorKind.{ErrorKind}
use Rattle.std.specs.declared.io.ErrorKind.TheVariants.{AlreadyExists}
use Rattle.calloop_slots.specs.declared.token.RegistrationToken.{RegistrationToken}
use Rattle.calloop_slots.specs.declared.token.Token.{Token}
use Rattle.calloop_slots.specs.declared.wheel.Entry.{Entry}
use Rattle.calloop_slots.specs.declared.wheel.Instant.{Instant}
use Rattle.calloop_slots.specs.Deadlines.{
  Deadlines,
  with_new,
  with_again,
  with_entries,
  after_cancel,
  is_armed,
  due,
  not_due,
}
use Rattle.calloop_slots.specs.Tokens.{token_of, key_of}
use Rattle.calloop_wake.specs.Passes.{Taken}
use Rattle.calloop_wake.specs.Boards.{fresh_pass}
use Rattle.calloop_wake.specs.Watches.{with_note}
use Rattle.calloop_wake.specs.declared.watch.Watch.{Watch}
use Rattle.calloop_wake.specs.declared.notes.Note.TheVariants.{Counted, Unposted, Marked}
use Rattle.calloop_poll.specs.declared.sys.Readiness.{Readiness}
use Rattle.calloop_poll.specs.declared.sys.poll.Pending.{Pending}
use Rattle.calloop_poll.specs.declared.sys.poll.Poll.{Poll}
use Rattle.calloop_poll.specs.sys.Pollers.{Outside, PollerCall, events_per_wait}
use Rattle.calloop_poll.specs.sys.Tables.{Table, Edit, after_edit, cannot, call_of, Called}
use Rattle.calloop_poll.specs.sys.Batches.{key_of_pass}

-- the poller, the table of sockets, the armed deadlines, the events that wait for their turn, the passes of the posted
-- ones among them in their order, and the pass of the event whose turn it is
pub record PollView (P : Type 0) : Type 0 where
  pub poller : P
  pub table : Table
  pub deadlines : Deadlines
  pub batch : List Pending
  pub passes : List Taken
  pub pass : Option Taken
  -- how many keys had places on the board at the last count
  pub places : ℕ
  -- what the loop did to its board
  pub watch : Watch

abbrev pub poll_view : {P C R : Type 0} → Poll P C R → PollView P
poll_view p =
    record {
      poller = p.poller;
      table = p.table;
      deadlines = p.wheel;
      batch = p.batch.events;
      passes = p.batch.passes;
      pass = p.batch.pass;
      places = p.places;
      watch = p.batch.watch;
    }

-- the event whose turn it is gets this pass, or none; the pass before goes back to the board
abbrev pub with_pass : {P : Type 0} → Option Taken → PollView P → PollView P
with_pass pass v = record v { pass = pass }

abbrev pub with_deadlines : {P : Type 0} → Deadlines → PollView P → PollView P
with_deadlines d v = record v { deadlines = d }

abbrev pub with_new_poller : {P : Type 0} → P → PollView P → PollView P
with_new_poller p v = record v { poller = p }

abbrev pub with_watch : {P : Type 0} → Watch → PollView P → PollView P
with_watch w v = record v { watch = w }

-- the places on the board are counted
abbrev pub after_count : {P : Type 0} → (places : ℕ) → PollView P → PollView P
after_count places v = record v { places = places; watch = with_note (Counted places) v.watch }

-- these marks were taken, in the order in which they had been set
abbrev pub marks_taken : {P : Type 0} → List RegistrationToken → PollView P → PollView P
marks_taken taken v = record v { watch = with_note (Marked taken) v.watch }

-- what a source can do; its actions under the locks of the board and of a ping's cell aren't seen
pub data PollStep (P : Type 0) : Type 0 where
  TakePass : PollStep P
  PutBack : (pass : Taken) → PollStep P
  -- a deadline is armed under a new counter, or under one that was used before, or this counter's deadline is cancelled
  Arm : (deadline : Instant) (token : Token) → PollStep P
  ArmAgain : (counter : ℕ) (deadline : Instant) (token : Token) → PollStep P
  Cancel : (counter : ℕ) → PollStep P
  -- the callback of the timer of this counter is called with this deadline
  Call : (counter : ℕ) (deadline : Instant) → PollStep P
  ReadClock : (now : ℕ) (after : P) → PollStep P
  -- the table of sockets is edited, and the poller is told if it has to know
  Socket : (edit : Edit) (after : P) → PollStep P
  -- the poller refused a call for a socket
  Fault : (call : PollerCall) (cause : Cause) (after : P) → PollStep P

abbrev pub poll_after : {P : Type 0} → PollView P → PollStep P → PollView P
poll_after v TakePass = record v { pass = None }
poll_after v (PutBack pass) = with_pass (Some pass) v
poll_after v (Arm deadline token) = with_deadlines (with_new deadline token v.deadlines) v
poll_after v (ArmAgain counter deadline token) = with_deadlines (with_again counter deadline token v.deadlines) v
poll_after v (Cancel counter) = with_deadlines (after_cancel counter v.deadlines) v
poll_after v (Call counter deadline) = v
poll_after v (ReadClock now after) = with_new_poller after v
poll_after v (Socket edit after) = record v { poller = after; table = after_edit edit v.table }
poll_after v (Fault call cause after) = with_new_poller after v

abbrev pub polls_after : {P : Type 0} → PollView P → List (PollStep P) → PollView P
polls_after v [] = v
polls_after v (s ∷ ss) = polls_after (poll_after v s) ss

-- when a step is possible; a counter is armed again, or its callback is called, only while it has no deadline
abbrev pub Allowed : {P : Type 0} → Outside P → PollView P → PollStep P → Type 0
Allowed O v TakePass = Unit {0}
Allowed O v (PutBack pass) = Unit {0}
Allowed O v (Arm deadline token) = Unit {0}
Allowed O v (ArmAgain counter deadline token) = (is_armed counter v.deadlines ≡ false) × (counter < v.deadlines.next)
Allowed O v (Cancel counter) = Unit {0}
Allowed O v (Call counter deadline) = is_armed counter v.deadlines ≡ false
Allowed O v (ReadClock now after) = O.reads v.poller now after
Allowed O v (Socket edit after) = (cannot edit v.table ≡ None) × Called O v.poller (call_of edit v.table) (Ok tt) after
Allowed O v (Fault call cause after) = Called O v.poller (Some call) (Err cause) after

abbrev pub AllAllowed : {P : Type 0} → Outside P → PollView P → List (PollStep P) → Type 0
AllAllowed O v [] = Unit {0}
AllAllowed O v (s ∷ ss) = Allowed O v s × AllAllowed O (poll_after v s) ss

-- these steps are possible, and lead to this state
abbrev pub AllStepped : {P : Type 0} → Outside P → PollView P → List (PollStep P) → PollView P → Type 0
AllStepped O v steps v' = AllAllowed O v steps × (v' ≡ polls_after v steps)

-- the poller's own key, which no token has; the crate polling keeps it for its notifier too
abbrev pub own_key : ℕ
own_key = 2 ^ 64 - 1

abbrev pub is_tokens : ℕ → Bool
is_tokens key = not (nat_eq key own_key)

-- readable, and nothing else
abbrev pub ready_to_read : Readiness
ready_to_read = record { readable = true; writable = false; error = false }

abbrev pub posted_event : ℕ → Pending
posted_event key = record { readiness = ready_to_read; token = token_of key; posted = true }

abbrev pub polled_event : ℕ × Readiness → Pending
polled_event given = record { readiness = given.1; token = token_of given.0; posted = false }

abbrev pub is_for_a_token : ℕ × Readiness → Bool
is_for_a_token given = is_tokens given.0

-- the events of posted keys, all of which are tokens' keys, and the poller's events; its own key is no token's
abbrev pub posted_events : List ℕ → List Pending
posted_events keys = map posted_event keys

abbrev pub polled_events : List (ℕ × Readiness) → List Pending
polled_events given = map polled_event (filter is_for_a_token given)

abbrev pub timer_event : Entry → Pending
timer_event entry = record { readiness = ready_to_read; token = entry.token; posted = false }

abbrev pub timer_events : List Entry → List Pending
timer_events entries = map timer_event entries

-- an event that a source asks for before a wait; in calloop it is in synthetic_events
abbrev pub own_event : Readiness × Token → Pending
own_event given = record { readiness = given.0; token = given.1; posted = false }

abbrev pub own_events : List (Readiness × Token) → List Pending
own_events given = map own_event given

-- these events, which a source asks for before a wait, are put in the batch in order, behind those that wait already
abbrev pub with_events : {P : Type 0} → List (Readiness × Token) → PollView P → PollView P
with_events given v = record v { batch = v.batch ++ own_events given }

-- this event is put in the batch, behind those that wait already
abbrev pub with_event : {P : Type 0} → Pending → PollView P → PollView P
with_event e v = record v { batch = v.batch ++ e ∷ [] }

-- the posted keys, as far as there is room, and the due deadlines are taken; the batch is then what was left over, the
-- posted keys, the poller's events, and the timers; calloop's Poll::poll gives the last two
abbrev pub after_gather : {P : Type 0} → (posted : List ℕ) → (given : List (ℕ × Readiness)) → (now : ℕ) → PollView P
    → PollView P
after_gather posted given now v =
    record v {
      deadlines = with_entries (not_due now v.deadlines.entries) v.deadlines;
      batch = ((v.batch ++ posted_events posted) ++ polled_events given) ++ timer_events (due now v.deadlines.entries);
      passes = v.passes ++ map (fresh_pass v.watch.name) posted;
      watch = with_note (Unposted v.places posted) v.watch;
    }

abbrev pub is_filled : {A : Type 0} → List A → Bool
is_filled [] = false
is_filled (x ∷ xs) = true

abbrev pub tail_of : {A : Type 0} → List A → List A
tail_of [] = []
tail_of (x ∷ xs) = xs

abbrev pub head_of : {A : Type 0} → List A → Option A
head_of [] = None
head_of (x ∷ xs) = Some x

-- the event leaves the batch for its turn, a posted one with its pass
abbrev pub with_turn_of : {P : Type 0} → Pending → PollView P → PollView P
with_turn_of e v =
    if e.posted
    then record (with_pass (head_of v.passes) v) { batch = tail_of v.batch; passes = tail_of v.passes }
    else record (with_pass None v) { batch = tail_of v.batch }

-- the first event is cut from the batch
abbrev pub cut_from : {P : Type 0} → List Pending → PollView P → PollView P
cut_from [] v = v
cut_from (e ∷ es) v = with_turn_of e v

abbrev pub after_cut : {P : Type 0} → PollView P → PollView P
after_cut v = cut_from v.batch v

-- a posted event has its pass, and the pass is of the key of its token
abbrev pub IsPassOf : Pending → Option Taken → Type 0
IsPassOf e pass = e.posted ≡ true → option_map key_of_pass pass ≡ Some (key_of e.token)

-- an OS error of this kind
abbrev pub IsOfKind : ErrorKind → Error → Type 0
IsOfKind kind e = (cause : Cause) × (e ≡ IoError cause) × (error_kind cause ≡ kind)

-- why opening a place fails: the key has one, or no memory was left; calloop's poller refuses a descriptor it has
abbrev pub CannotOpen : Error → Type 0
CannotOpen e = IsOfKind AlreadyExists e ⊎ (e ≡ OutOfMemory)

-- there is room for all that one poll can gather, and for `more` further events
pub record IsReady {P C R : Type 0} (more : ℕ) (p : Poll P C R) : Type 0 where
  pub batch : more + (p.places + (events_per_wait + length p.wheel.entries)) ≤ p.batch.room
  pub passes : p.places ≤ p.batch.pass_room
  pub events : p.events.items ≡ []
  pub room : events_per_wait ≤ vec_capacity p.events
