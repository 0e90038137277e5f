-- The armings of timers, which the machine numbers in the order of their making. calloop keeps nothing of the kind: there an
-- entry of the wheel is all that is known of an arming.
use Rattle.std.specs.Prelude.{ℕ, ◌+◌, List, [], ◌∷◌, ◌++◌, map, filter, Bool, nat_eq, if◌then◌else◌, Option, Some, None}
use Rattle.calloop_slots.specs.declared.token.Token.{Token}
use Rattle.calloop_slots.specs.declared.wheel.Entry.{Entry}
use Rattle.calloop_slots.specs.declared.wheel.Instant.{Instant}
use Rattle.calloop_slots.specs.Deadlines.{is_before, is_due, is_of, is_other, entry_of, put_behind, front, behind_front}
use Rattle.calloop_poll.specs.declared.sys.Readiness.{Readiness}
use Rattle.calloop_poll.specs.declared.sys.poll.Pending.{Pending}
use Rattle.calloop_poll.specs.sys.Polls.{
  PollView,
  PollStep,
  TakePass,
  PutBack,
  Arm,
  ArmAgain,
  Cancel,
  Call,
  ReadClock,
  Socket,
  Fault,
  poll_after,
  posted_events,
  polled_events,
  timer_event,
  tail_of,
}

-- an arming: its number, its counter and its deadline
pub record Arming : Type 0 where
  pub number : ℕ
  pub counter : ℕ
  pub deadline : Instant

-- an entry of the deadlines, with the number of its arming
pub record NumberedEntry : Type 0 where
  pub entry : Entry
  pub number : ℕ

-- the origin of an event: this arming, which was gathered at this moment, or something else
pub data Origin : Type 0 where
  Elsewhere : Origin
  Due : (arming : Arming) (gathered : ℕ) → Origin

-- an event of the batch, with its origin
pub record Waiting : Type 0 where
  pub event : Pending
  pub origin : Origin

-- a call of a timer's callback: the deadline that it handed out, and the arming that it belongs to, which is the last one made
-- under its counter, if there is any
pub record TimerCall : Type 0 where
  pub deadline : Instant
  pub arming : Option Arming

pub record Ledger : Type 0 where
  -- the places of the armings: in the deadlines, in the batch, cancelled, or cut from the batch
  pub armed : List NumberedEntry
  pub batch : List Waiting
  pub cancelled : List ℕ
  pub cut : List Waiting
  -- all armings, the last one first, and how many there are
  pub made : List Arming
  pub count : ℕ
  pub calls : List TimerCall

-- the last arming made under this counter
abbrev pub latest : (counter : ℕ) → List Arming → Option Arming
latest counter [] = None
latest counter (a ∷ as') = if nat_eq a.counter counter then Some a else latest counter as'

-- in its place among the deadlines
abbrev pub armed_among : NumberedEntry → List NumberedEntry → List NumberedEntry
armed_among a armed = put_behind (λ x. is_before x.entry a.entry) a armed

abbrev pub entry_in : NumberedEntry → Entry
entry_in a = a.entry

abbrev pub number_of : NumberedEntry → ℕ
number_of a = a.number

abbrev pub arming_of : NumberedEntry → Arming
arming_of a = record { number = a.number; counter = a.entry.counter; deadline = a.entry.deadline }

abbrev pub is_under_other : (counter : ℕ) → NumberedEntry → Bool
is_under_other counter a = is_other counter a.entry

abbrev pub is_under : (counter : ℕ) → NumberedEntry → Bool
is_under counter a = is_of counter a.entry

abbrev pub arm : Ledger → (counter : ℕ) → (deadline : Instant) → Token → Ledger
arm l counter deadline token =
    record l {
      armed = armed_among (record { entry = entry_of counter deadline token; number = l.count }) l.armed;
      made = record { number = l.count; counter = counter; deadline = deadline } ∷ l.made;
      count = l.count + 1;
    }

-- what a source's step notes, which reads the next counter
abbrev pub step_noted : {P : Type 0} → Ledger → PollView P → PollStep P → Ledger
step_noted l v (Arm deadline token) = arm l v.deadlines.next deadline token
step_noted l v (ArmAgain counter deadline token) = arm l counter deadline token
step_noted l v (Cancel counter) =
    record l {
      armed = filter (is_under_other counter) l.armed;
      cancelled = l.cancelled ++ map number_of (filter (is_under counter) l.armed);
    }
step_noted l v (Call counter deadline) =
    record l { calls = l.calls ++ record { deadline = deadline; arming = latest counter l.made } ∷ [] }
step_noted l v TakePass = l
step_noted l v (PutBack pass) = l
step_noted l v (ReadClock now after) = l
step_noted l v (Socket edit after) = l
step_noted l v (Fault call cause after) = l

abbrev pub steps_noted : {P : Type 0} → Ledger → PollView P → List (PollStep P) → Ledger
steps_noted l v [] = l
steps_noted l v (s ∷ ss) = steps_noted (step_noted l v s) (poll_after v s) ss

abbrev pub from_elsewhere : Pending → Waiting
from_elsewhere e = record { event = e; origin = Elsewhere }

abbrev pub from_deadline : (now : ℕ) → NumberedEntry → Waiting
from_deadline now a = record { event = timer_event a.entry; origin = Due (arming_of a) now }

abbrev pub is_due_entry : (now : ℕ) → NumberedEntry → Bool
is_due_entry now a = is_due now a.entry

-- the entries that are due, and what is left behind them
abbrev pub due_in : (now : ℕ) → List NumberedEntry → List NumberedEntry
due_in now armed = front (is_due_entry now) armed

abbrev pub not_due_in : (now : ℕ) → List NumberedEntry → List NumberedEntry
not_due_in now armed = behind_front (is_due_entry now) armed

-- what a gathering notes
abbrev pub gathering_noted : Ledger → (posted : List ℕ) → (given : List (ℕ × Readiness)) → (now : ℕ) → Ledger
gathering_noted l posted given now =
    record l {
      armed = not_due_in now l.armed;
      batch =
          ((l.batch ++ map from_elsewhere (posted_events posted)) ++ map from_elsewhere (polled_events given))
          ++ map (from_deadline now) (due_in now l.armed);
    }

-- what is noted of an event that a source asked for
abbrev pub appended_noted : Ledger → Pending → Ledger
appended_noted l e = record l { batch = l.batch ++ from_elsewhere e ∷ [] }

abbrev pub heads_of : {A : Type 0} → List A → List A
heads_of [] = []
heads_of (x ∷ xs) = x ∷ []

-- what the cut of an event notes
abbrev pub cut_noted : Ledger → Ledger
cut_noted l = record l { batch = tail_of l.batch; cut = l.cut ++ heads_of l.batch }

-- no arming yet
abbrev pub new_ledger : Ledger
new_ledger = record { armed = []; batch = []; cancelled = []; cut = []; made = []; count = 0; calls = [] }
