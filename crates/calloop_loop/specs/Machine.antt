-- The machine of the loop: its state, and the changes of it. What the code holds of the state is a `View`; the state itself also
-- has reuse counts without bound and a ledger of all armings, which calloop keeps nowhere.
use Rattle.std.specs.Prelude.{◌≡◌, ℕ, ◌+◌, ◌%◌, List, [], ◌∷◌, ◌++◌, map, Bool, false, Option, Some, None, slice_get}
use Rattle.std.specs.Arc.{arc_value}
use Rattle.logbook.specs.Pages.{Book}
use Rattle.calloop_slots.specs.Widths.{versions}
use Rattle.calloop_slots.specs.declared.list.Content.{Content}
use Rattle.calloop_slots.specs.declared.list.Content.TheVariants.{Source, InTurn}
use Rattle.calloop_slots.specs.declared.list.Slot.{Slot}
use Rattle.calloop_slots.specs.Slots.{with_change, first_changed, with_content, after_claim, is_empty}
use Rattle.calloop_poll.specs.sys.Batches.{ArePosted}
use Rattle.calloop_wake.specs.declared.watch.Watch.{Watch}
use Rattle.calloop_slots.specs.declared.token.RegistrationToken.{RegistrationToken}
use Rattle.calloop_sources.specs.declared.sources.source.PostAction.TheVariants.{Continue}
use Rattle.calloop_poll.specs.declared.sys.Readiness.{Readiness}
use Rattle.calloop_poll.specs.declared.sys.poll.Pending.{Pending}
use Rattle.calloop_poll.specs.sys.Pollers.{Outside}
use Rattle.calloop_poll.specs.sys.Polls.{
  PollView,
  PollStep,
  poll_view,
  polls_after,
  AllAllowed,
  after_gather,
  with_event,
  with_new_poller,
  with_watch,
  after_count,
  with_pass,
  marks_taken,
  after_cut,
}
use Rattle.calloop_loop.specs.Held.{Held, HeldStep, Asking, AskingIn, held_after}
use Rattle.calloop_loop.specs.Askings.{all_handed, no_asks, of_turn}
use Rattle.calloop_loop.specs.Ledgers.{Ledger, steps_noted, gathering_noted, appended_noted, cut_noted, new_ledger}
use Rattle.calloop_loop.specs.declared.EventLoop.{EventLoop}

-- a slot: how often it was used again, without bound, and its content
pub record Registration (D : Type 0) : Type 0 where
  pub reuse : ℕ
  pub content : Content D

-- the machine's state between two steps
pub record World (D I P : Type 0) : Type 0 where
  pub slots : List (Registration D)
  pub poll : PollView P
  pub held : Held D I
  -- the tickets whose answers were handed out
  pub handed : List ℕ
  -- what is known of the armings of timers
  pub ledger : Ledger
  -- the name of the loop's signal, which stays
  pub signal : Book

-- the part of the state that the loop holds
pub record View (D I P : Type 0) : Type 0 where
  pub slots : List (Slot D)
  pub poll : PollView P
  pub held : Held D I
  pub signal : Book

abbrev pub slot_of : {D : Type 0} → Registration D → Slot D
slot_of r = record { version = r.reuse % versions; content = r.content }

-- reuse counts are known modulo the number of versions, and the ledger isn't known
abbrev pub visible : {D I P : Type 0} → World D I P → View D I P
visible w = record { slots = map slot_of w.slots; poll = w.poll; held = w.held; signal = w.signal }

abbrev pub view_of : {D P C R X I : Type 0} → EventLoop D P C R X I → View D I P
view_of l =
    record {
      slots = l.sources;
      poll = poll_view l.poll;
      held =
          record {
            lifecycle = l.lifecycle.tokens.items;
            pending = l.pending;
            asks = l.requests;
            warnings = l.warnings.errors.items;
            stops = l.stops;
          };
      signal = (arc_value l.signal.shared).name;
    }

-- these marks were taken
abbrev pub with_marks_taken : {D I P : Type 0} → List RegistrationToken → View D I P → View D I P
with_marks_taken taken v = record v { poll = marks_taken taken v.poll }

-- every change of the state is one of these
pub data Change (D I P : Type 0) : Type 0 where
  -- the first vacant slot is used again, or a slot is added, for a source that comes into the loop
  Claim : (source : D) → Change D I P
  -- another content is put into a slot that isn't vacant
  Put : (slot : ℕ) (content : Content D) → Change D I P
  -- a source is changed in its slot, or another one takes its place there
  Swapped : (slot : ℕ) (old new : D) → Change D I P
  -- a source's steps
  Polls : (steps : List (PollStep P)) → Change D I P
  -- the poller changed
  Polling : (poller : P) → Change D I P
  -- the loop looked at its board or took its marks, which its watch noted
  Watching : (watch : Watch) → Change D I P
  -- room was made for what so many places can give
  Counting : (places : ℕ) → Change D I P
  -- what loop and machine hold alike changes
  Holds : (step : HeldStep D I) → Change D I P
  -- an event that a source asks for before a wait joins the batch
  Appended : (event : Pending) → Change D I P
  -- the batch is put together, of these posted keys, of the poller's events, and of the timers that are due at this moment
  Gathered : (posted : List ℕ) (given : List (ℕ × Readiness)) (now : ℕ) → Change D I P
  -- the first event leaves the batch, for this slot or for none
  Cut : (slot : Option ℕ) → Change D I P
  -- the turn of the event is over
  Ended : Change D I P

-- by what is seen
abbrev pub after_change : {D I P : Type 0} → View D I P → Change D I P → View D I P
after_change v (Put slot content) = record v { slots = with_change (with_content content) v.slots slot }
after_change v (Swapped slot old new) = record v { slots = with_change (with_content (Source new)) v.slots slot }
after_change v (Claim source) = record v { slots = after_claim v.slots }
after_change v (Polls steps) = record v { poll = polls_after v.poll steps }
after_change v (Polling poller) = record v { poll = with_new_poller poller v.poll }
after_change v (Watching watch) = record v { poll = with_watch watch v.poll }
after_change v (Counting places) = record v { poll = after_count places v.poll }
after_change v (Holds step) = record v { held = held_after v.held step }
after_change v (Appended event) = record v { poll = with_event event v.poll }
after_change v (Gathered posted given now) = record v { poll = after_gather posted given now v.poll }
after_change v (Cut slot) = record v { poll = after_cut v.poll }
after_change v Ended = record v { poll = with_pass None v.poll }

abbrev pub all_viewed : {D I P : Type 0} → View D I P → List (Change D I P) → View D I P
all_viewed v [] = v
all_viewed v (c ∷ cs) = all_viewed (after_change v c) cs

-- in the machine

-- the tickets whose answers a step hands out
abbrev pub handed_in : {D I : Type 0} → Held D I → HeldStep D I → List ℕ
handed_in h (Asking steps) = all_handed h.asks steps
handed_in h (AskingIn token steps) = all_handed (of_turn token h.asks) steps
handed_in h step = []

abbrev pub slot_with : {D : Type 0} → Content D → Registration D → Registration D
slot_with c r = record { reuse = r.reuse; content = c }

abbrev pub next_use : {D : Type 0} → Registration D → Registration D
next_use r = record { reuse = r.reuse + 1; content = InTurn }

abbrev pub is_free : {D : Type 0} → Registration D → Bool
is_free r = is_empty r.content

-- the first vacant slot is used again, or a slot is added, for a source that is registered meanwhile
abbrev pub with_claim : {D : Type 0} → List (Registration D) → List (Registration D)
with_claim rs = first_changed is_free next_use (record { reuse = 0; content = InTurn }) rs

abbrev pub world_after : {D I P : Type 0} → World D I P → Change D I P → World D I P
world_after w (Put slot content) = record w { slots = with_change (slot_with content) w.slots slot }
world_after w (Swapped slot old new) = record w { slots = with_change (slot_with (Source new)) w.slots slot }
world_after w (Claim source) = record w { slots = with_claim w.slots }
world_after w (Polls steps) = record w { poll = polls_after w.poll steps; ledger = steps_noted w.ledger w.poll steps }
world_after w (Polling poller) = record w { poll = with_new_poller poller w.poll }
world_after w (Watching watch) = record w { poll = with_watch watch w.poll }
world_after w (Counting places) = record w { poll = after_count places w.poll }
world_after w (Holds step) = record w { held = held_after w.held step; handed = w.handed ++ handed_in w.held step }
world_after w (Appended event) = record w { poll = with_event event w.poll; ledger = appended_noted w.ledger event }
world_after w (Gathered posted given now) =
    record w { poll = after_gather posted given now w.poll; ledger = gathering_noted w.ledger posted given now }
world_after w (Cut slot) = record w { poll = after_cut w.poll; ledger = cut_noted w.ledger }
world_after w Ended = record w { poll = with_pass None w.poll }

abbrev pub world_after_all : {D I P : Type 0} → World D I P → List (Change D I P) → World D I P
world_after_all w [] = w
world_after_all w (c ∷ cs) = world_after_all (world_after w c) cs

-- this slot has a content, or its source is taken out
abbrev pub IsFull : {D : Type 0} → List (Slot D) → ℕ → Type 0
IsFull {D} slots i = (s : Slot D) × (slice_get slots i ≡ Some s) × (is_empty s.content ≡ false)

-- this source is in this slot
abbrev pub StandsIn : {D : Type 0} → List (Slot D) → ℕ → D → Type 0
StandsIn {D} slots i d = (s : Slot D) × (slice_get slots i ≡ Some s) × (s.content ≡ Source d)

-- The conditions of each change: a vacant slot stays vacant until it is claimed, what is exchanged was there, a source's steps
-- can be made, no source makes up a posted event, and posted keys ascend, at most as many as places were counted. Which they are
-- is the answer of the board, which is under a lock; calloop has them from the kernel.
abbrev pub Fits : {D I P : Type 0} → Outside P → View D I P → Change D I P → Type 0
Fits O v (Put slot content) = IsFull v.slots slot
Fits O v (Swapped slot old new) = StandsIn v.slots slot old
Fits O v (Polls steps) = AllAllowed O v.poll steps
Fits O v (Appended event) = event.posted ≡ false
Fits O v (Gathered posted given now) = ArePosted v.poll.places posted
Fits O v change = Unit {0}

abbrev pub AllFit : {D I P : Type 0} → Outside P → View D I P → List (Change D I P) → Type 0
AllFit O v [] = Unit {0}
AllFit O v (c ∷ cs) = Fits O v c × AllFit O (after_change v c) cs

-- nothing has happened yet
pub record IsNew {D I P : Type 0} (w : World D I P) : Type 0 where
  pub slots : w.slots ≡ []
  pub table : w.poll.table ≡ []
  pub deadlines : w.poll.deadlines ≡ record { entries = []; next = 0 }
  pub batch : w.poll.batch ≡ []
  pub passes : w.poll.passes ≡ []
  pub pass : w.poll.pass ≡ None
  pub places : w.poll.places ≡ 0
  pub unwatched : w.poll.watch.notes ≡ []
  pub held : w.held ≡ record { lifecycle = []; pending = Continue; asks = no_asks; warnings = []; stops = [] }
  pub handed : w.handed ≡ []
  pub ledger : w.ledger ≡ new_ledger

-- a machine to which nothing has happened agrees with the loop
abbrev pub BeginsAnew : {D P C R X I : Type 0} → EventLoop D P C R X I → Type 0
BeginsAnew {D} {P} {C} {R} {X} {I} l = (w : World D I P) × IsNew w × (visible w ≡ view_of l)
