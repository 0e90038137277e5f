-- The calls of a loop's handle as calls of the machine. Calloop's handle reaches its loop through a cell; this one borrows it.
use Rattle.std.specs.Prelude.{◌≡◌, ℕ, List, None}
use Rattle.calloop_slots.specs.declared.token.RegistrationToken.{RegistrationToken}
use Rattle.calloop_slots.specs.declared.list.Slot.{Slot}
use Rattle.calloop_slots.specs.Slots.{content_at, source_of}
use Rattle.calloop_sources.specs.sources.Deeds.{Lent}
use Rattle.calloop_sources.specs.sources.Meanings.{Meaning}
use Rattle.calloop_poll.specs.sys.Pollers.{Outside}
use Rattle.calloop_loop.specs.declared.EventLoop.{EventLoop}
use Rattle.calloop_loop.specs.declared.LoopHandle.{LoopHandle}
use Rattle.calloop_loop.specs.declared.LoopCall.{LoopCall}
use Rattle.calloop_loop.specs.declared.LoopAnswer.{LoopAnswer}
use Rattle.calloop_loop.specs.Askings.{Asks, Runs}
use Rattle.calloop_loop.specs.Lending.{with_loop_poller, with_loop_source}
use Rattle.calloop_loop.specs.Machine.{View, view_of}
use Rattle.calloop_loop.specs.Roles.{only, is_callers}
use Rattle.calloop_loop.specs.Rules.{Case, Did, Leads}

-- what the loop of a handle holds
abbrev pub held_by : {D P C R X I : Type 0} → LoopHandle D P C R X I → View D I P
held_by h = view_of h.inner.now

-- the token names no source of the caller's in this loop: its slot is vacant, was used again since, or holds an entry of
-- the loop's own; calloop's handle refuses the token in the first two cases alone
abbrev pub NamesNone : {D P C R X I : Type 0} → Meaning D P (Lent X (Asks D I)) → RegistrationToken
    → LoopHandle D P C R X I → Type 0
NamesNone M token h = source_of (only (is_callers M) (content_at (held_by h).slots token)) ≡ None

-- the loop that a handle borrows, as it is now
abbrev pub loop_by : {D P C R X I : Type 0} → LoopHandle D P C R X I → EventLoop D P C R X I
loop_by h = h.inner.now

-- the name of the borrow by which it has the loop
abbrev pub lent_by : {D P C R X I : Type 0} → LoopHandle D P C R X I → ℕ
lent_by h = h.inner.ghost_name

-- the handle borrows the very loop that it borrowed before
abbrev pub HasTheSameLoop : {D P C R X I : Type 0} → LoopHandle D P C R X I → LoopHandle D P C R X I → Type 0
HasTheSameLoop old new = lent_by new ≡ lent_by old

-- the content of its loop's slots
abbrev pub slots_by : {D P C R X I : Type 0} → LoopHandle D P C R X I → List (Slot D)
slots_by h = (held_by h).slots

-- the poller of its loop
abbrev pub poller_by : {D P C R X I : Type 0} → LoopHandle D P C R X I → P
poller_by h = h.inner.now.poll.poller

-- what its loop would hold with another poller
abbrev pub held_with_poller : {D P C R X I : Type 0} → P → LoopHandle D P C R X I → View D I P
held_with_poller p h = view_of (with_loop_poller p h.inner.now)

-- what its loop would hold if another source took the place of the one that the token names
abbrev pub held_with_source : {D P C R X I : Type 0} → RegistrationToken → D → LoopHandle D P C R X I → View D I P
held_with_source token d h = view_of (with_loop_source token d h.inner.now)

-- the clock of its loop
abbrev pub clock_by : {D P C R X I : Type 0} → LoopHandle D P C R X I → C
clock_by h = h.inner.now.poll.clock

-- what the loop held before and what it holds after agree with the machine's case of this call, with this answer
abbrev pub IsCase : {D P C R X I : Type 0} → Meaning D P (Lent X (Asks D I)) → Runs D I X → Outside P
    → LoopCall D P X I → LoopAnswer D P X I → LoopHandle D P C R X I → LoopHandle D P C R X I → Type 0
IsCase M runs O call answer old new = Did (Case M runs O call answer) (held_by old) (held_by new)

-- the same case leads on from every state of the machine that agrees with what the loop held before
abbrev pub LeadsAsCase : {D P C R X I : Type 0} → Meaning D P (Lent X (Asks D I)) → Runs D I X → Outside P
    → LoopCall D P X I → LoopAnswer D P X I → LoopHandle D P C R X I → LoopHandle D P C R X I → Type 0
LeadsAsCase M runs O call answer old new = Leads (Case M runs O call answer) (held_by old) (held_by new)
